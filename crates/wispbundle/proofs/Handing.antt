-- Each call for C is the call of `open` or `take` that it wraps, and the record goes through C unchanged. So demand 3 holds of the calls for C.
use mathlib.Core.Path.{◌≡◌, refl, sym, ap, subst, ◌∙◌}
use mathlib.Core.Bool.{Bool, true, false, ◌||◌, true≢false}
use mathlib.Core.List.{List, [], ◌∷◌, ◌++◌, map}
use lib.Dec.{eqb}
use borrow.Author.Tests.{eqb-true}
use Prim.Native.Nat.{ℕ, ◌<◌}
use native.Mathlib.Omega.{arith}
use lib.ListN.{length}
use Rattle.pkt.specs.Answers.{Answer, refused, gives, mapped, says}
use Rattle.assembly.specs.declared.Key.{Key}
use Rattle.assembly.specs.declared.Rec.{Rec}
use Rattle.std.specs.Prelude.{Option, Some, None, is_some, unwrap_or, Result, Ok, Err}
use Rattle.std.specs.Bool.{then_some}
use Rattle.pkt.specs.Refusal.{number_of}
use Rattle.pkt.specs.declared.refusal.Refusal.{Refusal}
use Rattle.pkt.specs.declared.refusal.Refusal.TheVariants.{BadAssembly, Short, NotIpv4, BadTotal, BadHeader, Reserved, WrongKey, NotBlocks, TooFar}
use Rattle.assembly.specs.declared.Taken.{Taken}
use Rattle.assembly.specs.Assembly.{State}
use Rattle.assembly.specs.View.{view, record_of}
use Rattle.assembly.specs.Answers.{reply_of, rec_after, payload_after, map_after}
use Rattle.assembly.specs.Calls.{capacity, map_bytes, open_answer, take_answer, Opens, Takes}
use Rattle.demands.specs.Handing as rattle
use Rattle.demands.specs.Numbers.{is_in, Among, number}
use Rattle.demands.proofs.Numbers.{take_in}
use Rattle.demands.proofs.Handing.{in_any_order}
use Rattle.wispbundle.specs.Answers.{rec_of, assembly_for, opened_for, taken_for}
use Rattle.wispbundle.specs.Calls.{AssemblyOpens, AssemblyTakes}
use Rattle.wispbundle.specs.Handing.{HandedByC, by_open, by_take, InAnyOrderByC}
use Rattle.wispbundle.specs.declared.assembling.wb_assembly.{wb_assembly}
use Rattle.wispbundle.specs.declared.assembling.wb_opened.{wb_opened}
use Rattle.wispbundle.specs.declared.assembling.wb_taken.{wb_taken}
use Rattle.wispbundle.proofs.Status.{open_numbered}

-- ---- a record to C and back

total_back : (t : Option ℕ) → then_some (is_some t) (unwrap_or t 0) ≡ t
total_back (Some t) = refl
total_back None = refl

pub to_and_back : (r : Rec) → rec_of (assembly_for r) ≡ r
to_and_back r = λ i. record { key = r.key; total = total_back r.total i; floor = r.floor; spoilt = r.spoilt }

-- ---- opening

-- A status of 0 is that of an assembly that was opened.
opened_is : (a : Answer State) (k : Key) (d m d' m' : List ℕ) (r : wb_opened) → a ≡ open_answer capacity map_bytes k (length d) (length m)
    → r ≡ opened_for (mapped record_of a) → d' ≡ payload_after a d → m' ≡ map_after a m → r.status ≡ 0
    → (s : Rec) × (r.assembly ≡ assembly_for s) × Opens capacity map_bytes k d m (Ok s) d' m'
opened_is (gives t) k d m d' m' r e told payload map z = (
  record_of t,
  ap (λ (o : wb_opened). o.assembly) told,
  record {
    answer = ap (mapped record_of) e;
    payload_is = payload ∙ ap (λ (a : Answer State). payload_after a d) e;
    map_is = map ∙ ap (λ (a : Answer State). map_after a m) e;
  },
)
opened_is (refused n) k d m d' m' r e told payload map z =
    let above : 0 < n = (open_numbered capacity map_bytes k (length d) (length m)).above_0 n (sym e) in
    let is : n ≡ 0 = sym (ap (λ (o : wb_opened). o.status) told) ∙ z in
    absurd (omega (arith, above, is))

opens_is : (k : Key) (d m d' m' : List ℕ) (r : wb_opened) → AssemblyOpens k d m r d' m' → r.status ≡ 0
    → (s : Rec) × (r.assembly ≡ assembly_for s) × Opens capacity map_bytes k d m (Ok s) d' m'
opens_is k d m d' m' r x z =
    opened_is (open_answer capacity map_bytes k (length d) (length m)) k d m d' m' r refl x.answer x.payload_is x.map_is z

-- ---- taking

-- Each number that a call gives is that of one of its refusals.
abbrev numbers : List Refusal → List ℕ
numbers es = map number_of es

named : (es : List Refusal) (n : ℕ) → is_in n (numbers es) ≡ true → (e : Refusal) × (number_of e ≡ n)
named [] n h = absurd (true≢false (sym h))
named (e ∷ es) n h = go (eqb n (number_of e)) refl h (named es n)
  where
    go : (b : Bool) → eqb n (number_of e) ≡ b → (b || is_in n (numbers es)) ≡ true → (is_in n (numbers es) ≡ true → (e : Refusal) × (number_of e ≡ n))
        → (e : Refusal) × (number_of e ≡ n)
    go true q h rest = (e, sym (eqb-true n (number_of e) q))
    go false q h rest = rest h

numbered : (es : List Refusal) (n : ℕ) → Among {A = State} (numbers es) (refused n) → is_in n (numbers es) ≡ true
numbered es n (number m h) = h

abbrev takes_by : List Refusal
takes_by = BadAssembly ∷ Short ∷ NotIpv4 ∷ BadTotal ∷ BadHeader ∷ Reserved ∷ WrongKey ∷ NotBlocks ∷ TooFar ∷ []

-- The answer of `take` behind a call for C, and the record that it leaves the caller.
taken_is : (a : Answer State) (b : wb_assembly) (d m l d' m' : List ℕ) (r : wb_taken) → a ≡ take_answer capacity map_bytes (view (rec_of b) d m) l
    → r ≡ taken_for b (mapped reply_of a) → d' ≡ payload_after a d → m' ≡ map_after a m
    → (t : Result Taken Refusal) × Takes capacity map_bytes (view (rec_of b) d m) l t d' m' × (rec_after (says t) (rec_of b) ≡ rec_of r.assembly)
taken_is (gives s) b d m l d' m' r e told payload map = (
  Ok (reply_of s),
  record {
    answer = ap (mapped reply_of) e;
    payload_is = payload ∙ ap (λ (a : Answer State). payload_after a d) e;
    map_is = map ∙ ap (λ (a : Answer State). map_after a m) e;
  },
  sym (ap (λ (t : wb_taken). rec_of t.assembly) told ∙ to_and_back (record_of s)),
)
taken_is (refused n) b d m l d' m' r e told payload map =
    let (x, is) = named takes_by n (numbered takes_by n (subst (Among (numbers takes_by)) (sym e) (take_in capacity map_bytes (view (rec_of b) d m) l))) in (
      Err x,
      record {
        answer = ap (λ (k : ℕ). refused k) is ∙ ap (mapped reply_of) e;
        payload_is = payload ∙ ap (λ (a : Answer State). payload_after a d) e;
        map_is = map ∙ ap (λ (a : Answer State). map_after a m) e;
      },
      ap rec_of (sym (ap (λ (t : wb_taken). t.assembly) told)),
    )

takes_is : (b : wb_assembly) (d m l d' m' : List ℕ) (r : wb_taken) → AssemblyTakes b d m l r d' m'
    → (t : Result Taken Refusal) × Takes capacity map_bytes (view (rec_of b) d m) l t d' m' × (rec_after (says t) (rec_of b) ≡ rec_of r.assembly)
takes_is b d m l d' m' r x =
    taken_is (take_answer capacity map_bytes (view (rec_of b) d m) l) b d m l d' m' r refl x.answer x.payload_is x.map_is

-- Of what is a record, told to C, C's own record is that record again.
told_again : (a : wb_assembly) (r : Rec) → a ≡ assembly_for r → assembly_for (rec_of a) ≡ a
told_again a r is = ap (λ (x : wb_assembly). assembly_for (rec_of x)) is ∙ ap assembly_for (to_and_back r) ∙ sym is

-- C's assembly after the call is such a record, if it was one before.
told_after : (a : Answer Taken) (b : wb_assembly) (r : wb_taken) → r ≡ taken_for b a → assembly_for (rec_of b) ≡ b
    → assembly_for (rec_of r.assembly) ≡ r.assembly
told_after (gives t) b r told before = told_again r.assembly t.rec (ap (λ (t : wb_taken). t.assembly) told)
told_after (refused n) b r told before = told_again r.assembly (rec_of b) (ap (λ (t : wb_taken). t.assembly) told ∙ sym before)

-- ---- one call after the other

as_handed : (k : Key) (ls : List (List ℕ)) (a : wb_assembly) (d m : List ℕ) → HandedByC k ls a d m → rattle.Handed k ls (rec_of a) d m
as_handed k ls a d m (by_open d₀ m₀ d' m' r x z) =
    let (s, is, opens) = opens_is k d₀ m₀ d' m' r x z in
    subst (λ (s : Rec). rattle.Handed k [] s d' m') (sym (ap rec_of is ∙ to_and_back s)) (rattle.by_open d₀ m₀ d' m' s opens)
as_handed k ls a d m (by_take ms l d₀ m₀ d' m' b r h x) =
    let (t, takes, is) = takes_is b d₀ m₀ l d' m' r x in
    subst (λ (s : Rec). rattle.Handed k (ms ++ (l ∷ [])) s d' m') is
    (rattle.by_take ms l d₀ m₀ d' m' (rec_of b) t (as_handed k ms b d₀ m₀ h) takes)

as_told : (k : Key) (ls : List (List ℕ)) (a : wb_assembly) (d m : List ℕ) → HandedByC k ls a d m → assembly_for (rec_of a) ≡ a
as_told k ls a d m (by_open d₀ m₀ d' m' r x z) = let (s, is, opens) = opens_is k d₀ m₀ d' m' r x z in told_again r.assembly s is
as_told k ls a d m (by_take ms l d₀ m₀ d' m' b r h x) =
    told_after (mapped reply_of (take_answer capacity map_bytes (view (rec_of b) d₀ m₀) l)) b r x.answer (as_told k ms b d₀ m₀ h)

-- Demand 3, over the calls for C.
pub in_any_order_by_c : (k : Key) → InAnyOrderByC k
in_any_order_by_c k =
    record {
      to_and_back = to_and_back;
      as_handed = as_handed k;
      as_told = as_told k;
      one_end =
          λ ls ms a b d m d' m' x y same.
          let one = (in_any_order k).one_end ls ms (rec_of a) (rec_of b) d m d' m' (as_handed k ls a d m x) (as_handed k ms b d' m' y) same in
          let (rec, payload, map) = one in
          (sym (as_told k ls a d m x) ∙ ap assembly_for rec ∙ as_told k ms b d' m' y, payload, map);
      spoilt_when = λ ls a d m x. (in_any_order k).spoilt_when ls (rec_of a) d m (as_handed k ls a d m x);
    }
