-- Demand 3 for what is cut from one payload, told by the calls: what holds of the state after the packets holds of the record and the buffers.
use mathlib.Core.Logic.{◌↔◌}
use mathlib.Core.Path.{◌≡◌, refl, sym, ap, ◌∙◌}
use mathlib.Core.Bool.{true}
use mathlib.Core.List.Memᴰ
use mathlib.Core.List.{List, [], ◌∷◌, append-nil, Memᴰ}
use Prim.Native.Nat.{ℕ, ◌≤◌, ◌<◌}
use native.Mathlib.Omega.{arith}
use lib.ListN.{length, take}
use Rattle.pkt.specs.Answers.{Answer, gives, mapped, says}
use Rattle.pkt.proofs.Choice.{pick_yes}
use Rattle.ezpkt.specs.declared.ip4.Template.{Template}
use Rattle.assembly.specs.declared.Rec.{Rec}
use Rattle.assembly.specs.declared.Taken.{Taken}
use Rattle.assembly.specs.declared.step.Progress.{Progress}
use Rattle.std.specs.Prelude.{Result, Ok}
use Rattle.pkt.specs.declared.refusal.Refusal.{Refusal}
use Rattle.assembly.specs.declared.step.Progress.TheVariants.{Complete}
use Rattle.assembly.specs.declared.Outcome.{Outcome}
use Rattle.assembly.specs.declared.Outcome.TheVariants as way
use Rattle.assembly.specs.View.{view}
use Rattle.assembly.specs.Assembly.{State, step, complete, held_bytes}
use Rattle.assembly.specs.Answers.{reply_of, Standing, standing, standing_of, progress_says}
use Rattle.assembly.specs.Cut.{requested}
use Rattle.assembly.specs.Calls.{capacity, map_bytes, take_answer, Takes, usable, progress_answer}
use Rattle.assembly.proofs.Delivers.{says_complete, taken_usable}
use Rattle.assembly.proofs.Only.{progress_only}
use Rattle.demands.specs.Handing.{Handed, DrawnFrom, Reordered}
use Rattle.demands.specs.Assembling.{template_key, AllBuilt, Cover, after_packets}
use Rattle.demands.specs.Cutting.{CutBy, AllCut, CallsAssemble}
use Rattle.demands.specs.Demand3.{OneHeader, FromOne}
use Rattle.demands.proofs.Completing.{calls_assemble, all_built}

-- two standings that are given are the same
given_same : {x y : Standing} → ◌≡◌ {A = Answer Standing} (gives x) (gives y) → x ≡ y
given_same q = cc q

module _ (t : Template) (p : List ℕ) (one : OneHeader t) (few : length p ≤ capacity) (ls : List (List ℕ)) (r : Rec) (d m : List ℕ)
    (all : AllCut t p ls) (handed : Handed (template_key t) ls r d m) where
  calls : CallsAssemble t p
  calls = calls_assemble t p one few

  s : State
  s = view r d m

  state_is : s ≡ after_packets t ls
  unfolding s
  state_is = calls.handing ls r d m handed

  built : AllBuilt t p ls
  built = all_built t p ls all

  ready : usable capacity map_bytes s ≡ true
  unfolding s
  ready = ap (usable capacity map_bytes) state_is ∙ taken_usable capacity map_bytes (template_key t) (omega arith) ls

  stands : progress_answer capacity map_bytes s ≡ gives (standing_of s)
  stands = pick_yes _ _ ready

  not_refused : (l : List ℕ) (off len : ℕ) → CutBy t p l off len → (a : Result Taken Refusal) (d' m' : List ℕ) → Takes capacity map_bytes s l a d' m'
      → (x : Taken) × (says a ≡ gives x)
  not_refused l off len by a d' m' x =
      let e : take_answer capacity map_bytes s l ≡ gives (step (after_packets t ls) (requested p off len)) =
      ap (λ (u : State). take_answer capacity map_bytes u l) state_is ∙ calls.assembles.accepted ls l off len (calls.pieces l off len by)
      in
      (reply_of (step (after_packets t ls) (requested p off len)), x.answer ∙ ap (mapped reply_of) e)

  whole_when : (complete s ≡ true) ↔ ((0 < length ls) × Cover t p ls)
  whole_when =
      let e = ap complete state_is in
      let w = calls.assembles.complete_when ls built in
      (λ h. w.0 (sym e ∙ h), λ h. e ∙ w.1 h)

  -- `progress` answers complete exactly if the state is.
  told : (a : Result Progress Refusal) → progress_says a ≡ progress_answer capacity map_bytes s → ((n : ℕ) × (a ≡ Ok (Complete n))) ↔ (complete s ≡ true)
  told a e = (
    λ x. (says_complete s).0 (sym (ap (λ (x : Standing). x.answer) (given_same (sym (ap progress_says x.1) ∙ e ∙ stands)))),
    λ h. (
      length (held_bytes s),
      progress_only a (Ok (Complete (length (held_bytes s)))) (progress_answer capacity map_bytes s) e
          (sym (stands ∙ ap (λ (o : Outcome). gives (standing o (length (held_bytes s)))) ((says_complete s).1 h))),
    ),
  )

  pub from_one : FromOne t p ls r d m
  unfolding s
  from_one =
      record {
        accepted = not_refused;
        never_spoilt = ap (λ (u : State). u.spoilt) state_is ∙ calls.assembles.never_spoilt ls [] (rw append-nil built);
        complete_when = λ a e. let x = told a e in (λ h. whole_when.0 (x.0 h), λ h. x.1 (whole_when.1 h));
        holds =
            λ n e.
            let c : complete s ≡ true = (told (Ok (Complete n)) e).0 (n, refl) in
            let g = calls.assembles.held ls built (sym (ap complete state_is) ∙ c) in
            let same : progress_says (Ok (Complete n)) ≡ gives (standing way.Complete (length p)) = e ∙ ap (progress_answer capacity map_bytes) state_is ∙ g.told in
            let size : n ≡ length p = ap (λ (x : Standing). x.bytes) (given_same same) in
            (size, ap (λ (k : ℕ). take k d) size ∙ ap (λ (u : State). take (length p) u.payload) state_is ∙ g.bytes);
      }

-- ---- all of them

-- a list that has all of another that is not empty is not empty
some_of : (ps ls : List (List ℕ)) → 0 < length ps → DrawnFrom ls ps → 0 < length ls
some_of [] ls h each = absurd (omega arith)
some_of (p ∷ ps) ls h each = go ls (each p (Memᴰ.head refl))
  where
    go : (qs : List (List ℕ)) → Memᴰ p qs → 0 < length qs
    go [] m = absurd (Memᴰ.not-nil m)
    go (q ∷ qs) m = omega arith

-- All pieces of a list that covers the payload, in any order and with any repeats: complete, and the payload is held.
pub all_handed : (t : Template) (p : List ℕ) → OneHeader t → length p ≤ capacity → (ps ls : List (List ℕ)) → 0 < length ps → AllCut t p ps → Cover t p ps
    → Reordered ps ls → (r : Rec) (d m : List ℕ) → Handed (template_key t) ls r d m
    → (progress_answer capacity map_bytes (view r d m) ≡ progress_says (Ok (Complete (length p)))) × (take (length p) d ≡ p)
unfolding Cover
all_handed t p one few ps ls some cut cover (among, each) r d m handed =
    let calls = calls_assemble t p one few in
    let state = calls.handing ls r d m handed in
    let of_one = all_built t p ls (λ l in_List. cut l (among l in_List)) in
    let c : Cover t p ls =
    λ j h.
    let x = cover j h in
    record {
      packet = x.packet;
      off = x.off;
      len = x.len;
      handed = each x.packet x.handed;
      asked = x.asked;
      from = x.from;
      till = x.till;
    } in
    let g = calls.assembles.held ls of_one ((calls.assembles.complete_when ls of_one).1 (some_of ps ls some each, c)) in
    (ap (progress_answer capacity map_bytes) state ∙ g.told, ap (λ (u : State). take (length p) u.payload) state ∙ g.bytes)
