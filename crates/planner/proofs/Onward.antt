-- A plan, read from its front: each request carries on where those before it stopped, and the last ends with the payload.
use mathlib.Core.Path.{◌≡◌, refl, sym, ap, subst, ◌∙◌}
use mathlib.Core.Logic.{◌⊎◌, inl, inr}
use mathlib.Core.Bool.{false}
use mathlib.Core.List.Memᴰ
use mathlib.Core.List.{List, [], ◌∷◌, ◌++◌, Memᴰ}
use Prim.Native.Nat.{ℕ, zero, suc, ◌-◌, ◌*◌, ◌≤◌, ◌<◌}
use native.Mathlib.Decide.{dec_lt}
use native.Mathlib.Omega.{arith}
use lib.ListN.{length}
use lib.Dec.{eqb, eqb-suc-suc}
use borrow.Author.Tests.{eqb-true, eqb-false, eq-eqb, ne_eqb}
use Rattle.ezpkt.specs.Build.{start_at, end_at}
use Rattle.pieces.specs.Fragments.{size_for}
use Rattle.pieces.specs.OneByOne.{request_at}
use Rattle.pieces.specs.declared.BlockRequest.{BlockRequest}
use Rattle.planner.specs.Plan.{places_from, places_of, places_in, mf_clear, Plan}
use Rattle.planner.proofs.Places.{places_none, none_left, places_split, places_begin, places_rest}

-- where a request of n bytes begins and ends
abbrev pub start_for : ℕ → BlockRequest → ℕ
start_for n r = start_at r.off n

abbrev pub end_for : ℕ → BlockRequest → ℕ
end_for n r = end_at r.off r.len n

-- A request leads from one place to another: it carries nothing, or what is between them.
pub data Leads (n : ℕ) (r : BlockRequest) (next after : ℕ) : Type 0 where
  nothing : end_for n r ≤ start_for n r → next ≡ after → Leads n r next after
  between : start_for n r < end_for n r → start_for n r ≡ next → end_for n r ≡ after → Leads n r next after

-- .. and it may stand there
pub record Stands (n m : ℕ) (r : BlockRequest) (next after : ℕ) : Type 0 where
  pub within : 8 * r.off ≤ n
  pub short : size_for n r ≤ m
  pub leads : Leads n r next after

-- The requests of a list lead from a place to the end of n bytes, and only the last has MF clear.
pub data Onward (n m : ℕ) : ℕ → List BlockRequest → Type 0 where
  ends : {next : ℕ} {r : BlockRequest} → Stands n m r next n → end_for n r ≡ n → Onward n m next (r ∷ [])
  goes : {next after : ℕ} {r r' : BlockRequest} {rs : List BlockRequest} → Stands n m r next after → end_for n r < n → Onward n m after (r' ∷ rs)
      → Onward n m next (r ∷ r' ∷ rs)

-- A plan of the bytes from a place on.
record PlanFrom (n m next : ℕ) (l : List BlockRequest) : Type 0 where
  none_past : (r : BlockRequest) → Memᴰ r l → 8 * r.off ≤ n
  carries : places_in n l ≡ places_from next (n - next)
  short : (r : BlockRequest) → Memᴰ r l → size_for n r ≤ m
  last_clear : (i : ℕ) → i < length l → mf_clear n (request_at l i) ≡ eqb (suc i) (length l)

-- ---- what a request carries, before others

-- the place to which a request leads, where it and those behind it carry the bytes from a place on
record Led (n next : ℕ) (r : BlockRequest) (l : List ℕ) : Type 0 where
  after : ℕ
  in_bytes : after ≤ n
  by : Leads n r next after
  rest : l ≡ places_from after (n - after)

led : (n next : ℕ) (r : BlockRequest) (l : List ℕ) → next ≤ n → places_of n r ++ l ≡ places_from next (n - next) → Led n next r l
led n next r l h e = go (dec_lt (start_for n r) (end_for n r))
  where
    go : Dec (start_for n r < end_for n r) → Led n next r l
    go (yes some) =
        let is : start_for n r ≡ next = places_begin (start_for n r) next (end_for n r - start_for n r) (n - next) l (omega arith) e in
        let at_next : places_from next (end_for n r - next) ++ l ≡ places_from next (n - next) =
        subst (λ (x : ℕ). places_from x (end_for n r - x) ++ l ≡ places_from next (n - next)) is e in
        record {
          after = end_for n r;
          in_bytes = omega arith;
          by = between some is refl;
          rest = places_rest next (end_for n r) n l (omega arith) (omega arith) at_next;
        }
    go (no none) =
        record {
          after = next;
          in_bytes = h;
          by = nothing (omega arith) refl;
          rest = sym (ap (λ (x : List ℕ). x ++ l) (places_none (start_for n r) (end_for n r - start_for n r) (omega arith))) ∙ e;
        }

-- and back
leads_places : (n next after : ℕ) (r : BlockRequest) (l : List ℕ) → Leads n r next after → l ≡ places_from after (n - after)
    → places_of n r ++ l ≡ places_from next (n - next)
leads_places n next after r l (nothing none e) rest =
    ap (λ (x : List ℕ). x ++ l) (places_none (start_for n r) (end_for n r - start_for n r) (omega arith)) ∙ rest ∙ ap (λ (x : ℕ). places_from x (n - x)) (sym e)
leads_places n next after r l (between some is till) rest =
    ap (λ (x : List ℕ). places_of n r ++ x) (rest ∙ ap (λ (x : ℕ). places_from x (n - x)) (sym till))
    ∙ sym (places_split (start_for n r) (end_for n r) n (omega arith) (omega arith))
    ∙ ap (λ (x : ℕ). places_from x (n - x)) is

-- ---- plans from a place on are such lists

-- the requests behind the first one
behind : (n m next after : ℕ) (r : BlockRequest) (rs : List BlockRequest) → PlanFrom n m next (r ∷ rs)
    → places_in n rs ≡ places_from after (n - after) → PlanFrom n m after rs
behind n m next after r rs p rest =
    record {
      none_past = λ q q-in. p.none_past q (Memᴰ.tail q-in);
      carries = rest;
      short = λ q q-in. p.short q (Memᴰ.tail q-in);
      last_clear = λ i h. p.last_clear (suc i) (omega arith) ∙ eqb-suc-suc (suc i) (length rs);
    }

plan_onward : (n m next : ℕ) (l : List BlockRequest) → 0 < length l → next ≤ n → PlanFrom n m next l → Onward n m next l
unfolding places_in
plan_onward n m next [] some h p = absurd (omega arith)
plan_onward n m next (r ∷ []) some h p =
    let d = led n next r [] h p.carries in
    let all : d.after ≡ n = omega (arith, none_left d.after (n - d.after) d.rest, d.in_bytes) in
    ends
    (record { within = p.none_past r (Memᴰ.head refl); short = p.short r (Memᴰ.head refl); leads = subst (Leads n r next) all d.by })
    (eqb-true (end_for n r) n (p.last_clear 0 (omega arith)))
plan_onward n m next (r ∷ r' ∷ rs) some h p =
    let d = led n next r (places_in n (r' ∷ rs)) h p.carries in
    let more : mf_clear n r ≡ false = p.last_clear 0 (omega arith) ∙ ne_eqb 1 (length (r ∷ r' ∷ rs)) (omega arith) in
    let not_end : (end_for n r ≡ n → ⊥) = eqb-false (end_for n r) n more in
    goes
    (record { within = p.none_past r (Memᴰ.head refl); short = p.short r (Memᴰ.head refl); leads = d.by })
    (omega arith)
    (plan_onward n m d.after (r' ∷ rs) (omega arith) d.in_bytes (behind n m next d.after r (r' ∷ rs) p d.rest))

-- a request before others of a plan
with_first : (n m next after : ℕ) (r : BlockRequest) (rs : List BlockRequest) → Stands n m r next after
    → mf_clear n r ≡ eqb 1 (suc (length rs)) → PlanFrom n m after rs → PlanFrom n m next (r ∷ rs)
unfolding places_in
with_first n m next after r rs s clear p =
    record {
      none_past = λ q q-in. past q (Memᴰ.cases_cons q-in);
      carries = leads_places n next after r (places_in n rs) s.leads p.carries;
      short = λ q q-in. fits q (Memᴰ.cases_cons q-in);
      last_clear = at;
    }
  where
    past : (q : BlockRequest) → (q ≡ r) ⊎ Memᴰ q rs → 8 * q.off ≤ n
    past q (inl e) = rw e s.within
    past q (inr q-in) = p.none_past q q-in

    fits : (q : BlockRequest) → (q ≡ r) ⊎ Memᴰ q rs → size_for n q ≤ m
    fits q (inl e) = rw e s.short
    fits q (inr q-in) = p.short q q-in

    at : (i : ℕ) → i < suc (length rs) → mf_clear n (request_at (r ∷ rs) i) ≡ eqb (suc i) (suc (length rs))
    at zero h = clear
    at (suc i) h = p.last_clear i (omega arith) ∙ sym (eqb-suc-suc (suc i) (length rs))

-- no bytes are left behind the last one
at_end : (n m : ℕ) → PlanFrom n m n []
unfolding places_in
at_end n m =
    record {
      none_past = λ r r-in. absurd (Memᴰ.not-nil r-in);
      carries = sym (places_none n (n - n) (omega arith));
      short = λ r r-in. absurd (Memᴰ.not-nil r-in);
      last_clear = λ i h. absurd (omega arith);
    }

onward_plan : {n m next : ℕ} {l : List BlockRequest} → Onward n m next l → PlanFrom n m next l
onward_plan {n} {m} {next} (ends {r = r} s e) = with_first n m next n r [] s (eq-eqb (end_for n r) n e) (at_end n m)
onward_plan {n} {m} {next} (goes {after = after} {r = r} {r' = r'} {rs = rs} s e o) =
    with_first n m next after r (r' ∷ rs) s (ne_eqb (end_for n r) n (omega arith) ∙ sym (ne_eqb 1 (length (r ∷ r' ∷ rs)) (omega arith))) (onward_plan o)

onward_some : {n m next : ℕ} {l : List BlockRequest} → Onward n m next l → 0 < length l
onward_some (ends s e) = omega arith
onward_some (goes s e o) = omega arith

-- ---- a plan of all bytes

all_bytes : (n : ℕ) → places_from 0 (n - 0) ≡ places_from 0 n
all_bytes n = let e : n - 0 ≡ n = omega arith in ap (places_from 0) e

pub onward_of : (n m : ℕ) (l : List BlockRequest) → Plan n m l → Onward n m 0 l
onward_of n m l p =
    plan_onward n m 0 l p.some (omega arith)
    (record { none_past = p.none_past; carries = p.carries ∙ sym (all_bytes n); short = p.short; last_clear = p.last_clear })

pub plan_of : (n m : ℕ) (l : List BlockRequest) → Onward n m 0 l → Plan n m l
plan_of n m l o =
    let p = onward_plan o in
    record { some = onward_some o; none_past = p.none_past; carries = p.carries ∙ all_bytes n; short = p.short; last_clear = p.last_clear }
