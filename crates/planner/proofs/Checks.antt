-- The check accepts a list exactly if its requests lead on from place 0 to the end.
use mathlib.Core.Path.{◌≡◌, refl, sym, ap, ap₂, subst, ◌∙◌}
use mathlib.Core.Logic.{◌⊎◌, inl, inr}
use mathlib.Core.Bool.{Bool, true, false, not, cond, true≢false, or-true}
use mathlib.Core.List.{List, [], ◌∷◌}
use Prim.Native.Nat.{ℕ, ◌*◌}
use native.Mathlib.Omega.{arith}
use lib.Dec.{ltb, leb, eqb}
use borrow.Author.Tests.{ltb-true, ltb-false, leb-true, eqb-true, eqb-false, not-true, lt-ltb, le-ltb, le-leb, eq-eqb, ne_eqb}
use Rattle.pkt.proofs.Choice.{or_cases, and_both, pick_yes, pick_no}
use Rattle.pieces.specs.Fragments.{size_for}
use Rattle.pieces.specs.declared.BlockRequest.{BlockRequest}
use Rattle.planner.specs.declared.Look.{Look}
use Rattle.planner.specs.Plan.{mf_clear}
use Rattle.planner.specs.Steps.{may_follow, look_with, look_in, complete}
use Rattle.planner.proofs.Onward.{start_for, end_for, Leads, nothing, between, Stands, Onward, ends, goes}

-- what is known where all before a place was good, and more is to follow
abbrev look_at : ℕ → ℕ → ℕ → Look
look_at n m next = record { n = n; m = m; next = next; good = true; ended = false }

-- the place up to which the bytes were carried, with one request more
abbrev next_with : ℕ → ℕ → BlockRequest → ℕ
next_with n next r = cond (ltb (start_for n r) (end_for n r)) (end_for n r) next

-- ---- one request

-- one that may follow stands there,
stands : (n m next : ℕ) (r : BlockRequest) → may_follow (look_at n m next) r ≡ true → Stands n m r next (next_with n next r)
stands n m next r e =
    let p = and_both (leb (8 * r.off) n) _ e in
    let q = and_both (leb (size_for n r) m) _ p.1 in
    record {
      within = leb-true (8 * r.off) n p.0;
      short = leb-true (size_for n r) m q.0;
      leads = go (ltb (start_for n r) (end_for n r)) refl (or_cases (leb (end_for n r) (start_for n r)) (eqb (start_for n r) next) q.1);
    }
  where
    go : (t : Bool) → ltb (start_for n r) (end_for n r) ≡ t → (leb (end_for n r) (start_for n r) ≡ true) ⊎ (eqb (start_for n r) next ≡ true)
        → Leads n r next (cond t (end_for n r) next)
    go true some (inl none) = absurd (omega (arith, ltb-true (start_for n r) (end_for n r) some, leb-true (end_for n r) (start_for n r) none))
    go true some (inr e) = between (ltb-true (start_for n r) (end_for n r) some) (eqb-true (start_for n r) next e) refl
    go false none h = nothing (ltb-false (start_for n r) (end_for n r) none) refl

-- and one that stands there may follow, and leads to that place.
follows : (n m next after : ℕ) (r : BlockRequest) → Stands n m r next after → (may_follow (look_at n m next) r ≡ true) × (next_with n next r ≡ after)
follows n m next after r s = go s.leads
  where
    past : leb (8 * r.off) n ≡ true
    past = le-leb (8 * r.off) n s.within

    short : leb (size_for n r) m ≡ true
    short = le-leb (size_for n r) m s.short

    go : Leads n r next after → (may_follow (look_at n m next) r ≡ true) × (next_with n next r ≡ after)
    go (nothing none e) = (simp (past, short, le-leb (end_for n r) (start_for n r) none), pick_no (end_for n r) next (le-ltb (start_for n r) (end_for n r) none) ∙ e)
    go (between some is till) =
        (simp (past, short, eq-eqb (start_for n r) next is, or-true), pick_yes (end_for n r) next (lt-ltb (start_for n r) (end_for n r) some) ∙ till)

-- With one that may follow and has MF set, what is known is again a place.
known : (n m next : ℕ) (r : BlockRequest) → may_follow (look_at n m next) r ≡ true → mf_clear n r ≡ false
    → look_with (look_at n m next) r ≡ look_at n m (next_with n next r)
known n m next r good more = ap₂ (λ (g d : Bool). record { n = n; m = m; next = next_with n next r; good = g; ended = d }) good more

-- ---- a list

-- where all is good at the end, it was before,
was_good : (k : Look) (l : List BlockRequest) → complete (look_in k l) ≡ true → k.good ≡ true
unfolding look_in
was_good k [] e = (and_both k.good _ e).0
was_good k (r ∷ rs) e = (and_both k.good _ (was_good (look_with k r) rs e)).0

-- and the one before has MF set where another follows
was_more : (k : Look) (r : BlockRequest) (rs : List BlockRequest) → complete (look_in k (r ∷ rs)) ≡ true → k.ended ≡ false
unfolding look_in
was_more k r rs e = not-true k.ended (and_both (not k.ended) _ (and_both k.good _ (was_good (look_with k r) rs e)).1).0

-- what the check accepts leads on to the end, and what does is accepted
pub accepted_onward : (n m next : ℕ) (l : List BlockRequest) → complete (look_in (look_at n m next) l) ≡ true → Onward n m next l
unfolding look_in
accepted_onward n m next [] e = absurd (true≢false (sym e))
accepted_onward n m next (r ∷ []) e =
    let p = and_both (may_follow (look_at n m next) r) _ e in
    let q = and_both (mf_clear n r) (eqb (next_with n next r) n) p.1 in
    ends (subst (Stands n m r next) (eqb-true (next_with n next r) n q.1) (stands n m next r p.0)) (eqb-true (end_for n r) n q.0)
accepted_onward n m next (r ∷ r' ∷ rs) e =
    let good = was_good (look_with (look_at n m next) r) (r' ∷ rs) e in
    let more = was_more (look_with (look_at n m next) r) r' rs e in
    let not_end : (end_for n r ≡ n → ⊥) = eqb-false (end_for n r) n more in
    goes (stands n m next r good) (omega arith)
    (accepted_onward n m (next_with n next r) (r' ∷ rs)
    (subst (λ (k : Look). complete (look_in k (r' ∷ rs)) ≡ true) (known n m next r good more) e))

pub onward_accepted : {n m next : ℕ} {l : List BlockRequest} → Onward n m next l → complete (look_in (look_at n m next) l) ≡ true
unfolding look_in
onward_accepted {n} {m} {next} (ends {r = r} s e) =
    let f = follows n m next n r s in
    simp (f.0, eq-eqb (end_for n r) n e, eq-eqb (next_with n next r) n f.1)
onward_accepted {n} {m} {next} (goes {after = after} {r = r} {r' = r'} {rs = rs} s e o) =
    let f = follows n m next after r s in
    let k = known n m next r f.0 (ne_eqb (end_for n r) n (omega arith)) ∙ ap (look_at n m) f.1 in
    subst (λ (k : Look). complete (look_in k (r' ∷ rs)) ≡ true) (sym k) (onward_accepted o)
