-- The slots that are occupied, by their keys: what looking for a key or for a free slot tells, and when no slot refuses a table.
use Rattle.std.specs.Prelude.{Option, None, Some, is_some}
use mathlib.Core.Path.{◌≡◌, refl, sym, ap, ◌∙◌}
use mathlib.Core.Logic.{◌≢◌}
use mathlib.Core.Bool.{Bool, true, false, cond, true≢false}
use mathlib.Core.List.{List, [], ◌∷◌}
use Prim.Native.Nat.{ℕ, zero, suc, ◌+◌, ◌<◌}
use native.Mathlib.Omega.{arith}
use lib.ListN.{length, get_or, set, replicate}
use lib.Seq.{get_or-set_same, get_or-set_other}
use borrow.Author.Tests.{eqb-true}
use Rattle.pkt.proofs.Choice.{and_both, both, pick_yes, pick_no}
use Rattle.assembly.specs.declared.Key.{Key}
use Rattle.assembly.specs.Carried.{same_key}
use Rattle.assembly.proofs.Carrying.{is_same}
use Rattle.table.specs.declared.Slot.{Slot}
use Rattle.table.specs.Slots.{free_slot, holds_key, key_from, free_from, slot_fits, all_fit, key_again, key_twice}

-- two keys that are told to be the same are equal
pub same_is : (a b : Key) → same_key a b ≡ true → a ≡ b
unfolding same_key
same_is a b e =
    let p = and_both _ _ e in
    let q = and_both _ _ p.0 in
    let r = and_both _ _ q.0 in
    let s = eqb-true a.saddr b.saddr r.0 in
    let d = eqb-true a.daddr b.daddr r.1 in
    let i = eqb-true a.id b.id q.1 in
    let o = eqb-true a.protocol b.protocol p.1 in
    λ x. record { saddr = s x; daddr = d x; id = i x; protocol = o x }

-- slot i of t is occupied, and has the key k
pub record Has (t : List Slot) (i : ℕ) (k : Key) : Type 0 where
  pub used : (get_or t i free_slot).used ≡ true
  pub key_is : (get_or t i free_slot).rec.key ≡ k

-- it is one of the slots behind the first, and such a one is one of all
has_rest : {s : Slot} {ss : List Slot} {i : ℕ} {k : Key} → Has (s ∷ ss) (suc i) k → Has ss i k
has_rest h = record { used = h.used; key_is = h.key_is }

rest_has : {s : Slot} {ss : List Slot} {i : ℕ} {k : Key} → Has ss i k → Has (s ∷ ss) (suc i) k
rest_has h = record { used = h.used; key_is = h.key_is }

-- such a slot is one of the table's
pub has_below : (t : List Slot) (i : ℕ) (k : Key) → Has t i k → i < length t
has_below [] i k h = absurd (both h.used refl)
has_below (s ∷ ss) zero k h = omega arith
has_below (s ∷ ss) (suc i) k h =
    let b = has_below ss i k (has_rest h) in
    omega arith

-- no slot of an empty table is
pub none_has : (n i : ℕ) (k : Key) → Has (replicate n free_slot) i k → ⊥
none_has zero i k h = both h.used refl
none_has (suc n) zero k h = both h.used refl
none_has (suc n) (suc i) k h = none_has n i k (has_rest h)

-- ---- a slot x is stored: it has its own key, and every other slot has the key that it had
module _ (t : List Slot) (i : ℕ) (x : Slot) where
  pub has_stored : (k : Key) → i < length t → Has (set t i x) i k → (x.used ≡ true) × (x.rec.key ≡ k)
  has_stored k h p =
      let e = get_or-set_same t i x free_slot h in
      (sym (ap (λ (y : Slot). y.used) e) ∙ p.used, sym (ap (λ (y : Slot). y.rec.key) e) ∙ p.key_is)

  pub stored_has : i < length t → x.used ≡ true → Has (set t i x) i x.rec.key
  stored_has h u =
      let e = get_or-set_same t i x free_slot h in
      record { used = ap (λ (y : Slot). y.used) e ∙ u; key_is = ap (λ (y : Slot). y.rec.key) e }

  pub has_other : (j : ℕ) (k : Key) → j ≢ i → Has (set t i x) j k → Has t j k
  has_other j k ne p =
      let e = get_or-set_other t i j x free_slot ne in
      record { used = sym (ap (λ (y : Slot). y.used) e) ∙ p.used; key_is = sym (ap (λ (y : Slot). y.rec.key) e) ∙ p.key_is }

  pub other_has : (j : ℕ) (k : Key) → j ≢ i → Has t j k → Has (set t i x) j k
  other_has j k ne p =
      let e = get_or-set_other t i j x free_slot ne in
      record { used = ap (λ (y : Slot). y.used) e ∙ p.used; key_is = ap (λ (y : Slot). y.rec.key) e ∙ p.key_is }

-- ---- looking for a key

-- the test of a slot holds exactly if it has the key
holds_of : (k : Key) (s : Slot) → holds_key k s ≡ true → (s.used ≡ true) × (s.rec.key ≡ k)
unfolding holds_key
holds_of k s e = let p = and_both _ _ e in (p.0, same_is s.rec.key k p.1)

of_holds : (k : Key) (s : Slot) → s.used ≡ true → s.rec.key ≡ k → holds_key k s ≡ true
unfolding holds_key
of_holds k s u e = simp (u, is_same s.rec.key k e)

-- the slot that is found has the key
found_has : (n : ℕ) (k : Key) (t : List Slot) (i : ℕ) → key_from n k t ≡ Some i → (j : ℕ) × (i ≡ n + j) × Has t j k
unfolding key_from
found_has n k [] i e = let z : ◌≡◌ {A = ℕ} 0 1 = cc in absurd (omega arith)
found_has n k (s ∷ ss) i e = go (holds_key k s) refl (λ q. found_has (suc n) k ss i q)
  where
    go : (b : Bool) → holds_key k s ≡ b → (key_from (suc n) k ss ≡ Some i → (j : ℕ) × (i ≡ suc n + j) × Has ss j k)
        → (j : ℕ) × (i ≡ n + j) × Has (s ∷ ss) j k
    go true h r =
        let p = holds_of k s h in
        let q : Some n ≡ Some i = sym (pick_yes _ _ h) ∙ e in
        let z : n ≡ i = cc in
        (0, omega arith, record { used = p.0; key_is = p.1 })
    go false h r =
        let p = r (sym (pick_no _ _ h) ∙ e) in
        (suc p.0, omega (arith, p.1), rest_has p.2)

pub key_found : (k : Key) (t : List Slot) (i : ℕ) → key_from 0 k t ≡ Some i → Has t i k
key_found k t i e =
    let p = found_has 0 k t i e in
    let z : p.0 ≡ i = omega (arith, p.1) in
    rw z at p.2

-- where none is found, no slot has the key
pub key_absent : (n : ℕ) (k : Key) (t : List Slot) → key_from n k t ≡ None → (j : ℕ) → Has t j k → ⊥
unfolding key_from
key_absent n k [] e j h = both h.used refl
key_absent n k (s ∷ ss) e j h = go (holds_key k s) refl j h (λ q i. key_absent (suc n) k ss q i)
  where
    go : (b : Bool) → holds_key k s ≡ b → (i : ℕ) → Has (s ∷ ss) i k → (key_from (suc n) k ss ≡ None → (i : ℕ) → Has ss i k → ⊥) → ⊥
    go true p i g r =
        let q : Some n ≡ None = sym (pick_yes _ _ p) ∙ e in
        let z : ◌≡◌ {A = ℕ} 0 1 = cc in
        omega arith
    go false p zero g r = both (of_holds k s g.used g.key_is) p
    go false p (suc i) g r = r (sym (pick_no _ _ p) ∙ e) i (has_rest g)

-- ---- looking for a free slot

-- slot j of t is free
pub record Free (t : List Slot) (j : ℕ) : Type 0 where
  pub below : j < length t
  pub unused : (get_or t j free_slot).used ≡ false

-- the slot that is found is free
free_from_lem : (n : ℕ) (t : List Slot) (i : ℕ) → free_from n t ≡ Some i → (j : ℕ) × (i ≡ n + j) × Free t j
unfolding free_from
free_from_lem n [] i e = let z : ◌≡◌ {A = ℕ} 0 1 = cc in absurd (omega arith)
free_from_lem n (s ∷ ss) i e = go s.used refl (λ q. free_from_lem (suc n) ss i q)
  where
    go : (b : Bool) → s.used ≡ b → (free_from (suc n) ss ≡ Some i → (j : ℕ) × (i ≡ suc n + j) × Free ss j)
        → (j : ℕ) × (i ≡ n + j) × Free (s ∷ ss) j
    go true h r =
        let p = r (sym (pick_yes _ _ h) ∙ e) in
        (suc p.0, omega (arith, p.1), record { below = omega (arith, p.2.below); unused = p.2.unused })
    go false h r =
        let q : Some n ≡ Some i = sym (pick_no _ _ h) ∙ e in
        let z : n ≡ i = cc in
        (0, omega arith, record { below = omega arith; unused = h })

pub free_found : (t : List Slot) (i : ℕ) → free_from 0 t ≡ Some i → Free t i
free_found t i e =
    let p = free_from_lem 0 t i e in
    let z : p.0 ≡ i = omega (arith, p.1) in
    rw z at p.2

-- where none is found, all are occupied
pub all_used : (n : ℕ) (t : List Slot) → free_from n t ≡ None → (j : ℕ) → j < length t → (get_or t j free_slot).used ≡ true
unfolding free_from
all_used n [] e j h = absurd (omega arith)
all_used n (s ∷ ss) e j h = go s.used refl j h (λ q i. all_used (suc n) ss q i)
  where
    go : (b : Bool) → s.used ≡ b → (i : ℕ) → i < length (s ∷ ss)
        → (free_from (suc n) ss ≡ None → (i : ℕ) → i < length ss → (get_or ss i free_slot).used ≡ true) → (get_or (s ∷ ss) i free_slot).used ≡ true
    go true p zero g r = p
    go true p (suc i) g r = r (sym (pick_yes _ _ p) ∙ e) i (omega arith)
    go false p i g r =
        let q : Some n ≡ None = sym (pick_no _ _ p) ∙ e in
        let z : ◌≡◌ {A = ℕ} 0 1 = cc in
        absurd (omega arith)

-- .. each by the key that it has
pub none_free : (t : List Slot) → free_from 0 t ≡ None → (j : ℕ) → j < length t → Has t j (get_or t j free_slot).rec.key
none_free t e j h = record { used = all_used 0 t e j h; key_is = refl }

-- ---- what 11 asks of the slots

-- every slot fits
pub all_fit_lem : (t : List Slot) → ((i : ℕ) → slot_fits (get_or t i free_slot) ≡ true) → all_fit t ≡ true
unfolding all_fit
all_fit_lem [] f = refl
all_fit_lem (s ∷ ss) f = pick_yes _ _ (f 0) ∙ all_fit_lem ss (λ i. f (suc i))

-- no two slots have one key
unfoldable pub Distinct : List Slot → Type 0
Distinct t = (i j : ℕ) (k : Key) → Has t i k → Has t j k → i ≡ j

-- a slot whose key the others do not have
not_again : (s : Slot) (ss : List Slot) → Distinct (s ∷ ss) → key_again s ss ≡ false
unfolding key_again Distinct
not_again s ss h = go s.used refl (key_from 0 s.rec.key ss) refl
  where
    go : (b : Bool) → s.used ≡ b → (a : Option ℕ) → key_from 0 s.rec.key ss ≡ a → cond s.used (is_some (key_from 0 s.rec.key ss)) false ≡ false
    go false u a e = pick_no _ _ u
    go true u None e = pick_yes _ _ u ∙ ap is_some e
    go true u (Some i) e =
        let p = key_found s.rec.key ss i e in
        absurd (omega (arith, h 0 (suc i) s.rec.key (record { used = u; key_is = refl }) (rest_has p)))

-- the slots behind the first
distinct_rest : (s : Slot) (ss : List Slot) → Distinct (s ∷ ss) → Distinct ss
unfolding Distinct
distinct_rest s ss h i j k a b =
    let e = h (suc i) (suc j) k (rest_has a) (rest_has b) in
    omega arith

-- no key is in two of them
pub no_twice : (t : List Slot) → Distinct t → key_twice t ≡ false
unfolding key_twice
no_twice [] h = refl
no_twice (s ∷ ss) h = pick_no _ _ (not_again s ss h) ∙ no_twice ss (distinct_rest s ss h)

-- .. and where none is in two, they are distinct
again_not : (s : Slot) (ss : List Slot) → key_again s ss ≡ false → (j : ℕ) (k : Key) → s.used ≡ true → s.rec.key ≡ k → Has ss j k → ⊥
unfolding key_again
again_not s ss e j k u q h = go (key_from 0 s.rec.key ss) refl
  where
    go : (f : Option ℕ) → key_from 0 s.rec.key ss ≡ f → ⊥
    go None a = key_absent 0 s.rec.key ss a j (record { used = h.used; key_is = h.key_is ∙ sym q })
    go (Some i) a = both (ap is_some a) (sym (pick_yes _ _ u) ∙ e)

pub once_distinct : (t : List Slot) → key_twice t ≡ false → Distinct t
unfolding key_twice Distinct
once_distinct [] e = λ i j k a b. absurd (both a.used refl)
once_distinct (s ∷ ss) e = go (key_again s ss) refl (λ q. once_distinct ss q)
  where
    go : (b : Bool) → key_again s ss ≡ b → (key_twice ss ≡ false → (i j : ℕ) (k : Key) → Has ss i k → Has ss j k → i ≡ j)
        → (i j : ℕ) (k : Key) → Has (s ∷ ss) i k → Has (s ∷ ss) j k → i ≡ j
    go true h r i j k x y = absurd (true≢false (sym (pick_yes true (key_twice ss) h) ∙ e))
    go false h r zero zero k x y = refl
    go false h r zero (suc j) k x y = absurd (again_not s ss h j k x.used x.key_is (has_rest y))
    go false h r (suc i) zero k x y = absurd (again_not s ss h i k y.used y.key_is (has_rest x))
    go false h r (suc i) (suc j) k x y = ap suc (r (sym (pick_no _ _ h) ∙ e) i j k (has_rest x) (has_rest y))
