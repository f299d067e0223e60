-- Laws of the table's slots, one slot at a time.
use Rattle.std.specs.Prelude.{Option, None, Some, is_some}
use mathlib.Core.Path.{◌≡◌, refl, sym, ap, ◌∙◌}
use Prim.Native.Nat.{ℕ, zero, suc, ◌+◌, ◌-◌, ◌*◌, ◌<◌, ◌≤◌}
use native.Mathlib.Omega.{arith}
use native.Mathlib.Numerals.{add-one}
use mathlib.Core.Bool.{Bool, true, false, not, ◌&&◌, cond, true≢false}
use mathlib.Core.List.{List, [], ◌∷◌}
use lib.ListN.{length, get_or, drop, drop_of_length-le}
use lib.Seq.{drop-cons}
use lib.Dec.{eqb}
use borrow.Author.Tests.{eqb-true, eq-eqb, ne_eqb, not-true, not-false}
use Rattle.pkt.proofs.Choice.{and_both, pick_yes, pick_no}
use Rattle.assembly.specs.declared.Key.{Key}
use Rattle.assembly.specs.Assembly.{record_fits}
use Rattle.assembly.specs.Carried.{same_key}
use Rattle.table.specs.declared.Slot.{Slot}
use Rattle.table.specs.Slots.{slots, slot_bytes, slot_map, free_slot, holds_key, key_from, free_from}
use Rattle.table.specs.Slots.{slot_fits, all_fit, key_again, key_twice, table_fits, Sized}
use Rattle.table.specs.Steps.{Occupied}

-- ---- one slot

-- An occupied slot has the key of its record.
pub used_holds : (k : Key) (s : Slot) (b : Bool) → s.used ≡ true → b ≡ same_key s.rec.key k → b ≡ holds_key k s
unfolding holds_key
used_holds k s b u e = e ∙ ap (λ (x : Bool). x && same_key s.rec.key k) (sym u)

-- A free slot has no key.
pub free_holds : (k : Key) (s : Slot) → s.used ≡ false → false ≡ holds_key k s
unfolding holds_key
free_holds k s u = ap (λ (x : Bool). x && same_key s.rec.key k) (sym u)

-- An occupied slot fits where its record does.
pub used_fits : (s : Slot) (b : Bool) → s.used ≡ true → b ≡ record_fits slot_bytes s.rec.total s.rec.floor → b ≡ slot_fits s
unfolding slot_fits
used_fits s b u e = e ∙ sym (pick_yes _ true u)

-- A free slot fits.
pub free_fits : (s : Slot) → s.used ≡ false → true ≡ slot_fits s
unfolding slot_fits
free_fits s u = sym (pick_no (record_fits slot_bytes s.rec.total s.rec.floor) true u)

-- Whether a key is found does not depend on the number that the first slot has.
found_alike : (k : Key) (i j : ℕ) (t : List Slot) → is_some (key_from i k t) ≡ is_some (key_from j k t)
unfolding key_from
found_alike k i j [] = refl
found_alike k i j (s ∷ t) = go (holds_key k s) (key_from (suc i) k t) (key_from (suc j) k t) (found_alike k (suc i) (suc j) t)
  where
    go : (b : Bool) (x y : Option ℕ) → is_some x ≡ is_some y → is_some (cond b (Some i) x) ≡ is_some (cond b (Some j) y)
    go true x y e = refl
    go false x y e = e

-- An occupied slot's key is again in the slots t where it is found there, whatever number the first of them has.
pub used_again : (s : Slot) (i : ℕ) (t : List Slot) (f : Option ℕ) (b : Bool) → s.used ≡ true → f ≡ key_from i s.rec.key t → b ≡ is_some f
    → b ≡ key_again s t
unfolding key_again
used_again s i t f b u e q = q ∙ ap is_some e ∙ found_alike s.rec.key i 0 t ∙ sym (pick_yes _ false u)

-- A free slot's key is in no slot.
pub free_again : (s : Slot) (t : List Slot) → s.used ≡ false → false ≡ key_again s t
unfolding key_again
free_again s t u = sym (pick_no (is_some (key_from 0 s.rec.key t)) false u)

-- ---- the slots from slot i on: it decides, or leaves it to those behind it

module _ (t : List Slot) (i : ℕ) (h : i < length t) where
  -- the lowest slot with a key is slot i or is found behind it
  key_next : (k : Key) → key_from i k (drop i t) ≡ cond (holds_key k (get_or t i free_slot)) (Some i) (key_from (i + 1) k (drop (i + 1) t))
  unfolding key_from
  key_next k = rw add-one (ap (key_from i k) (drop-cons t i free_slot h))

  -- .. slot i, if it has the key
  pub key_here : (k : Key) → holds_key k (get_or t i free_slot) ≡ true → key_from i k (drop i t) ≡ Some i
  key_here k e = key_next k ∙ pick_yes _ _ e

  -- .. behind it, if it does not
  pub key_on : (k : Key) → holds_key k (get_or t i free_slot) ≡ false → key_from i k (drop i t) ≡ key_from (i + 1) k (drop (i + 1) t)
  key_on k e = key_next k ∙ pick_no _ _ e

  -- the lowest free slot is slot i or is found behind it
  free_next : free_from i (drop i t) ≡ cond (get_or t i free_slot).used (free_from (i + 1) (drop (i + 1) t)) (Some i)
  unfolding free_from
  free_next = rw add-one (ap (free_from i) (drop-cons t i free_slot h))

  -- .. slot i, if it is free
  pub free_here : (get_or t i free_slot).used ≡ false → free_from i (drop i t) ≡ Some i
  free_here e = free_next ∙ pick_no _ _ e

  -- .. behind it, if it is occupied
  pub free_on : (get_or t i free_slot).used ≡ true → free_from i (drop i t) ≡ free_from (i + 1) (drop (i + 1) t)
  free_on e = free_next ∙ pick_yes _ _ e

  -- the slots fit where slot i fits and those behind it do
  fit_next : all_fit (drop i t) ≡ cond (slot_fits (get_or t i free_slot)) (all_fit (drop (i + 1) t)) false
  unfolding all_fit
  fit_next = rw add-one (ap all_fit (drop-cons t i free_slot h))

  -- .. not, if slot i does not fit
  pub fit_not : slot_fits (get_or t i free_slot) ≡ false → all_fit (drop i t) ≡ false
  fit_not e = fit_next ∙ pick_no _ _ e

  -- .. as those behind it, if it fits
  pub fit_on : slot_fits (get_or t i free_slot) ≡ true → all_fit (drop i t) ≡ all_fit (drop (i + 1) t)
  fit_on e = fit_next ∙ pick_yes _ _ e

  -- a key is twice in the slots where slot i has it again behind it, or one behind it has
  twice_next : key_twice (drop i t) ≡ cond (key_again (get_or t i free_slot) (drop (i + 1) t)) true (key_twice (drop (i + 1) t))
  unfolding key_twice
  twice_next = rw add-one (ap key_twice (drop-cons t i free_slot h))

  -- .. where slot i has it again
  pub twice_here : key_again (get_or t i free_slot) (drop (i + 1) t) ≡ true → key_twice (drop i t) ≡ true
  twice_here e = twice_next ∙ pick_yes _ _ e

  -- .. as behind it, if slot i has not
  pub twice_on : key_again (get_or t i free_slot) (drop (i + 1) t) ≡ false → key_twice (drop i t) ≡ key_twice (drop (i + 1) t)
  twice_on e = twice_next ∙ pick_no _ _ e

-- ---- behind the last slot

module _ (t : List Slot) (i : ℕ) (h : length t ≤ i) where
  -- no key is found
  pub key_none : (k : Key) → key_from i k (drop i t) ≡ None
  unfolding key_from
  key_none k = ap (key_from i k) (drop_of_length-le t h)

  -- no free slot is found
  pub free_none : free_from i (drop i t) ≡ None
  unfolding free_from
  free_none = ap (free_from i) (drop_of_length-le t h)

  -- all slots fit
  pub fit_end : all_fit (drop i t) ≡ true
  unfolding all_fit
  fit_end = ap all_fit (drop_of_length-le t h)

  -- no key is twice there
  pub twice_end : key_twice (drop i t) ≡ false
  unfolding key_twice
  twice_end = ap key_twice (drop_of_length-le t h)

-- ---- what is known of a slot that was found

-- Slot j of the slots t, of which the first has the number i, meets p.
record Meets (p : Slot → Bool) (i : ℕ) (t : List Slot) (j : ℕ) : Type 0 where
  pub from : i ≤ j
  pub below : j < i + length t
  pub met : p (get_or t (j - i) free_slot) ≡ true

-- The first slot, with the number i.
meets_here : (p : Slot → Bool) (i j : ℕ) (s : Slot) (t : List Slot) → p s ≡ true → i ≡ j → Meets p i (s ∷ t) j
meets_here p i j s t e q =
    let z : j - i ≡ 0 = omega arith in
    record { from = omega arith; below = omega arith; met = ap (λ (n : ℕ). p (get_or (s ∷ t) n free_slot)) z ∙ e }

-- A slot behind the first.
meets_on : (p : Slot → Bool) (i j : ℕ) (s : Slot) (t : List Slot) → Meets p (suc i) t j → Meets p i (s ∷ t) j
meets_on p i j s t m =
    let z : j - i ≡ suc (j - suc i) = omega (arith, m.from) in
    record { from = omega (arith, m.from); below = omega (arith, m.below); met = ap (λ (n : ℕ). p (get_or (s ∷ t) n free_slot)) z ∙ m.met }

-- A slot that is found by its key has it.
key_meets : (k : Key) (t : List Slot) (i j : ℕ) → key_from i k t ≡ Some j → Meets (holds_key k) i t j
unfolding key_from
key_meets k [] i j e = let z : ◌≡◌ {A = ℕ} 0 1 = cc in absurd (omega arith)
key_meets k (s ∷ t) i j e = go (holds_key k s) refl (key_meets k t (suc i) j)
  where
    go : (b : Bool) → holds_key k s ≡ b → (key_from (suc i) k t ≡ Some j → Meets (holds_key k) (suc i) t j) → Meets (holds_key k) i (s ∷ t) j
    go true h more =
        let same : ◌≡◌ {A = Option ℕ} (Some i) (Some j) = sym (pick_yes _ _ h) ∙ e in
        let n : i ≡ j = cc in meets_here (holds_key k) i j s t h n
    go false h more = meets_on (holds_key k) i j s t (more (sym (pick_no _ _ h) ∙ e))

-- whether a slot is free
is_free : Slot → Bool
is_free s = not s.used

-- A slot that is found to be free is.
free_meets : (t : List Slot) (i j : ℕ) → free_from i t ≡ Some j → Meets is_free i t j
unfolding free_from is_free
free_meets [] i j e = let z : ◌≡◌ {A = ℕ} 0 1 = cc in absurd (omega arith)
free_meets (s ∷ t) i j e = go s.used refl (free_meets t (suc i) j)
  where
    go : (b : Bool) → s.used ≡ b → (free_from (suc i) t ≡ Some j → Meets is_free (suc i) t j) → Meets is_free i (s ∷ t) j
    go true h more = meets_on is_free i j s t (more (sym (pick_yes _ _ h) ∙ e))
    go false h more =
        let same : ◌≡◌ {A = Option ℕ} (Some i) (Some j) = sym (pick_no _ _ h) ∙ e in
        let n : i ≡ j = cc in meets_here is_free i j s t (ap not h) n

-- .. in the whole table, whose first slot has the number 0
whole : (p : Slot → Bool) (t : List Slot) (j : ℕ) → Meets p 0 t j → p (get_or t j free_slot) ≡ true
whole p t j m = let z : j ≡ j - 0 = omega arith in ap (λ (n : ℕ). p (get_or t n free_slot)) z ∙ m.met

module _ (k : Key) (t : List Slot) (i : ℕ) (e : key_from 0 k t ≡ Some i) where
  -- a slot that is found by its key is in the table
  pub key_below : i < length t
  key_below = omega (arith, (key_meets k t 0 i e).below)

  -- .. has the key
  pub key_held : holds_key k (get_or t i free_slot) ≡ true
  key_held = whole (holds_key k) t i (key_meets k t 0 i e)

  -- .. and is occupied
  pub key_used : (get_or t i free_slot).used ≡ true
  unfolding holds_key
  key_used = (and_both _ _ key_held).0

module _ (t : List Slot) (i : ℕ) (e : free_from 0 t ≡ Some i) where
  -- a slot that is found to be free is in the table
  pub free_below : i < length t
  free_below = omega (arith, (free_meets t 0 i e).below)

-- ---- whether a table is usable, by the tests in their order

module _ (t : List Slot) (d m : ℕ) where
  -- not with payloads of another size
  pub other_payloads : (d ≡ slot_bytes * slots → ⊥) → false ≡ table_fits t d m
  unfolding table_fits
  other_payloads n = simp (ne_eqb _ _ n)

  -- .. with maps of another size
  pub other_maps : d ≡ slot_bytes * slots → (m ≡ slot_map * slots → ⊥) → false ≡ table_fits t d m
  unfolding table_fits
  other_maps p n = simp (eq-eqb _ _ p, ne_eqb _ _ n)

  -- .. with a slot that does not fit
  pub one_unfit : (b : Bool) → d ≡ slot_bytes * slots → m ≡ slot_map * slots → b ≡ all_fit t → not b ≡ true → false ≡ table_fits t d m
  unfolding table_fits
  one_unfit b p n e q = simp (eq-eqb _ _ p, eq-eqb _ _ n, ← e, not-true b q)

  -- and then where no key is twice in it
  pub by_keys : (b c : Bool) → d ≡ slot_bytes * slots → m ≡ slot_map * slots → b ≡ all_fit t → not b ≡ false → c ≡ key_twice t
      → not c ≡ table_fits t d m
  unfolding table_fits
  by_keys b c p n e q f = simp (eq-eqb _ _ p, eq-eqb _ _ n, ← e, not-false b q, f)

-- ---- what is known of a usable table

-- what its four tests tell
pub record Usable (t : List Slot) (d m : ℕ) : Type 0 where
  pub payloads : d ≡ slot_bytes * slots
  pub maps : m ≡ slot_map * slots
  pub fit : all_fit t ≡ true
  pub once : key_twice t ≡ false

-- A usable table has passed them.
pub usable : (t : List Slot) (d m : ℕ) → table_fits t d m ≡ true → Usable t d m
unfolding table_fits
usable t d m e =
    let both = and_both (eqb d (slot_bytes * slots) && eqb m (slot_map * slots)) (all_fit t && not (key_twice t)) e in
    let sizes = and_both (eqb d (slot_bytes * slots)) (eqb m (slot_map * slots)) both.0 in
    let inside = and_both (all_fit t) (not (key_twice t)) both.1 in
    record { payloads = eqb-true _ _ sizes.0; maps = eqb-true _ _ sizes.1; fit = inside.0; once = not-true _ inside.1 }

-- Its slots' parts lie in its buffers.
pub usable_sized : (t : List Slot) (d m i : ℕ) → table_fits t d m ≡ true → i < slots → Sized i d m
usable_sized t d m i e h = record { one = h; payloads = (usable t d m e).payloads; maps = (usable t d m e).maps }

-- Both hold.
both_fit : (b x : Bool) → cond b x false ≡ true → (b ≡ true) × (x ≡ true)
both_fit true x e = (refl, e)
both_fit false x e = absurd (true≢false (sym e))

-- Each of the slots fits where all do.
pub fit_at : (t : List Slot) (i : ℕ) → all_fit t ≡ true → slot_fits (get_or t i free_slot) ≡ true
unfolding all_fit slot_fits
fit_at [] i e = refl
fit_at (s ∷ t) zero e = (both_fit (slot_fits s) (all_fit t) e).0
fit_at (s ∷ t) (suc i) e = fit_at t i (both_fit (slot_fits s) (all_fit t) e).1

-- An occupied one's record fits.
record_fits_lem : (t : List Slot) (i : ℕ) → all_fit t ≡ true → (get_or t i free_slot).used ≡ true
    → record_fits slot_bytes ((get_or t i free_slot).rec.total) (get_or t i free_slot).rec.floor ≡ true
unfolding slot_fits
record_fits_lem t i e u = sym (pick_yes _ true u) ∙ fit_at t i e

-- .. of a usable table
pub usable_record : (t : List Slot) (i d m : ℕ) → table_fits t d m ≡ true → (get_or t i free_slot).used ≡ true
    → record_fits slot_bytes ((get_or t i free_slot).rec.total) (get_or t i free_slot).rec.floor ≡ true
usable_record t i d m e u = record_fits_lem t i (usable t d m e).fit u

-- A slot of a usable table that is found by its key is held.
pub key_occupied : (k : Key) (t : List Slot) (d m i : ℕ) → table_fits t d m ≡ true → length t ≡ slots → key_from 0 k t ≡ Some i → Occupied t i d m
key_occupied k t d m i u n e = record { usable = u; sized = usable_sized t d m i u (omega (arith, key_below k t i e)); used = key_used k t i e }
