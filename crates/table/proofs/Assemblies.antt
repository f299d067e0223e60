-- A table that is not refused by 11, and the assembly of each key in it: what storing a slot does to them.
use Rattle.std.specs.Prelude.{Option, None, Some}
use mathlib.Core.Path.{◌≡◌, refl, sym, ap, subst, ◌∙◌}
use mathlib.Core.Logic.{◌≢◌}
use mathlib.Core.Bool.{Bool, true, false, cond}
use mathlib.Core.List.{List}
use Prim.Native.Nat.{ℕ, zero, suc, ◌*◌, ◌<◌}
use native.Mathlib.Decide.{ℕ_discrete}
use native.Mathlib.Omega.{arith}
use lib.ListN.{length, get_or, set, replicate, length-set}
use lib.Seq.{get_or-set_same, get_or-set_other}
use borrow.Author.Tests.{eq-eqb}
use Rattle.pkt.proofs.Choice.{both, fails, pick_yes, pick_no}
use Rattle.assembly.specs.declared.Key.{Key}
use Rattle.assembly.specs.Assembly.{State}
use Rattle.assembly.specs.Carried.{same_key}
use Rattle.assembly.specs.View.{view}
use Rattle.assembly.proofs.Carrying.{is_same}
use Rattle.table.specs.declared.Slot.{Slot}
use Rattle.table.specs.Slots.{slots, slot_bytes, slot_map, with_part, free_slot, state_at, slot_fits, key_from, table_fits}
use Rattle.table.specs.Mixed.{assembly_at, assembly_of}
use Rattle.table.proofs.Places.{with_length, place_same, part_other}
use Rattle.table.proofs.Keys.{same_is, Has, none_has, has_stored, stored_has, has_other, other_has, key_found, key_absent, all_fit_lem, Distinct, no_twice, once_distinct}
use Rattle.table.proofs.Lowest.{usable as usable-by, fit_at}

-- eight slots, and what 11 asks of them and of the buffers
pub record Sound (t : List Slot) (d m : List ℕ) : Type 0 where
  pub size : length t ≡ slots
  pub payloads : length d ≡ slot_bytes * slots
  pub maps : length m ≡ slot_map * slots
  pub fits : (i : ℕ) → slot_fits (get_or t i free_slot) ≡ true
  pub distinct : Distinct t

pub sound_usable : (t : List Slot) (d m : List ℕ) → Sound t d m → table_fits t (length d) (length m) ≡ true
unfolding table_fits
sound_usable t d m h =
    simp (
      eq-eqb (length d) (slot_bytes * slots) h.payloads,
      eq-eqb (length m) (slot_map * slots) h.maps,
      all_fit_lem t h.fits,
      no_twice t h.distinct,
    )

pub usable_sound : (t : List Slot) (d m : List ℕ) → length t ≡ slots → table_fits t (length d) (length m) ≡ true → Sound t d m
usable_sound t d m n e =
    let u = usable-by t (length d) (length m) e in
    record { size = n; payloads = u.payloads; maps = u.maps; fits = λ i. fit_at t i u.fit; distinct = once_distinct t u.once }

-- the empty table
empty_fits : (n i : ℕ) → slot_fits (get_or (replicate n free_slot) i free_slot) ≡ true
unfolding slot_fits
empty_fits zero i = refl
empty_fits (suc n) zero = refl
empty_fits (suc n) (suc i) = empty_fits n i

pub empty_sound : (d m : List ℕ) → length d ≡ slot_bytes * slots → length m ≡ slot_map * slots → Sound (replicate slots free_slot) d m
unfolding Distinct
empty_sound d m e q =
    record {
      size = refl;
      payloads = e;
      maps = q;
      fits = λ i. empty_fits slots i;
      distinct = λ i j k a b. absurd (none_has slots i k a);
    }

-- ---- the assembly of a key

-- that of the slot which has it
pub assembly_at_lem : (t : List Slot) (d m : List ℕ) → Distinct t → (i : ℕ) (k : Key) → Has t i k → assembly_of t d m k ≡ Some (state_at t d m i)
unfolding Distinct
assembly_at_lem t d m h i k a = go (key_from 0 k t) refl
  where
    go : (f : Option ℕ) → key_from 0 k t ≡ f → assembly_at t d m f ≡ Some (state_at t d m i)
    go (Some j) e = ap (λ (n : ℕ). Some (state_at t d m n)) (h j i k (key_found k t j e) a)
    go None e = absurd (key_absent 0 k t e i a)

-- none where no slot has it
pub assembly_none : (t : List Slot) (d m : List ℕ) (k : Key) → ((i : ℕ) → Has t i k → ⊥) → assembly_of t d m k ≡ None
assembly_none t d m k h = go (key_from 0 k t) refl
  where
    go : (f : Option ℕ) → key_from 0 k t ≡ f → assembly_at t d m f ≡ None
    go (Some j) e = absurd (h j (key_found k t j e))
    go None e = refl

-- ---- the slot x is stored as slot i, with the parts p and q of the buffers

-- the assembly in it
abbrev pub held_in : Slot → List ℕ → List ℕ → Option State
held_in x p q = cond x.used (Some (view x.rec p q)) None

-- slot i was free or had the key k, no other slot has that key, and x is free or has it
pub record Stores (t : List Slot) (d m : List ℕ) (i : ℕ) (k : Key) (x : Slot) (p q : List ℕ) : Type 0 where
  pub sound : Sound t d m
  pub below : i < slots
  pub own : (j : Key) → Has t i j → j ≡ k
  pub alone : (j : ℕ) → Has t j k → j ≡ i
  pub keyed : x.used ≡ true → x.rec.key ≡ k
  pub fits : slot_fits x ≡ true
  pub payload_size : length p ≡ slot_bytes
  pub map_size : length q ≡ slot_map

module _ (t : List Slot) (d m : List ℕ) (i : ℕ) (k : Key) (x : Slot) (p q : List ℕ) (s : Stores t d m i k x p q) where
  t' : List Slot
  t' = set t i x

  d' : List ℕ
  d' = with_part slot_bytes i p d

  m' : List ℕ
  m' = with_part slot_map i q m

  within : i < length t
  within = omega (arith, s.sound.size, s.below)

  -- slot i has the key k or none,
  here : (j : Key) → Has t' i j → (x.used ≡ true) × (k ≡ j)
  unfolding t'
  here j a = let b = has_stored t i x j within a in (b.0, sym (s.keyed b.0) ∙ b.1)

  -- and another slot another key
  else : (n : ℕ) (j : Key) → n ≢ i → Has t n j → same_key k j ≡ false
  else n j ne a = fails (same_key k j) (λ e. ne (s.alone n (subst (λ (y : Key). Has t n y) (sym (same_is k j e)) a)))

  one : (n : ℕ) (j : Key) → n ≢ i → Has t n j → k ≡ j → ⊥
  one n j ne a e = both (is_same k j e) (else n j ne a)

  stored_distinct : Distinct t'
  unfolding Distinct t'
  stored_distinct y z j a b = go (ℕ_discrete y i) (ℕ_discrete z i)
    where
      go : Dec (y ≡ i) → Dec (z ≡ i) → y ≡ z
      go (yes e) (yes g) = e ∙ sym g
      go (yes e) (no g) = absurd (one z j g (has_other t i x z j g b) (here j (rw e at a)).1)
      go (no e) (yes g) = absurd (one y j e (has_other t i x y j e a) (here j (rw g at b)).1)
      go (no e) (no g) = s.sound.distinct y z j (has_other t i x y j e a) (has_other t i x z j g b)

  stored_fits : (n : ℕ) → slot_fits (get_or t' n free_slot) ≡ true
  unfolding t'
  stored_fits n = go (ℕ_discrete n i)
    where
      go : Dec (n ≡ i) → slot_fits (get_or (set t i x) n free_slot) ≡ true
      go (yes e) = rw e (ap slot_fits (get_or-set_same t i x free_slot within) ∙ s.fits)
      go (no e) = ap slot_fits (get_or-set_other t i n x free_slot e) ∙ s.sound.fits n

  pub stored_sound : Sound (set t i x) (with_part slot_bytes i p d) (with_part slot_map i q m)
  unfolding t'
  stored_sound =
      record {
        size = length-set t i x ∙ s.sound.size;
        payloads = with_length slot_bytes slots i p d s.below s.sound.payloads s.payload_size ∙ s.sound.payloads;
        maps = with_length slot_map slots i q m s.below s.sound.maps s.map_size ∙ s.sound.maps;
        fits = stored_fits;
        distinct = stored_distinct;
      }

  -- slot i holds what was stored, and every other what it held
  state_same : state_at t' d' m' i ≡ view x.rec p q
  unfolding t' d' m'
  state_same =
      let e = get_or-set_same t i x free_slot within in
      let a = place_same slot_bytes slots i p d s.below s.sound.payloads s.payload_size in
      let b = place_same slot_map slots i q m s.below s.sound.maps s.map_size in
      λ y. view (e y).rec (a y) (b y)

  state_other : (n : ℕ) → n ≢ i → state_at t' d' m' n ≡ state_at t d m n
  unfolding t' d' m'
  state_other n ne =
      let e = get_or-set_other t i n x free_slot ne in
      let a = part_other slot_bytes slots i n p d ne s.below s.sound.payloads s.payload_size in
      let b = part_other slot_map slots i n q m ne s.below s.sound.maps s.map_size in
      λ y. view (e y).rec (a y) (b y)

  -- so the key k has what was stored, and every other key what it had
  abbrev After : Key → Option State
  After j = cond (same_key k j) (held_in x p q) (assembly_of t d m j)

  after_found : (n : ℕ) (j : Key) → Has t' n j → Some (state_at t' d' m' n) ≡ After j
  unfolding t'
  after_found n j a = go (ℕ_discrete n i)
    where
      go : Dec (n ≡ i) → Some (state_at t' d' m' n) ≡ After j
      go (yes e) =
          let h = here j (rw e at a) in
          rw e (ap Some state_same ∙ sym (pick_yes _ None h.0) ∙ sym (pick_yes _ _ (is_same k j h.1)))
      go (no e) =
          let c : Has t n j = has_other t i x n j e a in
          ap Some (state_other n e) ∙ sym (assembly_at_lem t d m s.sound.distinct n j c) ∙ sym (pick_no _ _ (else n j e c))

  after_absent : (j : Key) → ((n : ℕ) → Has t' n j → ⊥) → None ≡ After j
  unfolding t'
  after_absent j h = go (same_key k j) refl
    where
      unused : k ≡ j → x.used ≡ false
      unused e = fails x.used (λ u. h i (subst (λ (y : Key). Has (set t i x) i y) (s.keyed u ∙ e) (stored_has t i x within u)))

      gone : same_key k j ≡ false → (n : ℕ) → Has t n j → Dec (n ≡ i) → ⊥
      gone b n a (yes e) = both (is_same k j (sym (s.own j (rw e at a)))) b
      gone b n a (no e) = h n (other_has t i x n j e a)

      go : (b : Bool) → same_key k j ≡ b → None ≡ After j
      go true e = sym (pick_no _ _ (unused (same_is k j e))) ∙ sym (pick_yes _ _ e)
      go false e = sym (assembly_none t d m j (λ n a. gone e n a (ℕ_discrete n i))) ∙ sym (pick_no _ _ e)

  pub stored_assembly : (j : Key) → assembly_of (set t i x) (with_part slot_bytes i p d) (with_part slot_map i q m) j
      ≡ cond (same_key k j) (held_in x p q) (assembly_of t d m j)
  unfolding t' d' m'
  stored_assembly j = go (key_from 0 j (set t i x)) refl
    where
      go : (f : Option ℕ) → key_from 0 j (set t i x) ≡ f → assembly_at (set t i x) (with_part slot_bytes i p d) (with_part slot_map i q m) f ≡ After j
      go (Some n) e = after_found n j (key_found j (set t i x) n e)
      go None e = after_absent j (λ n a. key_absent 0 j (set t i x) e n a)
