-- What one call leaves for the next: a table that 11 does not refuse, and for a packet of another key what it would have found before.
use Rattle.std.specs.Prelude.{Option, None, Some}
use mathlib.Core.Path.{◌≡◌, refl, sym, ap, ◌∙◌}
use mathlib.Core.Bool.{Bool, true, false, cond}
use mathlib.Core.List.{List}
use Prim.Native.Nat.{ℕ}
use native.Mathlib.Omega.{arith}
use lib.ListN.{length}
use Rattle.pkt.specs.Answers.{Answer, refused, gives, mapped, says}
use Rattle.pkt.proofs.Choice.{both, fails, pick_no}
use Rattle.assembly.specs.declared.Key.{Key}
use Rattle.assembly.specs.declared.Outcome.{Outcome}
use Rattle.assembly.specs.Assembly.{State, outcome, step}
use Rattle.assembly.specs.Carried.{same_key}
use Rattle.table.specs.declared.Slot.{Slot}
use Rattle.table.specs.declared.After.{After}
use Rattle.table.specs.Slots.{slot_bytes, slot_map, table_fits}
use Rattle.table.specs.Table.{Placing, table_take, slots_after, payloads_after, maps_after, Tables, slots_without, part_without, Discards, Outing, slot_in, datagram_in, TakesOut}
use Rattle.table.specs.Mixed.{Keyed, keyed_in, assembly_of}
use Rattle.table.specs.Next.{StaysUsable, Foreign, HasSlot, Alike, DiscardFirst, DiscardLast, OutFirst, OutLast, Commutes}
use Rattle.table.proofs.Keys.{same_is, Free, all_used}
use Rattle.table.proofs.Assemblies.{Sound, sound_usable, usable_sound, empty_sound}
use Rattle.table.proofs.Calling.{table_eleven, discard_eleven, out_eleven}
use Rattle.table.proofs.Held.{met_by}
use Rattle.pkt.proofs.Only.{says_only}
use Rattle.table.proofs.Only.{tables_only}
use Rattle.table.proofs.Effects.{Went, kept, took, turned, went, Left, stayed, emptied, gone_by, out_by, put_out, discarding, outgoing}

-- ---- 11 is not given after a call
went_sound : (t : List Slot) (d m l : List ℕ) (o : Answer Outcome) (t' : List Slot) (d' m' : List ℕ) → Sound t d m → Went t d m l o t' d' m' → Sound t' d' m'
went_sound t d m l o t' d' m' h (kept n e q s u v) = rw (s, u, v) h
went_sound t d m l o t' d' m' h (took x s e q met sound after) = sound
went_sound t d m l o t' d' m' h (turned x e q n f s u v) = rw (s, u, v) h

left_sound : (k : Key) (t : List Slot) (d m : List ℕ) (t' : List Slot) (d' m' : List ℕ) (b : Bool) → Sound t d m → Left k t d m t' d' m' b → Sound t' d' m'
left_sound k t d m t' d' m' b h (stayed s u v) = rw (s, u, v) h
left_sound k t d m t' d' m' b h (emptied i f sound after) = sound

pub stays_usable : StaysUsable
stays_usable =
    record {
      empty = λ d m e q. sound_usable _ d m (empty_sound d m e q);
      taking =
          λ t d m l n u r d' m' c.
          let h = usable_sound t d m n u in
          sound_usable _ d' m' (went_sound t d m l _ _ d' m' h (went t d m l h r d' m' c));
      discarding =
          λ t d m k n u r d' m' c.
          let h = usable_sound t d m n u in
          sound_usable _ d' m' (left_sound k t d m _ d' m' _ h (discarding t d m k h r d' m' c).left);
      taking_out =
          λ t d m k o n u r d' m' o' c.
          let h = usable_sound t d m n u in
          sound_usable _ d' m' (left_sound k t d m _ d' m' _ h (outgoing t d m k h o r d' m' o' c).left);
    }

-- ---- one call and a packet of another key
module _ (t : List Slot) (d m : List ℕ) (k : Key) (l : List ℕ) (h : Sound t d m) (foreign : Foreign k l) (room : HasSlot t d m l) where
  not_k : (x : Keyed) → keyed_in l ≡ gives x → same_key x.key k ≡ false
  not_k x e = fails _ (λ s. foreign x e (same_is x.key k s))

  k_not : (x : Keyed) → keyed_in l ≡ gives x → same_key k x.key ≡ false
  k_not x e = fails _ (λ s. foreign x e (sym (same_is k x.key s)))

  -- the packet leaves the assembly of k as it was
  foreign_keeps : (o : Answer Outcome) (t' : List Slot) (d' m' : List ℕ) → Went t d m l o t' d' m' → assembly_of t' d' m' k ≡ assembly_of t d m k
  foreign_keeps o t' d' m' (kept n e q s u v) = λ i. assembly_of (s i) (u i) (v i) k
  foreign_keeps o t' d' m' (took x s e q met sound after) = after k ∙ pick_no _ _ (not_k x e)
  foreign_keeps o t' d' m' (turned x e q n f s u v) = λ i. assembly_of (s i) (u i) (v i) k

  -- the two changes, in either order
  two_orders : (a b : Bool) (x y z : Option State) → (a ≡ true → b ≡ true → ⊥) → cond a x (cond b y z) ≡ cond b y (cond a x z)
  two_orders true true x y z n = absurd (n refl refl)
  two_orders true false x y z n = refl
  two_orders false b x y z n = refl

  -- a slot is emptied first: e and f are the outcomes of the packet after it and before it
  module _ (t₁ : List Slot) (d₁ m₁ : List ℕ) (i : ℕ) (free : Free t₁ i)
      (gone : (j : Key) → assembly_of t₁ d₁ m₁ j ≡ cond (same_key k j) None (assembly_of t d m j)) where
    -- the packet finds the same assembly of its key
    met_same : (x : Keyed) → keyed_in l ≡ gives x → assembly_of t₁ d₁ m₁ x.key ≡ assembly_of t d m x.key
    met_same x e = gone x.key ∙ pick_no _ _ (k_not x e)

    emptied_first : (o o' : Answer Outcome) (t₂ : List Slot) (d₂ m₂ : List ℕ) (u₁ : List Slot) (e₁ n₁ : List ℕ) (u₂ : List Slot) (e₂ n₂ : List ℕ)
        → Went t₁ d₁ m₁ l o t₂ d₂ m₂ → Went t d m l o' u₁ e₁ n₁
        → ((j : Key) → assembly_of u₂ e₂ n₂ j ≡ cond (same_key k j) None (assembly_of u₁ e₁ n₁ j))
        → (o ≡ o') × Alike t₂ d₂ m₂ u₂ e₂ n₂
    emptied_first o o' t₂ d₂ m₂ u₁ e₁ n₁ u₂ e₂ n₂ (turned x e q n f s u v) (kept n' e' q' s' u' v') after = absurd (both (all_used 0 t₁ f i free.below) free.unused)
    emptied_first o o' t₂ d₂ m₂ u₁ e₁ n₁ u₂ e₂ n₂ (turned x e q n f s u v) (took y z e' q' met sound to) after = absurd (both (all_used 0 t₁ f i free.below) free.unused)
    emptied_first o o' t₂ d₂ m₂ u₁ e₁ n₁ u₂ e₂ n₂ (turned x e q n f s u v) (turned y e' q' n' f' s' u' v') after = absurd (both (all_used 0 t₁ f i free.below) free.unused)
    emptied_first o o' t₂ d₂ m₂ u₁ e₁ n₁ u₂ e₂ n₂ (kept n' e' q' s' u' v') (turned y e q n f s u v) after = absurd (room q)
    emptied_first o o' t₂ d₂ m₂ u₁ e₁ n₁ u₂ e₂ n₂ (took x z e' q' met sound to) (turned y e q n f s u v) after = absurd (room q)
    emptied_first o o' t₂ d₂ m₂ u₁ e₁ n₁ u₂ e₂ n₂ (kept n e q s u v) (kept n' e' q' s' u' v') after =
        let z : n ≡ n' = cc in (
          q ∙ ap refused z ∙ sym q',
          λ j. (λ i. assembly_of (s i) (u i) (v i) j) ∙ gone j
              ∙ ap (λ (z : Option State). cond (same_key k j) None z) (sym (λ i. assembly_of (s' i) (u' i) (v' i) j)) ∙ sym (after j),
        )
    emptied_first o o' t₂ d₂ m₂ u₁ e₁ n₁ u₂ e₂ n₂ (kept n e q s u v) (took x y e' q' met sound to) after =
        let z : ◌≡◌ {A = ℕ} 0 1 = cc in absurd (omega arith)
    emptied_first o o' t₂ d₂ m₂ u₁ e₁ n₁ u₂ e₂ n₂ (took x y e q met sound to) (kept n e' q' s u v) after =
        let z : ◌≡◌ {A = ℕ} 0 1 = cc in absurd (omega arith)
    emptied_first o o' t₂ d₂ m₂ u₁ e₁ n₁ u₂ e₂ n₂ (took x y e q met sound to) (took x' y' e' q' met' sound' to') after =
        let same : x' ≡ x = cc in
        let led : y ≡ y' =
        met ∙ ap (λ (z : Option State). step (met_by x.key z) x.piece) (met_same x e)
        ∙ ap (λ (z : Keyed). step (met_by z.key (assembly_of t d m z.key)) z.piece) (sym same) ∙ sym met' in (
          q ∙ ap (λ (z : State). gives (outcome z)) led ∙ sym q',
          λ j. to j
              ∙ ap (λ (z : State). cond (same_key x.key j) (Some z) (assembly_of t₁ d₁ m₁ j)) led
              ∙ ap (λ (z : Option State). cond (same_key x.key j) (Some y') z) (gone j)
              ∙ two_orders (same_key x.key j) (same_key k j) (Some y') None (assembly_of t d m j)
              (λ a b. foreign x e (same_is x.key j a ∙ sym (same_is k j b)))
              ∙ ap (λ (z : Keyed). cond (same_key k j) None (cond (same_key z.key j) (Some y') (assembly_of t d m j))) (sym same)
              ∙ ap (λ (z : Option State). cond (same_key k j) None z) (sym (to' j))
              ∙ sym (after j),
        )

  -- whether a slot is emptied or not
  either_order : (b : Bool) (t₁ : List Slot) (d₁ m₁ : List ℕ) → Left k t d m t₁ d₁ m₁ b
      → (p : After Outcome) (d₂ m₂ : List ℕ) → Tables (table_take t₁ d₁ m₁ l) t₁ d₁ m₁ p d₂ m₂
      → (p' : After Outcome) (e₁ n₁ : List ℕ) → Tables (table_take t d m l) t d m p' e₁ n₁
      → (u₂ : List Slot) (e₂ n₂ : List ℕ) → Left k p'.table e₁ n₁ u₂ e₂ n₂ b
      → (p.answer ≡ p'.answer) × Alike p.table d₂ m₂ u₂ e₂ n₂
  either_order b t₁ d₁ m₁ (stayed s u v) p d₂ m₂ c p' e₁ n₁ c' u₂ e₂ n₂ (stayed s' u' v') =
      let x = tables_only (table_take t d m l) t d m p p' d₂ m₂ e₁ n₁ (rw (s, u, v) at c) c' in
      (ap (λ (z : After Outcome). z.answer) x.0, λ j i. assembly_of ((ap (λ (z : After Outcome). z.table) x.0 ∙ sym s') i) ((x.1 ∙ sym u') i) ((x.2 ∙ sym v') i) j)
  either_order b t₁ d₁ m₁ (emptied i free sound gone) p d₂ m₂ c p' e₁ n₁ c' u₂ e₂ n₂ (emptied i' free' sound' gone') =
      let x =
      emptied_first t₁ d₁ m₁ i free gone _ _ p.table d₂ m₂ p'.table e₁ n₁ u₂ e₂ n₂ (went t₁ d₁ m₁ l sound p d₂ m₂ c) (went t d m l h p' e₁ n₁ c') gone' in
      (says_only p.answer p'.answer _ x.0 refl, x.1)

-- ---- a table that 11 refuses is left as it is by every call
module _ (t : List Slot) (d m : List ℕ) (bad : table_fits t (length d) (length m) ≡ false) where
  taken_eleven : (l : List ℕ) (r : After Outcome) (d' m' : List ℕ) → Tables (table_take t d m l) t d m r d' m'
      → (says r.answer ≡ refused 11) × (r.table ≡ t) × (d' ≡ d) × (m' ≡ m)
  taken_eleven l r d' m' c =
      let e = table_eleven t d m l bad in (
        c.answer ∙ ap (λ (a : Answer Placing). mapped (λ x. outcome x.state) a) e,
        c.slots_are ∙ ap (λ (a : Answer Placing). slots_after a t) e,
        c.payloads_are ∙ ap (λ (a : Answer Placing). payloads_after a d) e,
        c.maps_are ∙ ap (λ (a : Answer Placing). maps_after a m) e,
      )

  discarded_eleven : (k : Key) (r : After (Unit {0})) (d' m' : List ℕ) → Discards t d m k r d' m'
      → (says r.answer ≡ refused 11) × (r.table ≡ t) × (d' ≡ d) × (m' ≡ m)
  discarded_eleven k r d' m' c =
      let e = discard_eleven t d m k bad in (
        c.answer ∙ ap (λ (a : Answer ℕ). mapped (λ i. tt {0}) a) e,
        c.slots_are ∙ ap (λ (a : Answer ℕ). slots_without a t) e,
        c.payloads_are ∙ ap (λ (a : Answer ℕ). part_without slot_bytes a d) e,
        c.maps_are ∙ ap (λ (a : Answer ℕ). part_without slot_map a m) e,
      )

  out_eleven_kept : (k : Key) (o : List ℕ) (r : After ℕ) (d' m' o' : List ℕ) → TakesOut t d m k o r d' m' o'
      → (says r.answer ≡ refused 11) × (r.table ≡ t) × (d' ≡ d) × (m' ≡ m) × (o' ≡ o)
  out_eleven_kept k o r d' m' o' c =
      let e = out_eleven t d m k o bad in (
        c.answer ∙ ap (λ (a : Answer Outing). mapped (λ x. length x.datagram) a) e,
        c.slots_are ∙ ap (λ (a : Answer Outing). slots_without (slot_in a) t) e,
        c.payloads_are ∙ ap (λ (a : Answer Outing). part_without slot_bytes (slot_in a) d) e,
        c.maps_are ∙ ap (λ (a : Answer Outing). part_without slot_map (slot_in a) m) e,
        c.output_is ∙ ap (λ (a : Answer Outing). datagram_in a o) e,
      )

-- ---- both orders
module _ (t : List Slot) (d m : List ℕ) (k : Key) (l : List ℕ) where
  discard_unusable : table_fits t (length d) (length m) ≡ false → (g g' : After (Unit {0})) (p p' : After Outcome) (d₁ m₁ d₂ m₂ : List ℕ)
      → DiscardFirst t d m k l g p d₁ m₁ → DiscardLast t d m k l g' p' d₂ m₂
      → (g.answer ≡ g'.answer) × (p.answer ≡ p'.answer) × Alike p.table d₁ m₁ g'.table d₂ m₂
  discard_unusable bad g g' p p' d₁ m₁ d₂ m₂ a b =
      let (ga, gt, gd, gm) = discarded_eleven t d m bad k g a.payloads a.maps a.discards in
      let (pa, pt, pd, pm) = taken_eleven t d m bad l p d₁ m₁ (rw (gt, gd, gm) at a.takes) in
      let (qa, qt, qd, qm) = taken_eleven t d m bad l p' b.payloads b.maps b.takes in
      let (ha, ht, hd, hm) = discarded_eleven t d m bad k g' d₂ m₂ (rw (qt, qd, qm) at b.discards) in (
        says_only g.answer g'.answer _ ga ha,
        says_only p.answer p'.answer _ pa qa,
        λ j i. assembly_of ((pt ∙ sym ht) i) ((pd ∙ sym hd) i) ((pm ∙ sym hm) i) j,
      )

  out_unusable : table_fits t (length d) (length m) ≡ false → (o : List ℕ) (g g' : After ℕ) (p p' : After Outcome) (d₁ m₁ o₁ d₂ m₂ o₂ : List ℕ)
      → OutFirst t d m k l o g p d₁ m₁ o₁ → OutLast t d m k l o g' p' d₂ m₂ o₂
      → (g.answer ≡ g'.answer) × (p.answer ≡ p'.answer) × (o₁ ≡ o₂) × Alike p.table d₁ m₁ g'.table d₂ m₂
  out_unusable bad o g g' p p' d₁ m₁ o₁ d₂ m₂ o₂ a b =
      let (ga, gt, gd, gm, go) = out_eleven_kept t d m bad k o g a.payloads a.maps o₁ a.takes_out in
      let (pa, pt, pd, pm) = taken_eleven t d m bad l p d₁ m₁ (rw (gt, gd, gm) at a.takes) in
      let (qa, qt, qd, qm) = taken_eleven t d m bad l p' b.payloads b.maps b.takes in
      let (ha, ht, hd, hm, ho) = out_eleven_kept t d m bad k o g' d₂ m₂ o₂ (rw (qt, qd, qm) at b.takes_out) in (
        says_only g.answer g'.answer _ ga ha,
        says_only p.answer p'.answer _ pa qa,
        go ∙ sym ho,
        λ j i. assembly_of ((pt ∙ sym ht) i) ((pd ∙ sym hd) i) ((pm ∙ sym hm) i) j,
      )

  module _ (h : Sound t d m) (foreign : Foreign k l) (room : HasSlot t d m l) where
    -- before and after the packet the assembly of k is the same, so both calls do the same
    discard_usable : (g g' : After (Unit {0})) (p p' : After Outcome) (d₁ m₁ d₂ m₂ : List ℕ) → DiscardFirst t d m k l g p d₁ m₁ → DiscardLast t d m k l g' p' d₂ m₂
        → (g.answer ≡ g'.answer) × (p.answer ≡ p'.answer) × Alike p.table d₁ m₁ g'.table d₂ m₂
    discard_usable g g' p p' d₁ m₁ d₂ m₂ a b =
        let w = went t d m l h p' b.payloads b.maps b.takes in
        let x = discarding t d m k h g a.payloads a.maps a.discards in
        let y = discarding p'.table b.payloads b.maps k (went_sound t d m l _ _ _ _ h w) g' d₂ m₂ b.discards in
        let same = foreign_keeps t d m k l h foreign room _ _ _ _ w in
        let left : Left k p'.table b.payloads b.maps g'.table d₂ m₂ _ = rw same at y.left in
        let z = either_order t d m k l h foreign room _ g.table a.payloads a.maps x.left p d₁ m₁ a.takes p' b.payloads b.maps b.takes g'.table d₂ m₂ left in
        (says_only g.answer g'.answer _ x.answer (y.answer ∙ ap gone_by same), z.0, z.1)

    out_usable : (o : List ℕ) (g g' : After ℕ) (p p' : After Outcome) (d₁ m₁ o₁ d₂ m₂ o₂ : List ℕ) → OutFirst t d m k l o g p d₁ m₁ o₁
        → OutLast t d m k l o g' p' d₂ m₂ o₂
        → (g.answer ≡ g'.answer) × (p.answer ≡ p'.answer) × (o₁ ≡ o₂) × Alike p.table d₁ m₁ g'.table d₂ m₂
    out_usable o g g' p p' d₁ m₁ o₁ d₂ m₂ o₂ a b =
        let w = went t d m l h p' b.payloads b.maps b.takes in
        let x = outgoing t d m k h o g a.payloads a.maps o₁ a.takes_out in
        let y = outgoing p'.table b.payloads b.maps k (went_sound t d m l _ _ _ _ h w) o g' d₂ m₂ o₂ b.takes_out in
        let same = foreign_keeps t d m k l h foreign room _ _ _ _ w in
        let left : Left k p'.table b.payloads b.maps g'.table d₂ m₂ _ = rw same at y.left in
        let z = either_order t d m k l h foreign room _ g.table a.payloads a.maps x.left p d₁ m₁ a.takes p' b.payloads b.maps b.takes g'.table d₂ m₂ left in (
          says_only g.answer g'.answer _ x.answer (y.answer ∙ ap (λ (s : Option State). mapped length (out_by (length o) s)) same),
          z.0,
          x.output_is ∙ sym (y.output_is ∙ ap (λ (s : Option State). put_out (out_by (length o) s) o) same),
          z.1,
        )

pub commutes : Commutes
commutes =
    record {
      discarding =
          λ t d m k l n foreign room g g' p p' d₁ m₁ d₂ m₂ a b.
          by_eleven (table_fits t (length d) (length m)) refl
          (λ bad. discard_unusable t d m k l bad g g' p p' d₁ m₁ d₂ m₂ a b)
          (λ ok. discard_usable t d m k l (usable_sound t d m n ok) foreign room g g' p p' d₁ m₁ d₂ m₂ a b);
      taking_out =
          λ t d m k l o n foreign room g g' p p' d₁ m₁ o₁ d₂ m₂ o₂ a b.
          by_eleven (table_fits t (length d) (length m)) refl
          (λ bad. out_unusable t d m k l bad o g g' p p' d₁ m₁ o₁ d₂ m₂ o₂ a b)
          (λ ok. out_usable t d m k l (usable_sound t d m n ok) foreign room o g g' p p' d₁ m₁ o₁ d₂ m₂ o₂ a b);
    }
  where
    by_eleven : {A : Type 0} {u : Bool} (b : Bool) → u ≡ b → (u ≡ false → A) → (u ≡ true → A) → A
    by_eleven true e bad ok = ok e
    by_eleven false e bad ok = bad e
