-- What each call does to the assembly of each key: a packet leads its own key's on, and the two calls that empty a slot leave its key none.
use Rattle.std.specs.Prelude.{Option, None, Some}
use mathlib.Core.Path.{◌≡◌, refl, sym, ap, ◌∙◌}
use mathlib.Core.Bool.{Bool, true, false, cond}
use mathlib.Core.List.{List}
use Prim.Native.Nat.{ℕ, ◌<◌}
use native.Mathlib.Omega.{arith}
use lib.ListN.{length, set, length-set, length-replicate}
use lib.Seq.{get_or-set_same}
use Rattle.pkt.specs.Answers.{Answer, refused, gives, and_then, mapped, fitting, says}
use Rattle.pkt.specs.Written.{written, zeros}
use Rattle.pkt.proofs.Choice.{both, pick_yes}
use Rattle.assembly.specs.declared.Key.{Key}
use Rattle.assembly.specs.declared.Outcome.{Outcome}
use Rattle.assembly.specs.Assembly.{State, outcome, opened, step, record_fits, complete, held_bytes}
use Rattle.assembly.specs.Carried.{same_key}
use Rattle.assembly.proofs.Steps.{view_of}
use Rattle.assembly.proofs.Keeping.{Kept, cleared_kept, step_kept}
use Rattle.table.specs.declared.Slot.{Slot}
use Rattle.table.specs.declared.After.{After}
use Rattle.table.specs.Slots.{slots, slot_bytes, slot_map, with_part, free_slot, slot_of, state_at, slot_fits, key_from, free_from}
use Rattle.table.specs.Table.{Placing, opened_at, placed_at, stepped_by, table_take, slots_after, payloads_after, maps_after, Tables}
use Rattle.table.specs.Table.{held_for, slots_without, part_without, Discards, Outing, outing, out_of, out_answer, slot_in, datagram_in, TakesOut}
use Rattle.table.specs.Mixed.{Keyed, keyed_in, assembly_at, assembly_of}
use Rattle.table.proofs.Places.{place_length}
use Rattle.table.proofs.Keys.{Has, has_below, key_found, key_absent, Free, free_found, Distinct}
use Rattle.table.proofs.Assemblies.{Sound, sound_usable, assembly_at_lem, assembly_none, Stores, stored_sound, stored_assembly}
use Rattle.table.proofs.Calling.{discard_found}
use Rattle.table.proofs.Held.{met_by}
use Rattle.table.proofs.Carries.{placed_by, take_keyed, keyed_acceptable}

-- ---- a state of the key k is stored in slot i, which was free or had that key
module _ (t : List Slot) (d m : List ℕ) (h : Sound t d m) (i : ℕ) (k : Key) (below : i < slots) (own : (j : Key) → Has t i j → j ≡ k)
    (alone : (j : ℕ) → Has t j k → j ≡ i) where
  module _ (s : State) (good : Kept k slot_bytes slot_map s) where
    stores : Stores t d m i k (slot_of s) s.payload s.map
    unfolding slot_fits
    stores =
        record {
          sound = h;
          below = below;
          own = own;
          alone = alone;
          keyed = λ u. good.key_is;
          fits = ap (λ (u : State). record_fits slot_bytes u.total u.floor) (view_of s) ∙ good.fits;
          payload_size = good.payload_size;
          map_size = good.map_size;
        }

    put_sound : Sound (set t i (slot_of s)) (with_part slot_bytes i s.payload d) (with_part slot_map i s.map m)
    put_sound = stored_sound t d m i k (slot_of s) s.payload s.map stores

    put_assembly : (j : Key) → assembly_of (set t i (slot_of s)) (with_part slot_bytes i s.payload d) (with_part slot_map i s.map m) j
        ≡ cond (same_key k j) (Some s) (assembly_of t d m j)
    put_assembly j =
        stored_assembly t d m i k (slot_of s) s.payload s.map stores j
        ∙ ap (λ (u : State). cond (same_key k j) (Some u) (assembly_of t d m j)) (view_of s)

  -- or the slot is emptied
  empties : Stores t d m i k free_slot (zeros slot_bytes) (zeros slot_map)
  unfolding slot_fits
  empties =
      record {
        sound = h;
        below = below;
        own = own;
        alone = alone;
        keyed = λ u. absurd (both u refl);
        fits = refl;
        payload_size = length-replicate {A = ℕ} slot_bytes 0;
        map_size = length-replicate {A = ℕ} slot_map 0;
      }

  emptied_sound : Sound (set t i free_slot) (with_part slot_bytes i (zeros slot_bytes) d) (with_part slot_map i (zeros slot_map) m)
  emptied_sound = stored_sound t d m i k free_slot (zeros slot_bytes) (zeros slot_map) empties

  emptied_assembly : (j : Key) → assembly_of (set t i free_slot) (with_part slot_bytes i (zeros slot_bytes) d) (with_part slot_map i (zeros slot_map) m) j
      ≡ cond (same_key k j) None (assembly_of t d m j)
  emptied_assembly j = stored_assembly t d m i k free_slot (zeros slot_bytes) (zeros slot_map) empties j

  emptied_free : Free (set t i free_slot) i
  emptied_free =
      let w : i < length t = omega (arith, h.size) in
      record { below = rw length-set w; unused = ap (λ (x : Slot). x.used) (get_or-set_same t i free_slot free_slot w) }

-- ---- a packet

-- it carries no piece; or its piece is taken; or it is turned away, because the key is new and all slots are occupied
pub data Went (t : List Slot) (d m l : List ℕ) (o : Answer Outcome) (t' : List Slot) (d' m' : List ℕ) : Type 0 where
  kept : (n : ℕ) → keyed_in l ≡ refused n → o ≡ refused n → t' ≡ t → d' ≡ d → m' ≡ m → Went t d m l o t' d' m'
  took : (x : Keyed) (s : State) → keyed_in l ≡ gives x → o ≡ gives (outcome s) → s ≡ step (met_by x.key (assembly_of t d m x.key)) x.piece
      → Sound t' d' m' → ((j : Key) → assembly_of t' d' m' j ≡ cond (same_key x.key j) (Some s) (assembly_of t d m j)) → Went t d m l o t' d' m'
  turned : (x : Keyed) → keyed_in l ≡ gives x → table_take t d m l ≡ refused 19 → key_from 0 x.key t ≡ None → free_from 0 t ≡ None
      → t' ≡ t → d' ≡ d → m' ≡ m → Went t d m l o t' d' m'

module _ (t : List Slot) (d m l : List ℕ) (h : Sound t d m) where
  -- it goes so with what an answer leaves
  abbrev GoesTo : Answer Placing → Type 0
  GoesTo a = Went t d m l (mapped (λ x. outcome x.state) a) (slots_after a t) (payloads_after a d) (maps_after a m)

  answered : table_take t d m l ≡ and_then (keyed_in l) (placed_by t d m)
  answered = take_keyed t d m l (sound_usable t d m h)

  module _ (x : Keyed) (e : keyed_in l ≡ gives x) where
    -- the key has slot i
    held_kept : (i : ℕ) → Has t i x.key → Kept x.key slot_bytes slot_map (state_at t d m i)
    unfolding slot_fits
    held_kept i a =
        let b : i < slots = omega (arith, has_below t i x.key a, h.size) in
        record {
          key_is = a.key_is;
          payload_size = place_length slot_bytes slots i d b h.payloads;
          map_size = place_length slot_map slots i m b h.maps;
          fits = sym (pick_yes _ true a.used) ∙ h.fits i;
        }

    into : (i : ℕ) → key_from 0 x.key t ≡ Some i → GoesTo (mapped (stepped_by x.piece) (placed_at t d m x.key (Some i)))
    unfolding Distinct
    into i q =
        let a = key_found x.key t i q in
        let b : i < slots = omega (arith, has_below t i x.key a, h.size) in
        let s = step (state_at t d m i) x.piece in
        let good = step_kept x.key slot_bytes slot_map (state_at t d m i) x.piece (held_kept i a) (keyed_acceptable l x e) in
        let own : (j : Key) → Has t i j → j ≡ x.key = λ j c. sym c.key_is ∙ a.key_is in
        let alone : (j : ℕ) → Has t j x.key → j ≡ i = λ j c. h.distinct j i x.key c a in
        let met : s ≡ step (met_by x.key (assembly_of t d m x.key)) x.piece =
        ap (λ (o : Option State). step (met_by x.key o) x.piece) (sym (assembly_at_lem t d m h.distinct i x.key a)) in
        took x s e refl met (put_sound t d m h i x.key b own alone s good) (put_assembly t d m h i x.key b own alone s good)

    -- it has none: a free one is opened
    opens : key_from 0 x.key t ≡ None → (c : Option ℕ) → free_from 0 t ≡ c → GoesTo (mapped (stepped_by x.piece) (opened_at x.key c))
    opens n (Some i) q =
        let a = free_found t i q in
        let b : i < slots = omega (arith, a.below, h.size) in
        let s = step (opened x.key slot_bytes slot_map) x.piece in
        let good =
        step_kept x.key slot_bytes slot_map (opened x.key slot_bytes slot_map) x.piece (cleared_kept x.key slot_bytes slot_map false) (keyed_acceptable l x e) in
        let own : (j : Key) → Has t i j → j ≡ x.key = λ j c. absurd (both c.used a.unused) in
        let alone : (j : ℕ) → Has t j x.key → j ≡ i = λ j c. absurd (key_absent 0 x.key t n j c) in
        let met : s ≡ step (met_by x.key (assembly_of t d m x.key)) x.piece =
        ap (λ (o : Option State). step (met_by x.key o) x.piece) (sym (assembly_none t d m x.key (key_absent 0 x.key t n))) in
        took x s e refl met (put_sound t d m h i x.key b own alone s good) (put_assembly t d m h i x.key b own alone s good)
    opens n None q =
        let given : and_then (keyed_in l) (placed_by t d m) ≡ refused 19 =
        ap (λ (a : Answer Keyed). and_then a (placed_by t d m)) e
        ∙ ap (λ (f : Option ℕ). mapped (stepped_by x.piece) (placed_at t d m x.key f)) n
        ∙ ap (λ (f : Option ℕ). mapped (stepped_by x.piece) (opened_at x.key f)) q in
        turned x e (answered ∙ given) n q refl refl refl

    -- whichever is found
    placed : (c : Option ℕ) → key_from 0 x.key t ≡ c → GoesTo (mapped (stepped_by x.piece) (placed_at t d m x.key c))
    placed (Some i) q = into i q
    placed None q = opens q (free_from 0 t) refl

  -- whatever the packet carries,
  went_by : (a : Answer Keyed) → keyed_in l ≡ a → GoesTo (and_then a (placed_by t d m))
  went_by (refused n) e = kept n e refl refl refl refl
  went_by (gives x) e = placed x e (key_from 0 x.key t) refl

  -- and so after the call
  pub went : (r : After Outcome) (d' m' : List ℕ) → Tables (table_take t d m l) t d m r d' m' → Went t d m l (says r.answer) r.table d' m'
  went r d' m' c =
      let o = c.answer ∙ ap (λ (y : Answer Placing). mapped (λ z. outcome z.state) y) answered in
      let s = c.slots_are ∙ ap (λ (y : Answer Placing). slots_after y t) answered in
      let u = c.payloads_are ∙ ap (λ (y : Answer Placing). payloads_after y d) answered in
      let v = c.maps_are ∙ ap (λ (y : Answer Placing). maps_after y m) answered in
      rw (o, s, u, v) (went_by (keyed_in l) refl)

-- ---- emptying a slot

-- a slot with the key k was emptied, or all is as it was
pub data Left (k : Key) (t : List Slot) (d m : List ℕ) (t' : List Slot) (d' m' : List ℕ) : Bool → Type 0 where
  stayed : t' ≡ t → d' ≡ d → m' ≡ m → Left k t d m t' d' m' false
  emptied : (i : ℕ) → Free t' i → Sound t' d' m' → ((j : Key) → assembly_of t' d' m' j ≡ cond (same_key k j) None (assembly_of t d m j))
      → Left k t d m t' d' m' true

-- an answer that gives something
abbrev is_given : {A : Type 0} → Answer A → Bool
is_given (gives a) = true
is_given (refused n) = false

-- what is left by an answer that gives the slot, or refuses
abbrev LeftBy : Key → List Slot → List ℕ → List ℕ → Answer ℕ → Bool → Type 0
LeftBy k t d m a b = Left k t d m (slots_without a t) (part_without slot_bytes a d) (part_without slot_map a m) b

-- what discarding and taking out answer, by the assembly of the key; of the latter the datagram
abbrev pub gone_by : Option State → Answer (Unit {0})
gone_by (Some s) = gives tt
gone_by None = refused 27

abbrev pub out_by : ℕ → Option State → Answer (List ℕ)
out_by room (Some s) = cond (complete s) (mapped (λ n. held_bytes s) (fitting (length (held_bytes s)) room)) (refused 27)
out_by room None = refused 27

abbrev pub put_out : Answer (List ℕ) → List ℕ → List ℕ
put_out (gives b) o = written b o
put_out (refused n) o = o

pub record Discarding (t : List Slot) (d m : List ℕ) (k : Key) (r : After (Unit {0})) (d' m' : List ℕ) : Type 0 where
  pub answer : says r.answer ≡ gone_by (assembly_of t d m k)
  pub left : Left k t d m r.table d' m' (is_given (gone_by (assembly_of t d m k)))

pub record Outgoing (t : List Slot) (d m : List ℕ) (k : Key) (o : List ℕ) (r : After ℕ) (d' m' o' : List ℕ) : Type 0 where
  pub answer : says r.answer ≡ mapped length (out_by (length o) (assembly_of t d m k))
  pub output_is : o' ≡ put_out (out_by (length o) (assembly_of t d m k)) o
  pub left : Left k t d m r.table d' m' (is_given (out_by (length o) (assembly_of t d m k)))

module _ (t : List Slot) (d m : List ℕ) (k : Key) (h : Sound t d m) where
  left_at : (i : ℕ) → key_from 0 k t ≡ Some i → LeftBy k t d m (gives i) true
  unfolding Distinct
  left_at i q =
      let a = key_found k t i q in
      let b : i < slots = omega (arith, has_below t i k a, h.size) in
      let own : (j : Key) → Has t i j → j ≡ k = λ j c. sym c.key_is ∙ a.key_is in
      let alone : (j : ℕ) → Has t j k → j ≡ i = λ j c. h.distinct j i k c a in
      emptied i (emptied_free t d m h i k b own alone) (emptied_sound t d m h i k b own alone) (emptied_assembly t d m h i k b own alone)

  gone_answer : (f : Option ℕ) → mapped (λ i. tt {0}) (held_for f) ≡ gone_by (assembly_at t d m f)
  gone_answer (Some i) = refl
  gone_answer None = refl

  gone_left : (f : Option ℕ) → key_from 0 k t ≡ f → LeftBy k t d m (held_for f) (is_given (gone_by (assembly_at t d m f)))
  gone_left (Some i) q = left_at i q
  gone_left None q = stayed refl refl refl

  pub discarding : (r : After (Unit {0})) (d' m' : List ℕ) → Discards t d m k r d' m' → Discarding t d m k r d' m'
  discarding r d' m' c =
      let e = discard_found t d m k (key_from 0 k t) (sound_usable t d m h) refl in
      let s = c.slots_are ∙ ap (λ (a : Answer ℕ). slots_without a t) e in
      let u = c.payloads_are ∙ ap (λ (a : Answer ℕ). part_without slot_bytes a d) e in
      let v = c.maps_are ∙ ap (λ (a : Answer ℕ). part_without slot_map a m) e in
      record {
        answer = c.answer ∙ ap (λ (a : Answer ℕ). mapped (λ i. tt {0}) a) e ∙ gone_answer (key_from 0 k t);
        left = rw (s, u, v) (gone_left (key_from 0 k t) refl);
      }

  module _ (o : List ℕ) where
    -- the answer of the slot that is found
    abbrev out_at : Option ℕ → Answer Outing
    out_at f = and_then (held_for f) (λ i. out_of (state_at t d m i) i (length o))

    out_datagram : (f : Option ℕ) → mapped (λ x. x.datagram) (out_at f) ≡ out_by (length o) (assembly_at t d m f)
    out_datagram None = refl
    out_datagram (Some i) = go (complete (state_at t d m i)) (fitting (length (held_bytes (state_at t d m i))) (length o))
      where
        go : (b : Bool) (a : Answer ℕ) → mapped (λ x. x.datagram) (cond b (mapped (λ n. outing (state_at t d m i) i) a) (refused 27))
            ≡ cond b (mapped (λ n. held_bytes (state_at t d m i)) a) (refused 27)
        go true (gives n) = refl
        go true (refused n) = refl
        go false a = refl

    out_left : (f : Option ℕ) → key_from 0 k t ≡ f → LeftBy k t d m (slot_in (out_at f)) (is_given (out_by (length o) (assembly_at t d m f)))
    out_left None q = stayed refl refl refl
    out_left (Some i) q = go (complete (state_at t d m i)) (fitting (length (held_bytes (state_at t d m i))) (length o))
      where
        go : (b : Bool) (a : Answer ℕ) → LeftBy k t d m (slot_in (cond b (mapped (λ n. outing (state_at t d m i) i) a) (refused 27)))
            (is_given (cond b (mapped (λ n. held_bytes (state_at t d m i)) a) (refused 27)))
        go true (gives n) = left_at i q
        go true (refused n) = stayed refl refl refl
        go false a = stayed refl refl refl

    out_length : (a : Answer Outing) → mapped (λ x. length x.datagram) a ≡ mapped length (mapped (λ x. x.datagram) a)
    out_length (gives x) = refl
    out_length (refused n) = refl

    out_put : (a : Answer Outing) → datagram_in a o ≡ put_out (mapped (λ x. x.datagram) a) o
    out_put (gives x) = refl
    out_put (refused n) = refl

    pub outgoing : (r : After ℕ) (d' m' o' : List ℕ) → TakesOut t d m k o r d' m' o' → Outgoing t d m k o r d' m' o'
    unfolding out_answer
    outgoing r d' m' o' c =
        let e : out_answer t d m k (length o) ≡ out_at (key_from 0 k t) = pick_yes _ _ (sound_usable t d m h) in
        let b = out_datagram (key_from 0 k t) in
        let s = c.slots_are ∙ ap (λ (a : Answer Outing). slots_without (slot_in a) t) e in
        let u = c.payloads_are ∙ ap (λ (a : Answer Outing). part_without slot_bytes (slot_in a) d) e in
        let v = c.maps_are ∙ ap (λ (a : Answer Outing). part_without slot_map (slot_in a) m) e in
        record {
          answer = c.answer ∙ ap (λ (a : Answer Outing). mapped (λ x. length x.datagram) a) e ∙ out_length (out_at (key_from 0 k t)) ∙ ap (mapped length) b;
          output_is = c.output_is ∙ ap (λ (a : Answer Outing). datagram_in a o) e ∙ out_put (out_at (key_from 0 k t)) ∙ ap (λ (a : Answer (List ℕ)). put_out a o) b;
          left = rw (s, u, v) (out_left (key_from 0 k t) refl);
        }
