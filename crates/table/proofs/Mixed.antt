-- "Pieces of several cars arrive mixed": each key's assembly is the one that its own pieces alone lead to.
use Rattle.std.specs.Prelude.{None, Some}
use mathlib.Core.Path.{◌≡◌, refl, sym, ap, ◌∙◌}
use mathlib.Core.List.Memᴰ
use mathlib.Core.List.{List, [], ◌∷◌, ◌++◌, Memᴰ}
use Prim.Native.Nat.{ℕ, zero, suc, ◌<◌}
use native.Mathlib.Omega.{arith}
use lib.ListN.{length, get_or}
use Rattle.pkt.specs.Answers.{gives, says}
use Rattle.assembly.specs.declared.Key.{Key}
use Rattle.assembly.specs.Piece.{Piece, Same}
use Rattle.assembly.specs.Assembly.{State, opened, run}
use Rattle.assembly.specs.Demand.{AllAcceptable}
use Rattle.assembly.proofs.Assembles.{assembles}
use Rattle.table.specs.declared.Slot.{Slot}
use Rattle.table.specs.Slots.{slot_bytes, slot_map, free_slot, state_at, key_from, free_from}
use Rattle.table.specs.Mixed.{Keyed, keyed_in, pieces_of, AtMostEight, HandedTo, empty, more, led_to, Mixes}
use Rattle.table.proofs.Few.{all_in}
use Rattle.table.proofs.Keys.{Has, key_absent, none_free, Distinct}
use Rattle.table.proofs.Assemblies.{assembly_at_lem}
use Rattle.table.proofs.Held.{Held, held_as, held_none, held_more}
use Rattle.table.proofs.Carries.{keyed_acceptable, pieces_kept, pieces_more, carried_by_lem}
use Rattle.table.proofs.Effects.{Went, kept, took, turned, went}

-- ---- at most eight keys: none is turned away

-- a new key, and behind it the slots' keys
keys_with : Key → List Slot → ℕ → Key
keys_with k t zero = k
keys_with k t (suc i) = (get_or t i free_slot).rec.key

-- the packets before have no more keys
fewer : (ls ms : List (List ℕ)) → AtMostEight (ls ++ ms) → AtMostEight ls
fewer ls ms a = record { keys = a.keys; few = a.few; all = λ l x m e. a.all l x (Memᴰ.append_left ms m) e }

-- a new key, while all slots are occupied
module _ (ls : List (List ℕ)) (t : List Slot) (d m l : List ℕ) (h : Held (λ k. pieces_of k ls) t d m) (x : Keyed)
    (few : AtMostEight (ls ++ (l ∷ []))) (e : keyed_in l ≡ gives x) (absent : key_from 0 x.key t ≡ None) (full : free_from 0 t ≡ None) where
  -- a slot's key has a piece
  some_piece : (i : ℕ) (k : Key) → Has t i k → pieces_of k ls ≡ [] → ⊥
  some_piece i k a n =
      let q : Some (state_at t d m i) ≡ None = sym (assembly_at_lem t d m h.sound.distinct i k a) ∙ h.led k ∙ ap (led_to k) n in
      let z : ◌≡◌ {A = ℕ} 0 1 = cc in
      omega arith

  -- each of the nine keys is one of the packets'
  nine_in : (i : ℕ) → i < 9 → Memᴰ (keys_with x.key t i) few.keys
  unfolding keys_with
  nine_in zero b = few.all l x (Memᴰ.append_right ls (Memᴰ.head refl)) e
  nine_in (suc i) b =
      let q : i < length t = omega (arith, h.sound.size) in
      let k : Key = (get_or t i free_slot).rec.key in
      let c = carried_by_lem k ls (some_piece i k (none_free t full i q)) in
      Memᴰ.cast (sym c.key_is) (few.all c.packet c.told (Memᴰ.append_left (l ∷ []) c.within) c.carries)

  -- and they differ
  nine_differ : (i j : ℕ) → i < j → j < 9 → keys_with x.key t i ≡ keys_with x.key t j → ⊥
  unfolding keys_with Distinct
  nine_differ i zero b c q = omega arith
  nine_differ zero (suc j) b c q =
      let a = none_free t full j (omega (arith, h.sound.size)) in
      key_absent 0 x.key t absent j (record { used = a.used; key_is = sym q })
  nine_differ (suc i) (suc j) b c q =
      let a = none_free t full i (omega (arith, h.sound.size)) in
      omega (arith, h.sound.distinct i j _ (record { used = a.used; key_is = q }) (none_free t full j (omega (arith, h.sound.size))))

  -- so it would be a ninth
  pub ninth : ⊥
  ninth = omega (arith, all_in 9 (keys_with x.key t) few.keys nine_in nine_differ, few.few)

-- ---- every table that packets were handed to, with at most eight keys, holds the pieces that they carry
pub held_own : (ls : List (List ℕ)) (t : List Slot) (d m : List ℕ) → HandedTo ls t d m → AtMostEight ls → Held (λ k. pieces_of k ls) t d m
unfolding pieces_of
held_own ls t d m (empty d₀ m₀ e q) few = held_none d₀ m₀ e q
held_own ls t d m (more ls₀ t₀ d₀ m₀ l r d' m' a c) few =
    let b = held_own ls₀ t₀ d₀ m₀ a (fewer ls₀ (l ∷ []) few) in
    go b (went t₀ d₀ m₀ l b.sound r d' m' c)
  where
    go : Held (λ k. pieces_of k ls₀) t₀ d₀ m₀ → Went t₀ d₀ m₀ l (says r.answer) r.table d' m' → Held (λ k. pieces_of k (ls₀ ++ (l ∷ []))) r.table d' m'
    go b (kept n e o s u v) = held_as _ _ r.table d' m' (λ k. pieces_kept k ls₀ l n e) (rw (s, u, v) b)
    go b (took x s e o met sound after) =
        held_as _ _ r.table d' m' (pieces_more ls₀ l x e)
        (held_more (λ k. pieces_of k ls₀) t₀ d₀ m₀ b x.key x.piece (keyed_acceptable l x e) s met r.table d' m' sound after)
    go b (turned x e o n q s u v) = absurd (ninth ls₀ t₀ d₀ m₀ l b x few e n q)

-- the same acceptable pieces lead to one assembly, or to none
led_same : (k : Key) (ps qs : List Piece) → AllAcceptable slot_bytes ps → Same ps qs → led_to k ps ≡ led_to k qs
led_same k [] [] ok s = refl
led_same k [] (q ∷ qs) ok s = absurd (Memᴰ.not-nil (s.from q (Memᴰ.head refl)))
led_same k (p ∷ ps) [] ok s = absurd (Memᴰ.not-nil (s.to p (Memᴰ.head refl)))
led_same k (p ∷ ps) (q ∷ qs) ok s = ap Some ((assembles slot_bytes slot_map k (omega arith)).one_end (p ∷ ps) (q ∷ qs) ok s)

-- an assembly that pieces lead to is where they are taken one after the other
pub led_is : (k : Key) (ps : List Piece) (s : State) → led_to k ps ≡ Some s → s ≡ run (opened k slot_bytes slot_map) ps
led_is k [] s e = let z : ◌≡◌ {A = ℕ} 0 1 = cc in absurd (omega arith)
led_is k (p ∷ ps) s e = cc

pub mixes : Mixes
mixes =
    record {
      own_pieces = λ ls t d m a few k. (held_own ls t d m a few).led k;
      one_end =
          λ ls ms t u d m d' m' a b few few' k same.
          let g = held_own ls t d m a few in
          let h = held_own ms u d' m' b few' in
          g.led k ∙ led_same k (pieces_of k ls) (pieces_of k ms) (g.acceptable k) same ∙ sym (h.led k);
      spoilt_when =
          λ ls t d m a few k s e.
          let g = held_own ls t d m a few in
          let is = led_is k (pieces_of k ls) s (sym (g.led k) ∙ e) in
          let w = (assembles slot_bytes slot_map k (omega arith)).spoilt_when (pieces_of k ls) (g.acceptable k) in
          (λ h. w.0 (sym (ap (λ (u : State). u.spoilt) is) ∙ h), λ h. ap (λ (u : State). u.spoilt) is ∙ w.1 h);
    }
