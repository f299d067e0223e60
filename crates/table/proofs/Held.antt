-- A table in which each key has the assembly that the pieces f k of that key alone lead to.
use Rattle.std.specs.Prelude.{Option, None, Some}
use mathlib.Core.Path.{◌≡◌, refl, sym, ap, subst, ◌∙◌}
use mathlib.Core.Logic.{◌⊎◌, inl, inr}
use mathlib.Core.Bool.{Bool, true, false, cond}
use mathlib.Core.List.Memᴰ
use mathlib.Core.List.{List, [], ◌∷◌, ◌++◌, Memᴰ}
use Prim.Native.Nat.{ℕ, ◌*◌}
use lib.ListN.{length, replicate}
use Rattle.assembly.specs.declared.Key.{Key}
use Rattle.assembly.specs.Piece.{Piece, Acceptable}
use Rattle.assembly.specs.Assembly.{State, opened, step, run}
use Rattle.assembly.specs.Carried.{same_key}
use Rattle.assembly.specs.Demand.{AllAcceptable}
use Rattle.table.specs.declared.Slot.{Slot}
use Rattle.table.specs.Slots.{slots, slot_bytes, slot_map, free_slot}
use Rattle.table.specs.Mixed.{assembly_of, led_to}
use Rattle.table.proofs.Keys.{same_is, none_has}
use Rattle.table.proofs.Assemblies.{Sound, empty_sound, assembly_none}

-- ---- a piece behind others
run_more : (s : State) (ps : List Piece) (p : Piece) → run s (ps ++ (p ∷ [])) ≡ step (run s ps) p
unfolding run
run_more s [] p = refl
run_more s (q ∷ ps) p = run_more (step s q) ps p

-- .. is acceptable as they are
more_acceptable : (C : ℕ) (ps : List Piece) (p : Piece) → AllAcceptable C ps → Acceptable C p → AllAcceptable C (ps ++ (p ∷ []))
more_acceptable C ps p ok a q m = go (Memᴰ.append_cases ps m)
  where
    go : Memᴰ q ps ⊎ Memᴰ q (p ∷ []) → Acceptable C q
    go (inl h) = ok q h
    go (inr h) = rw (Memᴰ.eq_of_singleton h) a

-- the state that it is a step on: that of an assembly, or an opened one
abbrev pub met_by : Key → Option State → State
met_by k (Some s) = s
met_by k None = opened k slot_bytes slot_map

-- .. and where they led on to with it
led_more : (k : Key) (ps : List Piece) (p : Piece) → Some (step (met_by k (led_to k ps)) p) ≡ led_to k (ps ++ (p ∷ []))
unfolding run
led_more k [] p = refl
led_more k (q ∷ ps) p = ap Some (sym (run_more (opened k slot_bytes slot_map) (q ∷ ps) p))

-- ---- one more piece of the key k
unfoldable pub added : (Key → List Piece) → Key → Piece → Key → List Piece
added f k p j = cond (same_key k j) (f j ++ (p ∷ [])) (f j)

-- ---- the table
pub record Held (f : Key → List Piece) (t : List Slot) (d m : List ℕ) : Type 0 where
  pub sound : Sound t d m
  pub acceptable : (k : Key) → AllAcceptable slot_bytes (f k)
  pub led : (k : Key) → assembly_of t d m k ≡ led_to k (f k)

-- the same pieces of each key
pub held_as : (f g : Key → List Piece) (t : List Slot) (d m : List ℕ) → ((k : Key) → f k ≡ g k) → Held f t d m → Held g t d m
held_as f g t d m e h = subst (λ (x : Key → List Piece). Held x t d m) (λ i k. e k i) h

-- the empty table
pub held_none : (d m : List ℕ) → length d ≡ slot_bytes * slots → length m ≡ slot_map * slots → Held (λ k. []) (replicate slots free_slot) d m
held_none d m e q =
    record {
      sound = empty_sound d m e q;
      acceptable = λ k p n. absurd (Memᴰ.not-nil n);
      led = λ k. assembly_none (replicate slots free_slot) d m k (λ i a. none_has slots i k a);
    }

-- the piece p of the key k was taken
pub held_more : (f : Key → List Piece) (t : List Slot) (d m : List ℕ) → Held f t d m → (k : Key) (p : Piece) → Acceptable slot_bytes p
    → (s : State) → s ≡ step (met_by k (assembly_of t d m k)) p → (t' : List Slot) (d' m' : List ℕ) → Sound t' d' m'
    → ((j : Key) → assembly_of t' d' m' j ≡ cond (same_key k j) (Some s) (assembly_of t d m j)) → Held (added f k p) t' d' m'
unfolding added
held_more f t d m h k p ok s met t' d' m' sound after =
    record {
      sound = sound;
      acceptable = λ j. fine j (same_key k j);
      led = λ j. after j ∙ leads j (same_key k j) refl;
    }
  where
    fine : (j : Key) (b : Bool) → AllAcceptable slot_bytes (cond b (f j ++ (p ∷ [])) (f j))
    fine j true = more_acceptable slot_bytes (f j) p (h.acceptable j) ok
    fine j false = h.acceptable j

    own : Some s ≡ led_to k (f k ++ (p ∷ []))
    own = ap Some (met ∙ ap (λ (o : Option State). step (met_by k o) p) (h.led k)) ∙ led_more k (f k) p

    leads : (j : Key) (b : Bool) → same_key k j ≡ b → cond b (Some s) (assembly_of t d m j) ≡ led_to j (cond b (f j ++ (p ∷ [])) (f j))
    leads j true e = own ∙ ap (λ (x : Key). led_to x (f x ++ (p ∷ []))) (same_is k j e)
    leads j false e = h.led j
