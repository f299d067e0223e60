-- A step keeps the key, the buffers' sizes and what 11 asks of the record, whatever was held before it.
use mathlib.Core.Path.{◌≡◌, refl, sym, subst, ◌∙◌}
use mathlib.Core.Bool.{Bool, true, false}
use mathlib.Core.List.{List}
use Prim.Native.Nat.{ℕ, zero, suc, ◌+◌, ◌*◌, ◌/◌, ◌≤◌}
use native.Mathlib.Omega.{arith}
use lib.ListN.{length, length-set, length-replicate}
use lib.Seq.{length-sets}
use lib.Dec.{leb}
use borrow.Author.Tests.{leb-true, le-leb}
use Rattle.pkt.proofs.Choice.{and_both}
use Rattle.assembly.specs.declared.Key.{Key}
use Rattle.assembly.specs.Map.{set_bit, mark}
use Rattle.assembly.specs.Piece.{Piece, start, end, Acceptable}
use Rattle.assembly.specs.Assembly.{State, cleared, clashes, new_floor, accept, step, total_fits, record_fits}
use Rattle.assembly.proofs.Steps.{step_spoilt, step_clash, step_accept, step_fits}

-- a state of the key k in buffers of C and M bytes, which 11 does not refuse
pub record Kept (k : Key) (C M : ℕ) (s : State) : Type 0 where
  pub key_is : s.key ≡ k
  pub payload_size : length s.payload ≡ C
  pub map_size : length s.map ≡ M
  pub fits : record_fits C s.total s.floor ≡ true

length_mark : (m : List ℕ) (k n : ℕ) → length (mark m k n) ≡ length m
unfolding mark set_bit
length_mark m k zero = refl
length_mark m k (suc n) = length_mark (set_bit m k) (suc k) n ∙ length-set m (k / 8) _

-- all zero but the key
pub cleared_kept : (k : Key) (C M : ℕ) (b : Bool) → Kept k C M (cleared k C M b)
unfolding record_fits total_fits
cleared_kept k C M b =
    record {
      key_is = refl;
      payload_size = length-replicate C 0;
      map_size = length-replicate M 0;
      fits = le-leb 0 (8 * (C / 8) + 1) (omega arith);
    }

module _ (k : Key) (C M : ℕ) (s : State) (p : Piece) (h : Kept k C M s) (ok : Acceptable C p) where
  tests : (total_fits C s.total ≡ true) × (leb s.floor (8 * (C / 8) + 1) ≡ true)
  unfolding record_fits
  tests = and_both (total_fits C s.total) (leb s.floor (8 * (C / 8) + 1)) h.fits

  floor_before : s.floor ≤ 8 * (C / 8) + 1
  floor_before = leb-true s.floor (8 * (C / 8) + 1) tests.1

  -- a floor by a piece with MF set is behind whole blocks
  floor_kept : (b : Bool) → p.mf ≡ b → new_floor b s.floor (end p) ≤ 8 * (C / 8) + 1
  unfolding new_floor
  floor_kept true e = omega (arith, floor_before, ok.whole e, ok.fits)
  floor_kept false e = floor_before

  step_floor : (step s p).floor ≤ 8 * (C / 8) + 1
  unfolding accept
  step_floor = spoilt s.spoilt refl
    where
      clash : s.spoilt ≡ false → (b : Bool) → clashes s p ≡ b → (step s p).floor ≤ 8 * (C / 8) + 1
      clash n true q = rw (step_clash s p n q) (omega arith)
      clash n false q = rw (step_accept s p n q) (floor_kept p.mf refl)

      spoilt : (b : Bool) → s.spoilt ≡ b → (step s p).floor ≤ 8 * (C / 8) + 1
      spoilt true q = rw (step_spoilt s p q) floor_before
      spoilt false q = clash q (clashes s p) refl

  step_fitting : record_fits C (step s p).total (step s p).floor ≡ true
  unfolding record_fits
  step_fitting = simp (step_fits C s p tests.0 ok.fits, le-leb _ _ step_floor)

  sizes_kept : ((step s p).key ≡ k) × (length (step s p).payload ≡ C) × (length (step s p).map ≡ M)
  unfolding accept
  sizes_kept = spoilt s.spoilt refl
    where
      like : (t : State) → step s p ≡ t → (t.key ≡ k) × (length t.payload ≡ C) × (length t.map ≡ M)
          → ((step s p).key ≡ k) × (length (step s p).payload ≡ C) × (length (step s p).map ≡ M)
      like t e x = subst (λ (u : State). (u.key ≡ k) × (length u.payload ≡ C) × (length u.map ≡ M)) (sym e) x

      clash : s.spoilt ≡ false → (b : Bool) → clashes s p ≡ b
          → ((step s p).key ≡ k) × (length (step s p).payload ≡ C) × (length (step s p).map ≡ M)
      clash n true q =
          like _ (step_clash s p n q)
          (h.key_is, length-replicate (length s.payload) 0 ∙ h.payload_size, length-replicate (length s.map) 0 ∙ h.map_size)
      clash n false q =
          like _ (step_accept s p n q)
          (h.key_is, length-sets s.payload (start p) p.body ∙ h.payload_size, length_mark s.map p.off _ ∙ h.map_size)

      spoilt : (b : Bool) → s.spoilt ≡ b
          → ((step s p).key ≡ k) × (length (step s p).payload ≡ C) × (length (step s p).map ≡ M)
      spoilt true q = like s (step_spoilt s p q) (h.key_is, h.payload_size, h.map_size)
      spoilt false q = clash q (clashes s p) refl

  pub step_kept : Kept k C M (step s p)
  step_kept = record { key_is = sizes_kept.0; payload_size = sizes_kept.1; map_size = sizes_kept.2; fits = step_fitting }
