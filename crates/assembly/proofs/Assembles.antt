-- Demand 3 over pieces holds wherever the map has a bit for each block of the payload buffer; and what refusal 11 asks of a record
-- holds of every state that accepted pieces lead to.
use mathlib.Core.Path.{◌≡◌, refl, ap, ◌∙◌}
use mathlib.Core.Logic.{◌⊎◌, inl, inr}
use mathlib.Core.Bool.{Bool, true, false, not, Bool-discrete, cond}
use Rattle.std.specs.Prelude.{Option, Some}
use mathlib.Core.List.Memᴰ
use mathlib.Core.List.{List, []}
use Prim.Native.Nat.{ℕ, suc, ◌+◌, ◌*◌, ◌/◌, ◌≤◌, ◌<◌, min}
use native.Mathlib.Omega.{arith}
use lib.ListN.{length, take}
use borrow.Author.Tests.{eq-eqb, le-leb}
use Rattle.assembly.specs.declared.Key.{Key}
use Rattle.assembly.specs.Piece.{Piece, end, Contradict, two_ends}
use Rattle.assembly.specs.Assembly.{State, cleared, opened, run, complete, bytes_below, held_bytes, record_fits, record_valid}
use Rattle.assembly.specs.Cut.{requested, Part}
use Rattle.assembly.specs.Calls.{capacity, map_bytes}
use Rattle.assembly.specs.Demand.{Assembles, AllAcceptable}
use Rattle.assembly.proofs.Steps.{fits_of}
use Rattle.assembly.proofs.Pieces.{SomeOf, NoneOf, any}
use Rattle.assembly.proofs.Describes.{Good, Describes, spoiled, sound, run_describes, any_order, spoilt_exactly}
use Rattle.assembly.proofs.Parts.{part_of, part_acceptable, parts_never_spoilt, parts_complete, parts_held}

-- a piece past the end is empty, says that nothing follows, and ends past the payload
past_end : (d : List ℕ) (off len : ℕ) → length d < 8 * off → (p : Piece) → Part d p → p.mf ≡ false → Contradict (requested d off len) p
unfolding requested
past_end d off len h p part e =
    let t : min (8 * off + 8 * len) (length d) ≡ length d = omega arith in
    two_ends (ap not (eq-eqb _ _ t)) e (λ q. omega (arith, (part_of part).last e))

-- what is held of a complete state
held_is : (s : State) (d : List ℕ) → complete s ≡ true → s.total ≡ Some (length d) → take (length d) s.payload ≡ d → held_bytes s ≡ d
unfolding held_bytes bytes_below
held_is s d c t h =
    ap (λ (b : Bool). cond b (bytes_below s.total s.payload) []) c ∙ ap (λ (o : Option ℕ). bytes_below o s.payload) t ∙ h

-- what 11 asks of a state
valid_of : (s : State) → ((t : ℕ) → s.total ≡ Some t → t ≤ length s.payload) → s.floor ≤ 8 * (length s.payload / 8) + 1 → record_valid s ≡ true
unfolding record_fits
valid_of s h f = rw (fits_of (length s.payload) s.total h, le-leb _ _ f) refl

good_valid : (κ : Key) (C M : ℕ) (s : State) (ps : List Piece) → AllAcceptable C ps → Good κ C M s ps → record_valid s ≡ true
unfolding SomeOf NoneOf
good_valid κ C M s ps ok g = valid_of s (λ t e. total t e (any (λ q. Bool-discrete q.mf false) ps)) (floor g.floor_out)
  where
    total : (t : ℕ) → s.total ≡ Some t → SomeOf (λ q. q.mf ≡ false) ps ⊎ NoneOf (λ q. q.mf ≡ false) ps → t ≤ length s.payload
    total t e (inl q) =
        let h = g.total_in q.0 q.1 q.2 in
        let z : t ≡ end q.0 = cc in
        omega (arith, (ok q.0 q.1).fits, g.size)
    total t e (inr f) = let h = g.total_out f in let z : ◌≡◌ {A = ℕ} 0 1 = cc in absurd (omega arith)

    floor : (s.floor ≡ 0) ⊎ SomeOf (λ q. (q.mf ≡ true) × (s.floor ≡ suc (end q))) ps → s.floor ≤ 8 * (length s.payload / 8) + 1
    floor (inl z) = omega arith
    floor (inr q) = omega (arith, q.2.1, (ok q.0 q.1).fits, (ok q.0 q.1).whole q.2.0, g.size)

pub describes_valid : (κ : Key) (C M : ℕ) (s : State) (ps : List Piece) → AllAcceptable C ps → Describes κ C M s ps → record_valid s ≡ true
describes_valid κ C M s ps ok (spoiled c e) =
    ap record_valid e
    ∙ valid_of (cleared κ C M true) (λ t h. let z : ◌≡◌ {A = ℕ} 0 1 = cc in absurd (omega arith)) (omega arith)
describes_valid κ C M s ps ok (sound n g) = good_valid κ C M s ps ok g

pub assembles : (C M : ℕ) (κ : Key) → C ≤ 64 * M → Assembles C M κ
assembles C M κ room =
    record {
      one_end = λ ps qs ok same. any_order κ C M ps qs room ok same;
      spoilt_when = λ ps ok. spoilt_exactly κ C M ps room ok;
      taken = λ d fits ps parts p m. part_acceptable C d p fits (parts p m);
      never_spoilt = λ d fits ps later parts. parts_never_spoilt κ C M d ps room fits (λ p m. parts p (Memᴰ.append_left later m));
      complete_when = λ d fits ps parts. parts_complete κ C M d ps room fits parts;
      held = λ d fits ps parts e. parts_held κ C M d ps room fits parts e;
      held_whole = λ d fits ps parts e. let h = parts_held κ C M d ps room fits parts e in held_is (run (opened κ C M) ps) d e h.0 h.1;
      past_end = past_end;
      past_end_spoils =
          λ d off len h p part e ps ok m n.
          (spoilt_exactly κ C M ps room ok).1
          (record { one = requested d off len; other = p; one_in = m; other_in = n; clash = past_end d off len h p part e });
      stays_valid = λ ps ok. describes_valid κ C M (run (opened κ C M) ps) ps ok (run_describes κ C M ps room ok);
    }

-- demand 3 over pieces, at document 01's sizes
pub assembles_here : (κ : Key) → Assembles capacity map_bytes κ
assembles_here κ = assembles capacity map_bytes κ (omega arith)
