-- Each part is written into the rest of the output behind those before it.
use mathlib.Core.Path.{refl, ap, ◌∙◌}
use Prim.Native.Nat.{ℕ, ◌+◌, ◌*◌}
use native.Mathlib.Omega.{arith}
use mathlib.Core.List.{List, [], ◌∷◌, ◌++◌, append_assoc}
use lib.ListN.{length, length-append}
use Rattle.pkt.specs.Written.{written}
use Rattle.pkt.proofs.Written.{copy_written, written_behind}
use Rattle.packet.specs.Dump.{numeral, space, bar, hexes, left}
use Rattle.packet.proofs.HexDump.{numeral_length, hexes_length}
use Rattle.packet.proofs.dump.put_left.Goals as goal

pub returns : goal.returns
unfolding left
returns c =
    let a = c.args in
    let b : List ℕ = a.l.now in
    let o : List ℕ = a.out.now in
    let pos : List ℕ = numeral 16 5 a.pos in
    let bars : List ℕ = space ∷ bar ∷ [] in
    let len = numeral_length 16 5 a.pos in
    let two = written_behind pos _ bars o _ _ 5 len c.put_number.ensures refl (c.copy.ensures ∙ copy_written _ _ (omega arith)) in
    let three = written_behind (pos ++ bars) _ (hexes b) o _ _ 7 (omega (arith, length-append pos bars)) two refl c.put_hexes.ensures in
    let four = written_behind ((pos ++ bars) ++ hexes b) _ _ o _ _ (7 + 3 * length b)
    (omega (arith, length-append pos bars, length-append (pos ++ bars) (hexes b), hexes_length b)) three refl c.fill.ensures in
    four ∙ ap (λ (x : List ℕ). written x o) (simp append_assoc)
