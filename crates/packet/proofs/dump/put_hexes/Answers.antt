-- After i turns the first i bytes stand, three characters for each.
use mathlib.Core.Path.{refl, ap, ◌∙◌}
use Prim.Native.Nat.{ℕ, ◌*◌, ◌<◌}
use native.Mathlib.Omega.{arith}
use mathlib.Core.List.{List}
use lib.ListN.{length, take, length-take}
use Rattle.pkt.specs.Written.{written}
use Rattle.pkt.proofs.Written.{written_behind}
use Rattle.packet.specs.Dump.{hexes}
use Rattle.packet.proofs.HexDump.{hexes_length, hexes_more}
use Rattle.packet.proofs.dump.put_hexes.Goals as goal

pub loop-i-init : goal.loop-i-init
unfolding hexes written
loop-i-init c = refl

pub loop-i-preserved : goal.loop-i-preserved
loop-i-preserved c =
    let a = c.args in
    let b : List ℕ = a.l.now in
    let o : List ℕ = a.out.now in
    let l = c.loop-i in
    let h : l.i < length b = omega arith in
    written_behind (hexes (take l.i b)) _ _ o _ _ (3 * l.i) (omega (arith, hexes_length (take l.i b), length-take l.i b)) l.invariant refl c.put_hex.ensures
    ∙ ap (λ (x : List ℕ). written x o) (hexes_more b l.i h)
