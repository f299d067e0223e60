-- Line i is written where the full lines before it end.
use mathlib.Core.Path.{ap, ◌∙◌}
use Prim.Native.Nat.{ℕ, ◌+◌, ◌-◌, ◌*◌}
use native.Mathlib.Omega.{arith}
use mathlib.Core.List.{List}
use lib.ListN.{drop, length-take, length-drop}
use Rattle.pkt.proofs.Parts.{mid_length}
use Rattle.packet.specs.Headroom.{placed}
use Rattle.packet.proofs.Headroom.{placed_lent}
use Rattle.packet.specs.Dump.{line}
use Rattle.packet.proofs.HexDump.{clipped}
use Rattle.packet.proofs.dump.put_nth.Goals as goal

pub put_line-requires : goal.put_line-requires
put_line-requires c =
    let a = c.args in
    let i : ℕ = 16 * a.i in
    let k : ℕ = c.min-to.result - i in
    let e = c.min-to.ensures in
    omega (arith, length-take k (drop i a.l.now), length-drop i a.l.now, mid_length (73 * a.i) a.out.now)

pub returns : goal.returns
returns c =
    let a = c.args in
    placed_lent _ _ _ (73 * a.i) (omega arith) c.put_line.ensures
    ∙ ap (λ (x : List ℕ). placed (73 * a.i) (line (a.pos + 16 * a.i) x) a.out.now) (clipped (16 * a.i) c.min-to.result a.l.now (omega arith) c.min-to.ensures)
