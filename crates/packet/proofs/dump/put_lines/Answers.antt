-- After i turns the first i lines stand, all of them full.
use mathlib.Core.Path.{refl}
use Prim.Native.Nat.{ℕ}
use native.Mathlib.Omega.{arith}
use mathlib.Core.List.{List}
use Rattle.pkt.specs.Written.{written}
use Rattle.packet.specs.Dump.{lines}
use Rattle.packet.proofs.HexDump.{lines_step}
use Rattle.packet.proofs.dump.put_lines.Goals as goal

pub loop-i-init : goal.loop-i-init
unfolding lines written
loop-i-init c = refl

pub loop-i-preserved : goal.loop-i-preserved
loop-i-preserved c =
    let a = c.args in
    let b : List ℕ = a.l.now in
    let o : List ℕ = a.out.now in
    let l = c.loop-i in
    lines_step l.i a.pos b o l.out _ (omega arith) l.invariant c.put_nth.ensures
