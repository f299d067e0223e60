-- Each turn leaves fewer bytes.
use Rattle.std.proofs.Common.{arith, rules}
use Rattle.mends.proofs.shown.show_packets.Goals as goal

pub loop-rest-smaller : goal.loop-rest-smaller
loop-rest-smaller g c =
    let n = c.taken-n in
    omega (arith, n.ensures.0, n.ensures.1 (search rules))
