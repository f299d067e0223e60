-- All characters stand.
use Rattle.std.proofs.Common.{◌∙◌, arith, map}
use lib.ListN.{length-map}
use Rattle.pkt.proofs.Written.{copy_done}
use Rattle.packet.specs.Dump.{shown_of}
use Rattle.packet.proofs.dump.put_chars.Goals as goal

pub returns : goal.returns
returns c =
    let a = c.args in
    c.loop-i.invariant ∙ copy_done (map shown_of a.l.now) a.out.now c.loop-i.i (omega (arith, length-map a.l.now shown_of))
