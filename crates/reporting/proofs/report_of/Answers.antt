-- One packet after the other: the report so far, over the packets that are left, is the whole.
use Rattle.std.proofs.Common.{arith, rules}
use Rattle.reporting.proofs.Turning.{turns}
use Rattle.reporting.proofs.report_of.Goals as goal

pub loop-end-preserved : goal.loop-end-preserved
loop-end-preserved c =
    let loop = c.loop-end in
    turns c.args.packets.now c.args.ends.now c.args.cl c.args.sv loop.r loop.at loop.end-index c.class_of.result c.report_after-r.result
    loop.invariant (omega arith) (search rules) c.class_of.ensures c.report_after-r.ensures
