-- One packet after the other: the report so far, over the packets that are left, is the whole.
use Rattle.reporting.proofs.Turning.{Left}
use Rattle.reporting.proofs.report_of.Given as goal

abbrev pub invariant-loop-end : goal.invariant-loop-end
invariant-loop-end l = Left l.packets l.ends l.cl l.sv l.r l.at l.end-index
