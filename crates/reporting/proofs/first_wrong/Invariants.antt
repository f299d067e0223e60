-- What is left, from here, is the whole.
use Rattle.std.proofs.Common.{◌≡◌, ◌+◌, drop}
use Rattle.reporting.specs.Report.{first_wrong}
use Rattle.reporting.proofs.first_wrong.Given as goal

abbrev pub invariant-loop-i : goal.invariant-loop-i
invariant-loop-i l = l.i + first_wrong l.at l.n (drop l.i l.ends) ≡ first_wrong 0 l.n l.ends
