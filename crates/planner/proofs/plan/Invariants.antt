-- After k turns the first k requests stand in the front of the list.
use Rattle.std.proofs.Common.{◌≡◌}
use Rattle.planner.proofs.Firsts.{filled}
use Rattle.planner.proofs.plan.Given as goal

abbrev pub invariant-loop-k : goal.invariant-loop-k
invariant-loop-k l = l.list ≡ filled l.job l.fn.list l.k
