-- What is left of the list, from what is known, gives what is known of all of it.
use Rattle.std.proofs.Common.{◌≡◌, drop}
use Rattle.planner.specs.Steps.{look_none, look_in}
use Rattle.planner.proofs.is_plan.Given as goal

abbrev pub invariant-loop-r : goal.invariant-loop-r
invariant-loop-r l = look_in l.look (drop l.r-index l.list) ≡ look_in (look_none l.n l.m) l.list
