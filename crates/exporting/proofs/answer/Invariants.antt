-- After each turn the answer is that for the records behind the place.
use Prim.Native.Nat.{◌-◌}
use lib.ListN.{length}
use Rattle.pkt.specs.Answers.{list_says}
use Rattle.exporting.proofs.Answering.{Facts}
use Rattle.exporting.proofs.answer.Given as goal

abbrev pub invariant-loop-so_far : goal.invariant-loop-so_far
invariant-loop-so_far l = Facts l.capture l.at l.count (list_says l.so_far) l.room

abbrev pub decreases-loop-so_far : goal.decreases-loop-so_far
decreases-loop-so_far l = length l.capture - l.at
