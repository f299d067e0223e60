-- After each turn the blocks of the records behind the place are written.
use Prim.Native.Nat.{◌-◌}
use lib.ListN.{length}
use Rattle.exporting.proofs.Writing.{Laid}
use Rattle.exporting.proofs.put_packets.Given as goal

abbrev pub invariant-loop-out : goal.invariant-loop-out
invariant-loop-out l = Laid l.capture l.initial.out l.read l.at l.out

abbrev pub decreases-loop-out : goal.decreases-loop-out
decreases-loop-out l = length l.capture - l.read
