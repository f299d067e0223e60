-- After each turn what is gathered, and the packets of the records that are left, are those of the whole capture.
use mathlib.Core.Path.{◌≡◌}
use Prim.Native.Nat.{◌-◌}
use lib.ListN.{length}
use Rattle.flowreport.proofs.Gathering.{Facts}
use Rattle.flowreport.proofs.gather.gather.Given as goal

abbrev pub invariant-loop-spot : goal.invariant-loop-spot
invariant-loop-spot l = (length l.out ≡ length l.initial.out) × (length l.ends ≡ length l.initial.ends) × Facts l.capture l.at l.packets l.n l.out l.ends

abbrev pub decreases-loop-spot : goal.decreases-loop-spot
decreases-loop-spot l = length l.capture - l.at
