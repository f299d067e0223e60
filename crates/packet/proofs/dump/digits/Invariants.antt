-- What is counted and the digits of what is left are together one more than the digits of x.
use mathlib.Core.Path.{◌≡◌}
use Prim.Native.Nat.{◌+◌, ◌≤◌}
use Rattle.packet.specs.Dump.{digits_of}
use Rattle.packet.proofs.dump.digits.Given as goal

abbrev pub invariant-loop-rest : goal.invariant-loop-rest
invariant-loop-rest l = (l.n + digits_of l.rest ≡ 1 + digits_of l.x) × (l.n + l.rest ≤ 1 + l.x)

abbrev pub decreases-loop-rest : goal.decreases-loop-rest
decreases-loop-rest l = l.rest
