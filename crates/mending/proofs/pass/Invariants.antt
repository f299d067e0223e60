-- The reader stands in the capture, and the facts of a pass hold at its place, with so many turns left.
use Rattle.std.proofs.Common.{◌≡◌, ℕ, ◌-◌, length}
use Rattle.mending.proofs.Passing.{Facts}
use Rattle.mending.proofs.pass.Given as goal

abbrev pub invariant-loop-spot : goal.invariant-loop-spot
invariant-loop-spot l =
    (l.r.capture.now ≡ l.capture) × ((m : ℕ) × Facts l.capture l.fn.out l.fn.rows l.r.at l.r.count l.changes m l.out l.rows)

abbrev pub decreases-loop-spot : goal.decreases-loop-spot
decreases-loop-spot l = length l.capture - l.r.at
