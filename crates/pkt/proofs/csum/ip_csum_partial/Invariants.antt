-- What is summed and what is left always fold to the whole.
use Rattle.std.proofs.Common.{◌≡◌, ◌+◌, ◌-◌, ◌≤◌, length, drop}
use Rattle.pkt.specs.Sums.{total, canon}
use Rattle.pkt.proofs.csum.ip_csum_partial.Given as goal

abbrev pub invariant-loop-i : goal.invariant-loop-i
invariant-loop-i l = (l.i ≤ l.n) × (l.n ≡ length l.buf) × (canon (l.sum + total (drop l.i l.buf)) ≡ canon (total l.buf))

abbrev pub decreases-loop-i : goal.decreases-loop-i
decreases-loop-i l = l.n - l.i
