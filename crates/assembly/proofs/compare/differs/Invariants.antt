-- The test that is left, from the block where the loop stands, is the whole test.
use Prim.Native.Nat.{◌+◌, ◌-◌, ◌*◌, ◌%◌}
use lib.ListN.{length, drop}
use mathlib.Core.Path.{◌≡◌}
use Rattle.assembly.specs.Assembly.{byte_clash}
use Rattle.assembly.proofs.compare.differs.Given as goal

abbrev pub invariant-loop-i : goal.invariant-loop-i
invariant-loop-i l = (l.i % 8 ≡ 0) × (byte_clash l.payload l.map (8 * l.off + l.i) (drop l.i l.body) ≡ byte_clash l.payload l.map (8 * l.off) l.body)

abbrev pub decreases-loop-i : goal.decreases-loop-i
decreases-loop-i l = length l.body - l.i
