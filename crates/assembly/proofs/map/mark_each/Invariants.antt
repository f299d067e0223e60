-- The marking that is left, from where the loop stands, is the whole marking.
use Prim.Native.Nat.{◌-◌}
use lib.ListN.{length}
use mathlib.Core.Path.{◌≡◌}
use Rattle.assembly.specs.Map.{mark}
use Rattle.assembly.proofs.map.mark_each.Given as goal

abbrev pub invariant-loop-k : goal.invariant-loop-k
invariant-loop-k l = (length l.map ≡ length l.initial.map) × (mark l.map l.k (l.to - l.k) ≡ mark l.initial.map l.from (l.to - l.from))
