-- The lowest free slot from slot i on is the table's.
use mathlib.Core.Path.{◌≡◌}
use lib.ListN.{drop}
use Rattle.table.specs.Slots.{free_from}
use Rattle.table.proofs.free_one.Given as goal

abbrev pub invariant-loop-i : goal.invariant-loop-i
invariant-loop-i l = free_from l.i (drop l.i l.fn.t) ≡ free_from 0 l.fn.t
