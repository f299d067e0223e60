-- A key is twice in the table where it is twice from slot i on.
use mathlib.Core.Path.{◌≡◌}
use lib.ListN.{drop}
use Rattle.table.specs.Slots.{key_twice}
use Rattle.table.proofs.key_twice.Given as goal

abbrev pub invariant-loop-i : goal.invariant-loop-i
invariant-loop-i l = key_twice (drop l.i l.fn.t) ≡ key_twice l.fn.t
