-- The lowest slot with the key from slot i on is the one from `from` on.
use mathlib.Core.Path.{◌≡◌}
use lib.ListN.{drop}
use Rattle.table.specs.Slots.{key_from}
use Rattle.table.proofs.key_from.Given as goal

abbrev pub invariant-loop-i : goal.invariant-loop-i
invariant-loop-i l = key_from l.i l.key (drop l.i l.t) ≡ key_from l.from l.key (drop l.from l.t)
