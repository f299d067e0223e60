-- All slots fit where those from this one on do.
use mathlib.Core.Path.{◌≡◌}
use lib.ListN.{drop}
use Rattle.table.specs.Slots.{all_fit}
use Rattle.table.proofs.all_fit.Given as goal

abbrev pub invariant-loop-s : goal.invariant-loop-s
invariant-loop-s l = all_fit (drop l.s-index l.fn.t) ≡ all_fit l.fn.t
