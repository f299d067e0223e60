-- What is left, behind the bytes that were read, is the whole text.
use mathlib.Core.Path.{◌≡◌}
use lib.ListN.{drop}
use Rattle.std.specs.Prelude.{Ok}
use Rattle.plan.specs.Lines.{read_from, read_in}
use Rattle.plan.proofs.lines.read_on.Given as goal

abbrev pub invariant-loop-c : goal.invariant-loop-c
invariant-loop-c l = read_from (Ok l.reading) (drop l.c-index l.text) ≡ read_in l.fn.reading l.text
