-- What is left, behind the digits that were read, is the whole word.
use mathlib.Core.Path.{◌≡◌}
use lib.ListN.{drop}
use Rattle.std.specs.Prelude.{Some}
use Rattle.plan.specs.Words.{digits_from, number_in}
use Rattle.plan.proofs.words.read_number.Given as goal

abbrev pub invariant-loop-c : goal.invariant-loop-c
invariant-loop-c l = digits_from (Some l.number) (drop l.c-index l.rest) ≡ number_in l.w
