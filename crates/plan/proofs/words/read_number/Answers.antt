-- What is left, behind the digits that were read, is the whole word.
use mathlib.Core.Path.{sym, ◌∙◌}
use Rattle.plan.proofs.Numbers.{number_none, first_wrong, first_right, next_wrong, next_right, number_end}
use Rattle.plan.proofs.words.read_number.Goals as goal

pub returns-in_err-first : goal.returns-in_err-first
returns-in_err-first c = c.from_residual.ensures ∙ number_none _ c.in_err-first.ensures.cases

pub returns-in_err-number : goal.returns-in_err-number
returns-in_err-number c = c.from_residual-in_err-number.ensures ∙ first_wrong _ _ _ c.in_ok-first.ensures.cases.0 (sym c.in_err-number.ensures)

pub loop-c-init : goal.loop-c-init
loop-c-init c = first_right _ _ _ c.in_ok-first.ensures.cases.0 _ (sym c.in_ok-number.ensures)

pub returns-in_err-number-2 : goal.returns-in_err-number-2
returns-in_err-number-2 c =
    c.from_residual-in_err-number-2.ensures ∙ next_wrong _ _ _ _ c.loop-c.invariant c.loop-c-test.true (sym c.in_err-number-2.ensures)

pub loop-c-preserved : goal.loop-c-preserved
loop-c-preserved c = next_right _ _ _ _ c.loop-c.invariant c.loop-c-test.true _ (sym c.in_ok-number-2.ensures)

pub returns : goal.returns
returns c = search number_end
