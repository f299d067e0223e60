-- The three ways through the code are the three answers.
use mathlib.Core.Bool.{true, false}
use mathlib.Core.Path.{sym, ap, ◌∙◌}
use Rattle.assembly.proofs.Steps.{outcome_spoilt, outcome_plain}
use Rattle.assembly.specs.declared.Outcome.{Outcome}
use Rattle.assembly.specs.Answers.{reply}
use Rattle.assembly.proofs.step.answered.Goals as goal

pub returns-then-spoilt : goal.returns-then-spoilt
returns-then-spoilt c = λ d. sym (ap (λ (a : Outcome). reply a c.args.rec) (outcome_spoilt _ c.if-spoilt.true))

pub returns-then-held_to : goal.returns-then-held_to
returns-then-held_to c = λ d. sym (ap (λ (a : Outcome). reply a c.args.rec) (outcome_plain _ true c.if-spoilt.false (sym c.held_to.ensures ∙ c.if-held_to.true)))

pub returns : goal.returns
returns c = λ d. sym (ap (λ (a : Outcome). reply a c.args.rec) (outcome_plain _ false c.if-spoilt.false (sym c.held_to.ensures ∙ c.if-held_to.false)))
