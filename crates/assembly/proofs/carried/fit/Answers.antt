-- 9 first, then the number of an end that is above.
use mathlib.Core.Path.{refl, sym, ◌∙◌}
use Rattle.assembly.specs.Carried.{fit_answer}
use Rattle.assembly.proofs.carried.fit.Goals as goal

pub returns-then-is_broken : goal.returns-then-is_broken
unfolding fit_answer
returns-then-is_broken c = λ far. rw (sym c.is_broken.ensures ∙ c.if-is_broken.true) refl

pub returns-then-ends_above : goal.returns-then-ends_above
unfolding fit_answer
returns-then-ends_above c = λ far. rw (sym c.is_broken.ensures ∙ c.if-is_broken.false, sym c.ends_above.ensures ∙ c.if-ends_above.true) refl

pub returns : goal.returns
unfolding fit_answer
returns c = λ far. rw (sym c.is_broken.ensures ∙ c.if-is_broken.false, sym c.ends_above.ensures ∙ c.if-ends_above.false) refl
