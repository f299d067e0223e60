-- The end is tested first, then the bytes.
use mathlib.Core.Path.{sym, ◌∙◌}
use Rattle.assembly.proofs.Steps.{clashes_end, clashes_byte}
use Rattle.assembly.proofs.step.contradicts.Goals as goal

pub returns-then-end_clash : goal.returns-then-end_clash
returns-then-end_clash c = sym (clashes_end _ _ (sym c.end_clash.ensures ∙ c.if-end_clash.true))

pub returns : goal.returns
returns c = c.differs.ensures ∙ sym (clashes_byte _ _ (sym c.end_clash.ensures ∙ c.if-end_clash.false))
