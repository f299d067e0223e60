-- The marking that is left, from where the loop stands, is the whole marking.
use borrow.Author.Rules.{rules}
use mathlib.Core.Path.{sym, ◌∙◌}
use Rattle.assembly.proofs.Marks.{mark_left, mark_done}
use Rattle.assembly.specs.Map.{set_bit}
use Rattle.assembly.proofs.map.mark_each.Goals as goal

pub loop-k-preserved : goal.loop-k-preserved
unfolding set_bit
loop-k-preserved c = (search rules, rw c.mask.ensures (sym (mark_left _ _ _ c.loop-k-test.true) ∙ c.loop-k.invariant.1))

pub returns : goal.returns
returns c = sym (mark_done _ _ _ c.loop-k-test.false) ∙ c.loop-k.invariant.1
