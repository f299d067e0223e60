-- The comparison that is left, from where the loop stands, is the whole comparison.
use mathlib.Core.Path.{sym, ◌∙◌}
use native.Mathlib.Omega.{arith}
use Rattle.assembly.proofs.Blocks.{unlike_start, unlike_here, unlike_on, unlike_done}
use Rattle.assembly.proofs.compare.block_differs.Goals as goal

pub loop-j-init : goal.loop-j-init
loop-j-init c = unlike_start _ _ _ _

pub returns-then-payload-at : goal.returns-then-payload-at
returns-then-payload-at c = sym (unlike_here _ _ _ _ _ (omega arith) (omega arith) c.if-payload-at.true) ∙ c.loop-j.invariant

pub loop-j-preserved : goal.loop-j-preserved
loop-j-preserved c = unlike_on _ _ _ _ _ (omega arith) (omega arith) c.if-payload-at.false ∙ c.loop-j.invariant

pub returns : goal.returns
returns c = let a = c.args in sym (unlike_done a.payload.now _ a.body.now a.from c.loop-j.j (omega arith)) ∙ c.loop-j.invariant
