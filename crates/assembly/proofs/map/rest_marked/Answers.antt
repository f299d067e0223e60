-- Every block that was passed is marked.
use mathlib.Core.Path.{◌≡◌, sym, ◌∙◌}
use native.Mathlib.Omega.{arith}
use Rattle.assembly.proofs.Marks.{marked_next, marked_stop}
use Rattle.assembly.proofs.map.rest_marked.Goals as goal

pub returns-then-not-is_marked : goal.returns-then-not-is_marked
returns-then-not-is_marked c = sym (marked_stop _ _ _ c.loop-k-test.true (sym c.is_marked.ensures ∙ c.if-not-is_marked.true))

pub loop-k-preserved : goal.loop-k-preserved
loop-k-preserved c = marked_next _ _ c.loop-k.invariant (sym c.is_marked.ensures ∙ c.if-not-is_marked.false)

pub returns : goal.returns
returns c = let e : c.loop-k.k ≡ c.args.n = omega arith in sym (rw e at c.loop-k.invariant)
