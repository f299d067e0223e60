-- The test that is left, from the block where the loop stands, is the whole test.
use borrow.Author.Rules.{rules}
use mathlib.Core.Logic.{inl, inr}
use mathlib.Core.Path.{sym, ◌∙◌}
use native.Mathlib.Omega.{arith}
use Rattle.assembly.proofs.Blocks.{byte_clash_start, byte_clash_done, block_here, leads_on, onward_blocks}
use Rattle.assembly.proofs.compare.differs.Goals as goal
use Rattle.assembly.proofs.compare.differs.Goals.{then-is_marked+else-block_differs, else-is_marked}

pub loop-i-init : goal.loop-i-init
loop-i-init c = (search rules, byte_clash_start _ _ _ _)

pub returns-then-block_differs : goal.returns-then-block_differs
returns-then-block_differs c =
    sym (block_here _ _ _ _ _ c.loop-i.invariant.0 (sym c.is_marked.ensures ∙ c.if-is_marked.true) (sym c.block_differs.ensures ∙ c.if-block_differs.true))
    ∙ c.loop-i.invariant.1

pub loop-i-preserved : goal.loop-i-preserved
loop-i-preserved c =
    let n = onward_blocks _ _ _ c.stride-i.ensures in (
      omega arith,
      leads_on _ _ _ _ _ c.loop-i.invariant.0 _ c.stride-i.ensures
          (elim c.if-is_marked.branch [
            | then-is_marked+else-block_differs w ↦ inr (sym w.block_differs.ensures ∙ w.if-block_differs.false)
            | else-is_marked w ↦ inl (sym c.is_marked.ensures ∙ w.if-is_marked.false)
          ])
          ∙ c.loop-i.invariant.1,
    )

pub returns : goal.returns
returns c = sym (byte_clash_done _ _ _ _ _ c.loop-i-test.false) ∙ c.loop-i.invariant.1

pub overflow_add-i : goal.overflow_add-i
overflow_add-i c = let n = onward_blocks _ _ _ c.stride-i.ensures in omega arith

pub loop-i-smaller : goal.loop-i-smaller
loop-i-smaller c = let n = onward_blocks _ _ _ c.stride-i.ensures in omega arith
