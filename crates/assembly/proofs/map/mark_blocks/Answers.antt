-- The blocks before the first whole byte, the whole bytes, and the blocks behind them are all the blocks.
use borrow.Author.Rules.{rules}
use Prim.Native.Nat.{◌+◌, ◌/◌}
use lib.ListN.{length}
use mathlib.Core.Path.{refl, ◌∙◌}
use native.Mathlib.Omega.{arith}
use Rattle.assembly.proofs.Marks.{mark_parts}
use Rattle.assembly.proofs.map.mark_blocks.Goals as goal

pub returns : goal.returns
returns c =
    let a = c.args in
    c.mark_each-3.ensures
    ∙ rw (c.fill.ensures, c.mark_each-2.ensures)
    (mark_parts (length a.map.now) a.map.now a.from a.to ((a.from + 7) / 8) (a.to / 8) (record { size = refl; bytes = search rules })
    (omega arith) (omega arith) (omega arith) (omega arith))
