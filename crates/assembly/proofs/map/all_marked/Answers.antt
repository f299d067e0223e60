-- The whole bytes below the last block, then the blocks behind them.
use borrow.Author.Rules.{rules}
use mathlib.Core.Path.{sym, ◌∙◌}
use native.Mathlib.Omega.{arith}
use Rattle.assembly.proofs.Marks.{marked_before}
use Rattle.assembly.proofs.map.all_marked.Goals as goal

pub returns-then-not-bytes_full : goal.returns-then-not-bytes_full
returns-then-not-bytes_full c = sym (marked_before _ _ _ (omega arith) (sym c.bytes_full.ensures ∙ c.if-not-bytes_full.true))

pub rest_marked-requires : goal.rest_marked-requires
rest_marked-requires c = record { from_le_n = search rules; n_bound = search rules; from_value = sym c.bytes_full.ensures ∙ c.if-not-bytes_full.false }
