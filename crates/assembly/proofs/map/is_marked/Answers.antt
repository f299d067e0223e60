-- The code reads the bit as the definition does.
use borrow.Author.Rules.{rules}
use Rattle.assembly.specs.Map.{block_bit}
use Rattle.assembly.proofs.map.is_marked.Goals as goal

pub returns : goal.returns
unfolding block_bit
returns c = search rules
