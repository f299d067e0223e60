-- An occupied slot's key is looked for, a free one's is in no slot.
use Rattle.table.proofs.Lowest.{used_again, free_again}
use Rattle.table.proofs.key_again.Goals as goal

pub returns-then-s : goal.returns-then-s
returns-then-s c = search used_again

pub returns : goal.returns
returns c = search free_again
