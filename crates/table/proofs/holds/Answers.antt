-- An occupied slot is asked for its key, a free one has none.
use Rattle.table.proofs.Lowest.{used_holds, free_holds}
use Rattle.table.proofs.holds.Goals as goal

pub returns-then-s : goal.returns-then-s
returns-then-s c = search used_holds

pub returns : goal.returns
returns c = search free_holds
