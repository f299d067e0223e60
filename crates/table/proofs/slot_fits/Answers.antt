-- An occupied slot's record is looked at, a free one's says nothing.
use Rattle.table.proofs.Lowest.{used_fits, free_fits}
use Rattle.table.proofs.slot_fits.Goals as goal

pub returns-then-s : goal.returns-then-s
returns-then-s c = search used_fits

pub returns : goal.returns
returns c = search free_fits
