use Rattle.lapfeed.proofs.Reading.{all_set_up}
use Rattle.lapfeed.proofs.start.Goals as goal

pub run-requires : goal.run-requires
run-requires g c = search all_set_up
