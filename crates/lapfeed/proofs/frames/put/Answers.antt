use Rattle.lapfeed.proofs.Putting.{records_put}
use Rattle.lapfeed.proofs.frames.put.Goals as goal

pub returns : goal.returns
returns c = search records_put
