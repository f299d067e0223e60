use Rattle.lapfeed.proofs.Putting.{put_next}
use Rattle.lapfeed.proofs.feed_one.Goals as goal

pub returns : goal.returns
returns g c = search put_next
