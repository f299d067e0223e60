-- The identification is the number of the frame, and the link and the lengths of the buffers stay.
use mathlib.Core.Path.{ap}
use native.Mathlib.Omega.{arith}
use borrow.Author.Rules.{rules}
use Rattle.feed.specs.declared.Feed.{Feed}
use Rattle.lapfeed.proofs.Putting.{led_on}
use Rattle.lapfeed.proofs.feed_all.Goals as goal

pub loop-i-preserved : goal.loop-i-preserved
loop-i-preserved g c =
    let on = led_on _ _ _ c.feed_one.ensures c.in-Some.is in
    let id = ap (λ (f : Feed). f.id) on in
    let link = ap (λ (f : Feed). f.link) on in
    (search rules, search rules, search rules, omega arith, omega arith)
