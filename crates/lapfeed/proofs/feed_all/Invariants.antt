-- The identification is the number of the frame, and the link and the lengths of the buffers stay.
use mathlib.Core.Path.{◌≡◌}
use Prim.Native.Nat.{◌-◌, ◌%◌}
use lib.ListN.{length}
use Rattle.lapfeed.specs.Frames.{most_frames}
use Rattle.lapfeed.proofs.feed_all.Given as goal

abbrev pub invariant-loop-i : goal.invariant-loop-i
invariant-loop-i g l =
    (length l.input ≡ length l.initial.input) × (length l.scratch ≡ length l.initial.scratch) × (length l.out ≡ length l.initial.out) × (l.feed.id ≡ l.i % 65536) × (l.feed.link ≡ l.initial.feed.link)

abbrev pub decreases-loop-i : goal.decreases-loop-i
decreases-loop-i g l = most_frames - l.i
