use Prim.Native.Nat.{ℕ}
use native.Mathlib.Omega.{arith}
use lib.ListN.{replicate, length-replicate}
use Rattle.lapfeed.proofs.Putting.{lent_few, lent_room, whole_room}
use Rattle.lapfeed.proofs.run.Goals as goal

pub feed_all-requires : goal.feed_all-requires
feed_all-requires g c =
    let ready = c.requires in
    record {
      timed = omega arith;
      numbered = omega (arith, ready.from_zero);
      least = ready.least;
      most = ready.most;
      few = lent_few _ _ 65507 ready.few;
      scratch_room = lent_room _ _ 65507 (replicate 65535 0) ready.few (length-replicate {A = ℕ} 65535 0);
      out_room = whole_room (replicate 360355 0) (length-replicate {A = ℕ} 360355 0);
    }
