-- What was written and what is left to write are always the whole.
use Rattle.std.proofs.Common.{◌≡◌, ◌-◌, ◌<◌, ◌≤◌, ◌++◌, length, take, drop}
use Rattle.pkt.specs.Written.{written}
use Rattle.feed.specs.Steps.{records_from}
use Rattle.feed.proofs.Recording.{Turn}
use Rattle.feed.proofs.put_all.Given as goal

abbrev pub invariant-loop-done : goal.invariant-loop-done
invariant-loop-done l =
    record {
      long : length l.out ≡ length l.initial.out;
      within : l.at ≤ length l.out;
      turn : 0 < l.pieces - l.done → Turn l.blocks (length l.payload) (l.pieces - l.done - 1) l.off l.at (length l.out);
      whole :
          take l.at l.out ++ written (records_from l.template l.payload l.blocks (l.pieces - l.done) l.off l.sec l.usec) (drop l.at l.out)
          ≡ written (records_from l.template l.payload l.blocks l.pieces 0 l.sec l.usec) l.initial.out;
    }
