-- After i turns i packets stand in the output, and their ends in the ends.
use Rattle.std.proofs.Common.{◌≡◌}
use Rattle.pieces.proofs.Turns.{end_at_turn, out_at, ends_at}
use Rattle.pieces.proofs.put_all.Given as goal

abbrev pub invariant-loop-i : goal.invariant-loop-i
invariant-loop-i l =
    record {
      end : l.at ≡ end_at_turn l.fn.template l.list l.payload l.fn.out l.fn.ends l.i;
      output : l.out ≡ out_at l.fn.template l.list l.payload l.fn.out l.fn.ends l.i;
      ends_are : l.ends ≡ ends_at l.fn.template l.list l.payload l.fn.out l.fn.ends l.i;
    }
