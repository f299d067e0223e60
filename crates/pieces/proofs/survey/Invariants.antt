-- What is found in the requests from here on, behind what was found before, is what is found in all.
use Rattle.std.proofs.Common.{◌≡◌, drop}
use Rattle.pieces.specs.Survey.{bad_in, left_of}
use Rattle.pieces.proofs.Surveyed.{bad_on, left_on}
use Rattle.pieces.proofs.survey.Given as goal

abbrev pub invariant-loop-i : goal.invariant-loop-i
invariant-loop-i l =
    record {
      bad_so_far : bad_on l.bad l.i (drop l.i l.list) ≡ bad_in l.list;
      left_so_far : left_on l.n l.left (drop l.i l.list) ≡ left_of l.n l.room l.list;
    }
