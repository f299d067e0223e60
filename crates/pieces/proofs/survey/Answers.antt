use Rattle.std.proofs.Common.{rules}
use Rattle.pieces.proofs.Surveyed.{bad_next, bad_end, left_next, left_end}
use Rattle.pieces.proofs.survey.Goals as goal

pub loop-i-preserved : goal.loop-i-preserved
loop-i-preserved c =
    record {
      bad_so_far = search (rules, bad_next);
      left_so_far = search (rules, left_next);
    }

pub returns : goal.returns
returns c = (search (rules, bad_end), search (rules, left_end))
