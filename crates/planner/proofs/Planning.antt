-- Document 02, T-07: the theorems about plans.
use Rattle.planner.specs.Cutting.{blocks_in, piece_count, planned}
use Rattle.planner.specs.Steps.{is_plan}
use Rattle.planner.specs.Planning.{Planning}
use Rattle.planner.proofs.Onward.{onward_of, plan_of}
use Rattle.planner.proofs.Checks.{accepted_onward, onward_accepted}
use Rattle.planner.proofs.Making.{requests_many, planned_onward, planned_lengths}
use Rattle.planner.proofs.Fewest.{onward_fewest, onward_can}

pub planning : Planning
unfolding is_plan
planning =
    record {
      checks = λ n m l. (λ e. plan_of n m l (accepted_onward n m 0 l e), λ p. onward_accepted (onward_of n m l p));
      makes = λ n m can. plan_of n m (planned n m) (planned_onward n m can);
      as_many = λ n m. requests_many n (blocks_in m) (piece_count n m) 0;
      lengths = planned_lengths;
      fewest = λ n m l p. onward_fewest n m l (onward_of n m l p);
      exists = λ n m. (λ x. onward_can n m x.0 (onward_of n m x.0 x.1), λ can. (planned n m, plan_of n m (planned n m) (planned_onward n m can)));
    }
