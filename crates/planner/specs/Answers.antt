-- What the check and the planner answer, and what the planner leaves in the list.
use Rattle.std.specs.Prelude.{ℕ, ◌-◌, ◌%◌, ◌≡◌, Bool, not, ◌&&◌, ◌||◌, cond, List, length, ltb, leb, Result}
use Rattle.pkt.specs.Answers.{Answer, refused, gives, says, mapped, most_ip}
use Rattle.pkt.specs.declared.refusal.Refusal.{Refusal}
use Rattle.pkt.specs.Written.{over}
use Rattle.pieces.specs.declared.BlockRequest.{BlockRequest}
use Rattle.planner.specs.declared.Job.{Job}
use Rattle.planner.specs.Cutting.{blocks_in, piece_count, planned}
use Rattle.planner.specs.Steps.{is_plan}

-- "The check answers yes or no, or refuses with 1."
abbrev pub judge_answer : ℕ → Bool → Answer Bool
judge_answer n b = cond (ltb most_ip n) (refused 1) (gives b)

abbrev pub check_plan : ℕ → ℕ → List BlockRequest → Answer Bool
check_plan n m l = judge_answer n (is_plan n m l)

-- "A plan exists exactly when m is at least 20 and either n ≤ m − 20 or m ≥ 28"
abbrev pub can_plan : ℕ → ℕ → Bool
can_plan n m = leb 20 m && (leb n (m - 20) || leb 28 m)

-- "Refusals of the planner: 1, then 21 exactly if no plan exists, then 3 exactly if the fewest pieces exceed the list's places."
abbrev pub plan_answer : ℕ → ℕ → ℕ → Answer ℕ
plan_answer n m places =
    cond (ltb most_ip n) (refused 1)
    (cond (not (can_plan n m)) (refused 21)
    (cond (ltb places (piece_count n m)) (refused 3) (gives (piece_count n m))))

-- what is written of so many requests (where there is more than one, a full one has less than 65,536 blocks)
abbrev pub job_for : ℕ → ℕ → ℕ → Job
job_for n m k = record { count = k; n = n; blocks = blocks_in m % 65536 }

-- what is decided for a list of so many places
abbrev pub Decided : ℕ → ℕ → ℕ → Result Job Refusal → Type 0
Decided n m places r = says r ≡ mapped (job_for n m) (plan_answer n m places)

-- the requests rs over the front of the list, or on a refusal what it held
abbrev pub list_after : Answer ℕ → List BlockRequest → List BlockRequest → List BlockRequest
list_after (gives k) rs l = over rs l
list_after (refused n) rs l = l

-- The planner's whole promise: the one answer, and the list l' after the call on l.
pub record Plans (n m : ℕ) (l : List BlockRequest) (r : Result ℕ Refusal) (l' : List BlockRequest) : Type 0 where
  pub answer : says r ≡ plan_answer n m (length l)
  pub list_is : l' ≡ list_after (plan_answer n m (length l)) (planned n m) l
