-- Document 02, T-07: what the check accepts and what the planner cuts are plans, and there are no shorter ones.
use Rattle.std.specs.Prelude.{ℕ, ◌-◌, ◌≤◌, ◌≡◌, ◌↔◌, true, length}
use mathlib.Core.List.{List, Memᴰ}
use Rattle.ezpkt.specs.Build.{start_at, end_at}
use Rattle.pieces.specs.declared.BlockRequest.{BlockRequest}
use Rattle.planner.specs.Plan.{Plan}
use Rattle.planner.specs.Cutting.{blocks_of, piece_count, planned}
use Rattle.planner.specs.Steps.{is_plan}
use Rattle.planner.specs.Answers.{can_plan}

pub record Planning : Type 0 where
  -- "A small check accepts a list from anyone exactly if it is a plan."
  pub checks : (n m : ℕ) (l : List BlockRequest) → (is_plan n m l ≡ true) ↔ Plan n m l
  -- "Our planner": what it writes is a plan of as many requests as it answers,
  pub makes : (n m : ℕ) → can_plan n m ≡ true → Plan n m (planned n m)
  pub as_many : (n m : ℕ) → length (planned n m) ≡ piece_count n m
  -- "each length in the fewest blocks": those that the bytes it carries take;
  pub lengths : (n m : ℕ) → can_plan n m ≡ true → (r : BlockRequest) → Memᴰ r (planned n m)
      → r.len ≡ blocks_of (end_at r.off r.len n - start_at r.off n)
  -- "no plan has fewer pieces."
  pub fewest : (n m : ℕ) (l : List BlockRequest) → Plan n m l → piece_count n m ≤ length l
  -- "A plan exists exactly when m is at least 20 and either n ≤ m − 20 or m ≥ 28; this is proved from the definition of a plan."
  pub exists : (n m : ℕ) → ((l : List BlockRequest) × Plan n m l) ↔ (can_plan n m ≡ true)
