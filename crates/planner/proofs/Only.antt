-- One outcome: the promise of the planner leaves one answer and one state of the list, and that of what is decided one decision.
use mathlib.Core.Path.{◌≡◌, sym, ◌∙◌}
use mathlib.Core.List.{List}
use Prim.Native.Nat.{ℕ}
use Rattle.std.specs.Prelude.{Result}
use Rattle.pkt.specs.declared.refusal.Refusal.{Refusal}
use Rattle.pkt.proofs.Only.{says_only}
use Rattle.pieces.specs.declared.BlockRequest.{BlockRequest}
use Rattle.planner.specs.declared.Job.{Job}
use Rattle.planner.specs.Answers.{Plans, Decided}

pub plans_only : (n m : ℕ) (l : List BlockRequest) (r s : Result ℕ Refusal) (l₁ l₂ : List BlockRequest) → Plans n m l r l₁ → Plans n m l s l₂ → (r ≡ s) × (l₁ ≡ l₂)
plans_only n m l r s l₁ l₂ x y = (says_only r s _ x.answer y.answer, x.list_is ∙ sym y.list_is)

pub decided_only : (n m places : ℕ) (r s : Result Job Refusal) → Decided n m places r → Decided n m places s → r ≡ s
decided_only n m places r s x y = says_only r s _ x y
