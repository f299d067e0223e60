-- Each public call's promise is met by one answer and one set of lent bytes only.
use mathlib.Core.Path.{◌≡◌, refl, sym, ap, ◌∙◌}
use mathlib.Core.List.{List}
use Prim.Native.Nat.{ℕ}
use Rattle.std.specs.Prelude.{cond, ◌==◌, Result, Ok, Err}
use Rattle.pkt.specs.Answers.{Answer, refused, gives, mapped, says}
use Rattle.pkt.specs.declared.refusal.Refusal.{Refusal}
use Rattle.pkt.proofs.Only.{told_once, says_only}
use Rattle.inspect.specs.declared.header.IpRead.{IpRead}
use Rattle.assembly.specs.declared.Key.{Key}
use Rattle.assembly.specs.declared.Rec.{Rec}
use Rattle.assembly.specs.declared.Outcome.{Outcome}
use Rattle.assembly.specs.declared.Outcome.TheVariants as way
use Rattle.assembly.specs.declared.Taken.{Taken}
use Rattle.assembly.specs.Assembly.{State}
use Rattle.assembly.specs.declared.carried.Misfit.{Misfit}
use Rattle.assembly.specs.declared.carried.Misfit.TheVariants.{NotBlocks, TooFar}
use Rattle.assembly.specs.declared.step.Progress.{Progress}
use Rattle.assembly.specs.declared.step.Progress.TheVariants as progress
use Rattle.assembly.specs.Answers.{fit_says, Steps, Standing, stands, progress_says}
use Rattle.assembly.specs.Calls.{Opens}

pub opens_only : (C M : ℕ) (k : Key) (d m : List ℕ) (r s : Result Rec Refusal) (d₁ d₂ m₁ m₂ : List ℕ) → Opens C M k d m r d₁ m₁ → Opens C M k d m s d₂ m₂
    → (r ≡ s) × (d₁ ≡ d₂) × (m₁ ≡ m₂)
opens_only C M k d m r s d₁ d₂ m₁ m₂ x y = (says_only r s _ x.answer y.answer, x.payload_is ∙ sym y.payload_is, x.map_is ∙ sym y.map_is)

-- `take` and `any::put`, of which a is what they lead to from the state s
pub steps_only : (a : Answer State) (s : State) (r t : Result Taken Refusal) (d₁ d₂ m₁ m₂ : List ℕ) → Steps a s r d₁ m₁ → Steps a s t d₂ m₂
    → (r ≡ t) × (d₁ ≡ d₂) × (m₁ ≡ m₂)
steps_only a s r t d₁ d₂ m₁ m₂ x y = (says_only r t _ x.answer y.answer, x.payload_is ∙ sym y.payload_is, x.map_is ∙ sym y.map_is)

-- `progress` and `any::progress`
progress_with : Outcome → ℕ → Progress
progress_with way.Waiting n = progress.Waiting
progress_with way.Complete n = progress.Complete n
progress_with way.Spoilt n = progress.Spoilt

progress_of : Standing → Progress
progress_of s = progress_with s.answer s.bytes

progress_of_stands : (p : Progress) → progress_of (stands p) ≡ p
unfolding progress_of progress_with
progress_of_stands progress.Waiting = refl
progress_of_stands (progress.Complete n) = refl
progress_of_stands progress.Spoilt = refl

says_progress : (r : Result Progress Refusal) → says r ≡ mapped progress_of (progress_says r)
says_progress (Ok p) = ap gives (sym (progress_of_stands p))
says_progress (Err e) = refl

pub progress_only : (r s : Result Progress Refusal) (a : Answer Standing) → progress_says r ≡ a → progress_says s ≡ a → r ≡ s
progress_only r s a x y =
    says_only r s (mapped progress_of a) (says_progress r ∙ ap (mapped progress_of) x) (says_progress s ∙ ap (mapped progress_of) y)

-- `carried::fit`, for every number that an end above may be refused by
misfit_of : ℕ → Misfit
misfit_of n = cond (n == 9) NotBlocks TooFar

fitted_of : Answer IpRead → Result IpRead Misfit
fitted_of (gives h) = Ok h
fitted_of (refused n) = Err (misfit_of n)

fitted_of_says : (r : Result IpRead Misfit) → fitted_of (fit_says 10 r) ≡ r
unfolding fitted_of misfit_of
fitted_of_says (Ok h) = refl
fitted_of_says (Err NotBlocks) = refl
fitted_of_says (Err TooFar) = refl

pub fit_only : (r s : Result IpRead Misfit) (a : ℕ → Answer IpRead) → ((far : ℕ) → fit_says far r ≡ a far) → ((far : ℕ) → fit_says far s ≡ a far) → r ≡ s
fit_only r s a x y = told_once (fit_says 10) fitted_of fitted_of_says r s (a 10) (x 10) (y 10)
