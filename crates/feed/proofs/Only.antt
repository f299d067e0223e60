-- One outcome: a frame's promise leaves one answer and one state of both buffers.
use Rattle.std.proofs.Common.{◌≡◌, ℕ, List, sym, ◌∙◌}
use Rattle.std.specs.Prelude.{Result}
use Rattle.pkt.specs.declared.refusal.Refusal.{Refusal}
use Rattle.pkt.proofs.Only.{says_only}
use Rattle.feed.specs.declared.Feed.{Feed}
use Rattle.feed.specs.declared.Written.{Written}
use Rattle.feed.specs.Feed.{Feeds}

pub feeds_only : (f : Feed) (b : List ℕ) (sec usec : ℕ) (s o : List ℕ) (r t : Result Written Refusal) (s₁ o₁ s₂ o₂ : List ℕ) → Feeds f b sec usec s o r s₁ o₁
    → Feeds f b sec usec s o t s₂ o₂ → (r ≡ t) × (s₁ ≡ s₂) × (o₁ ≡ o₂)
feeds_only f b sec usec s o r t s₁ o₁ s₂ o₂ x y = (says_only r t _ x.answer y.answer, x.scratch_is ∙ sym y.scratch_is, x.output_is ∙ sym y.output_is)
