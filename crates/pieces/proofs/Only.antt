-- One answer, one output and one list of ends: the promise leaves no other.
use mathlib.Core.Path.{◌≡◌, ap}
use mathlib.Core.List.{List}
use Prim.Native.Nat.{ℕ}
use Rattle.std.specs.Prelude.{Result}
use Rattle.pkt.specs.Answers.{list_says}
use Rattle.pkt.specs.declared.refusal.ListRefusal.{ListRefusal}
use Rattle.pkt.proofs.Only.{list_says_only, promise_only}
use Rattle.ezpkt.specs.declared.ip4.Template.{Template}
use Rattle.pieces.specs.declared.BlockRequest.{BlockRequest}
use Rattle.pieces.specs.Fragments.{Fragmented}

-- the promise of `fragments` is met by one answer, one output and one list of ends
pub fragmented_only : (t : Template) (rs : List BlockRequest) (p o e : List ℕ) (r s : Result ℕ ListRefusal) (o₁ o₂ e₁ e₂ : List ℕ)
    → Fragmented t rs p o e r o₁ e₁ → Fragmented t rs p o e s o₂ e₂ → (r ≡ s) × (o₁ ≡ o₂) × (e₁ ≡ e₂)
fragmented_only t rs p o e r s o₁ o₂ e₁ e₂ x y =
    let one = promise_only {B = List ℕ × List ℕ} list_says list_says_only _ _ r s (o₁, e₁) (o₂, e₂) x y in
    (one.0, ap (λ b. b.0) one.1, ap (λ b. b.1) one.1)
