-- One outcome: each promise to C is met by one answer and one set of lent bytes.
use mathlib.Core.Path.{◌≡◌, sym, ◌∙◌}
use mathlib.Core.List.{List}
use Prim.Native.Nat.{ℕ}
use Rattle.assembly.specs.declared.Key.{Key}
use Rattle.wispbundle.specs.Calls.{AssemblyOpens, AssemblyTakes}
use Rattle.wispbundle.specs.declared.assembling.wb_assembly.{wb_assembly}
use Rattle.wispbundle.specs.declared.assembling.wb_opened.{wb_opened}
use Rattle.wispbundle.specs.declared.assembling.wb_taken.{wb_taken}

pub opens_only : (k : Key) (d m : List ℕ) (r s : wb_opened) (d₁ d₂ m₁ m₂ : List ℕ) → AssemblyOpens k d m r d₁ m₁ → AssemblyOpens k d m s d₂ m₂
    → (r ≡ s) × (d₁ ≡ d₂) × (m₁ ≡ m₂)
opens_only k d m r s d₁ d₂ m₁ m₂ x y =
    (x.answer ∙ sym y.answer, x.payload_is ∙ sym y.payload_is, x.map_is ∙ sym y.map_is)

pub takes_only : (a : wb_assembly) (d m l : List ℕ) (r s : wb_taken) (d₁ d₂ m₁ m₂ : List ℕ)
    → AssemblyTakes a d m l r d₁ m₁ → AssemblyTakes a d m l s d₂ m₂ → (r ≡ s) × (d₁ ≡ d₂) × (m₁ ≡ m₂)
takes_only a d m l r s d₁ d₂ m₁ m₂ x y =
    (x.answer ∙ sym y.answer, x.payload_is ∙ sym y.payload_is, x.map_is ∙ sym y.map_is)
