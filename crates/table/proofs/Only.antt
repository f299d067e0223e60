-- One outcome: each promise of a table leaves one answer, one table and one state of all that was lent.
use mathlib.Core.Path.{◌≡◌, sym, ap₂, ◌∙◌}
use mathlib.Core.List.{List}
use Prim.Native.Nat.{ℕ}
use Rattle.std.specs.Prelude.{Result}
use Rattle.pkt.specs.Answers.{Answer}
use Rattle.pkt.specs.declared.refusal.Refusal.{Refusal}
use Rattle.pkt.proofs.Only.{says_only}
use Rattle.assembly.specs.declared.Key.{Key}
use Rattle.assembly.specs.declared.Outcome.{Outcome}
use Rattle.table.specs.declared.Slot.{Slot}
use Rattle.table.specs.declared.After.{After}
use Rattle.table.specs.Table.{Placing, Tables, Discards, TakesOut}

-- of `take`
pub tables_only : (a : Answer Placing) (t : List Slot) (d m : List ℕ) (r s : After Outcome) (d₁ m₁ d₂ m₂ : List ℕ) → Tables a t d m r d₁ m₁ → Tables a t d m s d₂ m₂
    → (r ≡ s) × (d₁ ≡ d₂) × (m₁ ≡ m₂)
tables_only a t d m r s d₁ m₁ d₂ m₂ x y = (
  ap₂ (λ (u : List Slot) (b : Result Outcome Refusal). record { table = u; answer = b }) (x.slots_are ∙ sym y.slots_are)
      (says_only r.answer s.answer _ x.answer y.answer),
  x.payloads_are ∙ sym y.payloads_are,
  x.maps_are ∙ sym y.maps_are,
)

-- of `discard`
pub discards_only : (t : List Slot) (d m : List ℕ) (k : Key) (r s : After (Unit {0})) (d₁ m₁ d₂ m₂ : List ℕ) → Discards t d m k r d₁ m₁ → Discards t d m k s d₂ m₂
    → (r ≡ s) × (d₁ ≡ d₂) × (m₁ ≡ m₂)
discards_only t d m k r s d₁ m₁ d₂ m₂ x y = (
  ap₂ (λ (u : List Slot) (b : Result (Unit {0}) Refusal). record { table = u; answer = b }) (x.slots_are ∙ sym y.slots_are)
      (says_only r.answer s.answer _ x.answer y.answer),
  x.payloads_are ∙ sym y.payloads_are,
  x.maps_are ∙ sym y.maps_are,
)

-- of `take_out`
pub takes_out_only : (t : List Slot) (d m : List ℕ) (k : Key) (o : List ℕ) (r s : After ℕ) (d₁ m₁ o₁ d₂ m₂ o₂ : List ℕ) → TakesOut t d m k o r d₁ m₁ o₁
    → TakesOut t d m k o s d₂ m₂ o₂ → (r ≡ s) × (d₁ ≡ d₂) × (m₁ ≡ m₂) × (o₁ ≡ o₂)
takes_out_only t d m k o r s d₁ m₁ o₁ d₂ m₂ o₂ x y = (
  ap₂ (λ (u : List Slot) (b : Result ℕ Refusal). record { table = u; answer = b }) (x.slots_are ∙ sym y.slots_are)
      (says_only r.answer s.answer _ x.answer y.answer),
  x.payloads_are ∙ sym y.payloads_are,
  x.maps_are ∙ sym y.maps_are,
  x.output_is ∙ sym y.output_is,
)
