-- Laws of the answers.
use mathlib.Core.Path.{◌≡◌, refl, ap}
use Prim.Native.Nat.{ℕ, ◌≤◌}
use native.Mathlib.Omega.{arith}
use mathlib.Core.Bool.{Bool, true, false, cond}
use mathlib.Core.List.{List}
use Rattle.pkt.specs.Answers.{Answer, refused, gives}
use Rattle.pkt.proofs.Deciding.{bounded}
use Rattle.packet.specs.Headroom.{valid}
use Rattle.packet.specs.Answers.{lower_answer}
use Rattle.packet.specs.declared.Grown.{Grown}
use Rattle.packet.specs.declared.Packet.{Packet}
use Rattle.pkt.specs.Written.{unless_refused}

-- Where something is given the record is valid.
given : {A : Type 0} (t : Bool) (x : ℕ) (rest : Answer A) (a : A) → cond t rest (refused x) ≡ gives a → (t ≡ true) × (rest ≡ gives a)
given true x rest a e = (refl, e)
given false x rest a e = let z : ◌≡◌ {A = ℕ} 0 1 = cc in absurd (omega arith)

-- Bytes that are prepended come from the headroom.
pub lower_fits : (p : Packet) (k n : ℕ) (g : Grown) → lower_answer p k n ≡ gives g → (valid p n ≡ true) × (k ≤ p.headroom)
lower_fits p k n g e =
    let (v, e₁) = given (valid p n) 16 _ g e in
    (v, (bounded p.headroom k 16 g _ e₁).0)

-- What the buffer holds after a refusal.
pub kept : {A : Type 0} (a : Answer A) (n : ℕ) (x b : List ℕ) → a ≡ refused n → unless_refused a x b ≡ b
kept a n x b e = ap (λ t. unless_refused t x b) e
