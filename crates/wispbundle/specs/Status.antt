-- A status of 0 stands for a call that was carried out, so no refusal has the number 0.
use Rattle.std.specs.Prelude.{◌≡◌, ℕ, ◌<◌}
use Rattle.pkt.specs.Answers.{Answer, refused}

pub record NotZero {A : Type 0} (a : Answer A) : Type 0 where
  pub above_0 : (n : ℕ) → a ≡ refused n → 0 < n
