-- What tests, and `||` and `&&` of two, tell; and what is chosen by them.
use Rattle.std.proofs.Common.{◌≡◌, ℕ, Bool, true, false, cond, ◌&&◌, ◌||◌, eqb, ◌⊎◌, sym, refl, ◌∙◌, inl, inr, true≢false, eq-eqb, ne_eqb, eqb-true}
use borrow.Author.Tests.{eqb-false}

pub or_cases : (a b : Bool) → (a || b) ≡ true → (a ≡ true) ⊎ (b ≡ true)
or_cases true b e = inl refl
or_cases false b e = inr e

pub or_no : (a b : Bool) → (a || b) ≡ false → (a ≡ false) × (b ≡ false)
or_no true b e = absurd (true≢false e)
or_no false b e = (refl, e)

pub and_both : (a b : Bool) → (a && b) ≡ true → (a ≡ true) × (b ≡ true)
and_both true b e = (refl, e)
and_both false b e = absurd (true≢false (sym e))

pub and_no : (a b : Bool) → (a && b) ≡ false → a ≡ true → b ≡ false
and_no true b e h = e
and_no false b e h = absurd (true≢false (sym h))

-- a test does not both hold and fail
pub both : {b : Bool} → b ≡ true → b ≡ false → ⊥
both p q = true≢false (sym p ∙ q)

-- what cannot hold fails
pub fails : (b : Bool) → (b ≡ true → ⊥) → b ≡ false
fails true h = absurd (h refl)
fails false h = refl

-- a choice by a test that holds, and by one that fails
pub pick_yes : {A : Type 0} {b : Bool} (x y : A) → b ≡ true → cond b x y ≡ x
pick_yes x y e = rw e refl

pub pick_no : {A : Type 0} {b : Bool} (x y : A) → b ≡ false → cond b x y ≡ y
pick_no x y e = rw e refl

-- Two tests for equality are one where each tells the other.
pub same_test : (a b c d : ℕ) → (a ≡ b → c ≡ d) → (c ≡ d → a ≡ b) → eqb a b ≡ eqb c d
same_test a b c d f g = go (eqb c d) refl
  where
    go : (t : Bool) → eqb c d ≡ t → eqb a b ≡ t
    go true e = eq-eqb a b (g (eqb-true c d e))
    go false e = ne_eqb a b (λ q. eqb-false c d e (f q))
