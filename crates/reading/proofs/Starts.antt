-- Laws of comparing the first bytes: what the slice's method answers, and what the whole comparison tells.
use Rattle.std.proofs.Common.{◌≡◌, ℕ, Bool, true, false, ◌&&◌, eqb, List, [], ◌∷◌, length, take, sym, refl, ◌∙◌, ap₂, true≢false, eq-eqb, ne_eqb, eqb-true}
use Rattle.std.specs.Cmp.Lexicographic.{pointwise}
use Rattle.pkt.proofs.Choice.{and_both}
use Rattle.reading.specs.Reading.{starts_with}

-- The order of two numbers does not matter to their comparison.
either_way : (x y : ℕ) → eqb x y ≡ eqb y x
either_way x y = go (eqb y x) refl
  where
    go : (b : Bool) → eqb y x ≡ b → eqb x y ≡ b
    go true e = eq-eqb x y (sym (eqb-true y x e))
    go false e = ne_eqb x y (λ (z : x ≡ y). true≢false (sym (eq-eqb y x (sym z)) ∙ e))

-- The slice's method compares the bytes of h with as many of l.
pub starts_as : (h l : List ℕ) → pointwise eqb h (take (length h) l) ≡ starts_with h l
unfolding starts_with
starts_as [] l = refl
starts_as (x ∷ h) [] = refl
starts_as (x ∷ h) (y ∷ l) = ap₂ ◌&&◌ (either_way x y) (starts_as h l)

-- What starts with the bytes of h has them as its first, and what has them as its first starts with them.
pub starts_take : (h l : List ℕ) → starts_with h l ≡ true → take (length h) l ≡ h
unfolding starts_with
starts_take [] l e = refl
starts_take (x ∷ h) [] e = absurd (true≢false (sym e))
starts_take (x ∷ h) (y ∷ l) e =
    let b = and_both (eqb y x) (starts_with h l) e in
    ap₂ ◌∷◌ (eqb-true y x b.0) (starts_take h l b.1)

pub take_starts : (h l : List ℕ) → take (length h) l ≡ h → starts_with h l ≡ true
unfolding starts_with
take_starts [] l e = refl
take_starts (x ∷ h) [] e = cc e
take_starts (x ∷ h) (y ∷ l) e =
    let first : y ≡ x = cc e in
    let others : take (length h) l ≡ h = cc e in
    rw (eq-eqb y x first, take_starts h l others)
