-- Words read from the front: what is left, read from here, is the whole.
use mathlib.Core.Path.{◌≡◌, refl, sym, ap, ◌∙◌}
use mathlib.Core.Bool.{not, true, false}
use mathlib.Core.List.{List, [], ◌∷◌}
use Prim.Native.Nat.{ℕ, suc, ◌+◌, ◌-◌, ◌*◌, ◌≤◌, ◌<◌}
use native.Mathlib.Numerals.{add-one}
use native.Mathlib.Omega.{arith}
use lib.ListN.{length, get_or, drop, drop_of_length-le}
use lib.Seq.{drop-cons}
use lib.Dec.{eqb}
use borrow.Author.Tests.{le-ltb, lt-ltb, le-leb, lt-leb}
use Rattle.words.proofs.Reading.{and_fails}
use Rattle.std.specs.Prelude.{Some, None, cond, ltb}
use Rattle.std.specs.Option.{unwrap_or}
use Rattle.std.proofs.lemmas.List.Sums.{prefix_len-le-length}
use Rattle.std.proofs.lemmas.Bool.{cases_lt}
use Rattle.std.proofs.Common.{inl, inr}
use Rattle.std.specs.Char.{is_ascii_digit}
use Rattle.words.specs.Words.{all_digits, is_plain, value_from}
use Rattle.words.specs.Steps.{digits_in, place_of}

-- ---- digits

digits_other : (most v c : ℕ) (cs : List ℕ) → is_ascii_digit c ≡ false → None ≡ digits_in most v (c ∷ cs)
unfolding digits_in all_digits
digits_other most v c cs h = simp h

digits_step : (most v c : ℕ) (cs : List ℕ) → is_ascii_digit c ≡ true → digits_in most v (c ∷ cs) ≡ digits_in most (10 * v + (c - 48)) cs
unfolding digits_in all_digits value_from
digits_step most v c cs h = simp h

value_grows : (v : ℕ) (cs : List ℕ) → v ≤ value_from v cs
unfolding value_from
value_grows v [] = omega arith
value_grows v (c ∷ cs) = omega (arith, value_grows (10 * v + (c - 48)) cs)

digits_large : (most v : ℕ) (cs : List ℕ) → most < v → None ≡ digits_in most v cs
unfolding digits_in
digits_large most v cs h = simp (lt-leb (value_from v cs) most (omega (arith, value_grows v cs)), and_fails (all_digits cs))

-- what is left from place i on, behind the digits of v, is the whole word
module _ (most v : ℕ) (w : List ℕ) (i : ℕ) (so_far : digits_in most v (drop i w) ≡ digits_in most 0 w) where
  pub digits_end : length w ≤ i → v ≤ most → Some v ≡ digits_in most 0 w
  unfolding digits_in all_digits value_from
  digits_end h few =
      let e = ap (digits_in most v) (drop_of_length-le w h) in
      simp (le-leb v most few) at (sym e ∙ so_far)

  module _ (h : i < length w) where
    pub other_at : is_ascii_digit (get_or w i 0) ≡ false → None ≡ digits_in most 0 w
    other_at e = digits_other most v (get_or w i 0) (drop (suc i) w) e ∙ ap (digits_in most v) (sym (drop-cons w i 0 h)) ∙ so_far

    module _ (digit : is_ascii_digit (get_or w i 0) ≡ true) (d : ℕ) (is : d ≡ get_or w i 0 - 48) where
      pub next_at : digits_in most (10 * v + d) (drop (i + 1) w) ≡ digits_in most 0 w
      next_at =
          ap (λ (k : ℕ). digits_in most (10 * v + k) (drop (i + 1) w)) is
          ∙ ap (λ (k : ℕ). digits_in most (10 * v + (get_or w i 0 - 48)) (drop k w)) (add-one i)
          ∙ sym (digits_step most v (get_or w i 0) (drop (suc i) w) digit)
          ∙ ap (digits_in most v) (sym (drop-cons w i 0 h))
          ∙ so_far

      pub large_at : (m : ℕ) → m ≡ most → m < 10 * v + d → None ≡ digits_in most 0 w
      large_at m e more = digits_large most (10 * v + d) (drop (i + 1) w) (omega arith) ∙ next_at

-- ---- one digit at least, and no 0 before another

pub plain_short : (w : List ℕ) → length w < 2 → eqb (length w) 1 ≡ is_plain w
unfolding is_plain
plain_short [] h = refl
plain_short (c ∷ []) h = refl
plain_short (c ∷ d ∷ cs) h = absurd (omega arith)

pub plain_long : (w : List ℕ) → 2 ≤ length w → not (eqb (get_or w 0 0) 48) ≡ is_plain w
unfolding is_plain
plain_long [] h = absurd (omega arith)
plain_long (c ∷ []) h = absurd (omega arith)
plain_long (c ∷ d ∷ cs) h = refl

-- ---- the first s

pub place_within : (s : ℕ) (w : List ℕ) → place_of s w ≤ length w
place_within s w = prefix_len-le-length (λ c. not (eqb c s)) w

pub place_or_end : (s : ℕ) (w : List ℕ)
    → unwrap_or (cond (ltb (place_of s w) (length w)) (Some (place_of s w)) None) (length w) ≡ place_of s w
place_or_end s w = go (place_of s w) (length w) (place_within s w)
  where
    go : (p n : ℕ) → p ≤ n → unwrap_or (cond (ltb p n) (Some p) None) n ≡ p
    go p n h = elim (cases_lt p n) [
      | inl l ↦ simp (lt-ltb p n l)
      | inr l ↦ simp (le-ltb p n l) (omega arith)
    ]
