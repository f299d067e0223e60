-- Digits that are left, behind those that were read, are the whole word.
use mathlib.Core.Path.{◌≡◌, refl, sym, ap, ◌∙◌}
use mathlib.Core.List.{List, [], ◌∷◌}
use Prim.Native.Nat.{ℕ, suc, ◌+◌, ◌≤◌, ◌<◌}
use native.Mathlib.Numerals.{add-one}
use native.Mathlib.Omega.{arith}
use lib.ListN.{length, get_or, drop, drop_of_length-le}
use lib.Seq.{drop-cons}
use Rattle.std.specs.Prelude.{Option, Some, None}
use Rattle.plan.specs.Words.{first_digit, more_digit, digits_from, number_in}

pub number_none : (w : List ℕ) → length w ≡ 0 → None ≡ number_in w
unfolding number_in
number_none [] h = refl
number_none (c ∷ cs) h = absurd (omega arith)

-- behind what is no number stands none
none_stays : (l : List ℕ) → digits_from None l ≡ None
unfolding digits_from
none_stays [] = refl
none_stays (c ∷ cs) = none_stays cs

module _ (w rest : List ℕ) (c : ℕ) (is : w ≡ c ∷ rest) where
  pub first_wrong : first_digit c ≡ None → None ≡ number_in w
  unfolding number_in
  first_wrong e = sym (ap number_in is ∙ ap (λ (x : Option ℕ). digits_from x rest) e ∙ none_stays rest)

  pub first_right : (v : ℕ) → first_digit c ≡ Some v → digits_from (Some v) rest ≡ number_in w
  unfolding number_in
  first_right v e = sym (ap number_in is ∙ ap (λ (x : Option ℕ). digits_from x rest) e)

module _ (l : List ℕ) (v i : ℕ) (all : Option ℕ) (so_far : digits_from (Some v) (drop i l) ≡ all) where
  pub number_end : length l ≤ i → Some v ≡ all
  unfolding digits_from
  number_end h = ap (digits_from (Some v)) (sym (drop_of_length-le l h)) ∙ so_far

  module _ (h : i < length l) where
    step : (o : Option ℕ) → more_digit v (get_or l i 0) ≡ o → digits_from o (drop (suc i) l) ≡ all
    unfolding digits_from
    step o e = ap (λ (x : Option ℕ). digits_from x (drop (suc i) l)) (sym e) ∙ ap (digits_from (Some v)) (sym (drop-cons l i 0 h)) ∙ so_far

    pub next_wrong : more_digit v (get_or l i 0) ≡ None → None ≡ all
    next_wrong e = sym (none_stays (drop (suc i) l)) ∙ step None e

    pub next_right : (u : ℕ) → more_digit v (get_or l i 0) ≡ Some u → digits_from (Some u) (drop (i + 1) l) ≡ all
    next_right u e = rw add-one (step (Some u) e)
