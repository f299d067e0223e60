-- What is found in a list that is looked through once.
use mathlib.Core.Path.{◌≡◌, refl, sym, ap, ◌∙◌}
use mathlib.Core.Bool.{Bool, true, false, cond}
use mathlib.Core.List.{List, [], ◌∷◌}
use Prim.Native.Nat.{ℕ, suc, ◌+◌, ◌-◌, ◌≤◌, ◌<◌}
use native.Mathlib.Omega.{arith}
use lib.ListN.{length, drop}
use lib.Dec.{ltb}
use borrow.Author.Tests.{lt-ltb, le-ltb}
use Rattle.std.specs.Prelude.{Option, Some, None}
use native.Mathlib.Numerals.{add-one}
use Rattle.std.proofs.Common.{inl, inr}
use Rattle.std.proofs.lemmas.Bool.{cases_lt}
use Rattle.pieces.specs.OneByOne.{request_at}
use Rattle.pieces.proofs.Walking.{unroll, all_gone}
use Rattle.ezpkt.specs.Build.{is_bad_offset}
use Rattle.pieces.specs.declared.BlockRequest.{BlockRequest}
use Rattle.pieces.specs.Fragments.{size_for, sum_of, first_bad}
use Rattle.pieces.specs.Survey.{left_of, first_after, left_after}

-- what is found in all, where so much was found before and these requests follow from index i on
abbrev pub bad_on : Option ℕ → ℕ → List BlockRequest → Option ℕ
bad_on (Some k) i rs = Some k
bad_on None i rs = cond (ltb (first_bad rs) (length rs)) (Some (i + first_bad rs)) None

abbrev pub left_on : ℕ → Option ℕ → List BlockRequest → Option ℕ
left_on n None rs = None
left_on n (Some left) rs = left_of n left rs

-- ---- one request: what is found behind it is what is found from it on

bad_turn : (bad : Option ℕ) (i : ℕ) (r : BlockRequest) (rs : List BlockRequest) → bad_on (first_after bad i r) (suc i) rs ≡ bad_on bad i (r ∷ rs)
unfolding first_bad first_after
bad_turn (Some k) i r rs = refl
bad_turn None i r rs = go (is_bad_offset r.off)
  where
    go : (b : Bool) → bad_on (cond b (Some i) None) (suc i) rs
        ≡ cond (ltb (cond b 0 (suc (first_bad rs))) (suc (length rs))) (Some (i + cond b 0 (suc (first_bad rs)))) None
    go true = simp (lt-ltb 0 (suc (length rs)) (omega arith)) (ap (λ (k : ℕ). Some k) (omega arith))
    go false = elim (cases_lt (first_bad rs) (length rs)) [
      | inl l ↦ simp (lt-ltb _ _ l, lt-ltb (suc (first_bad rs)) (suc (length rs)) (omega arith)) (ap (λ (k : ℕ). Some k) (omega arith))
      | inr l ↦ simp (le-ltb _ _ l, le-ltb (suc (first_bad rs)) (suc (length rs)) (omega arith))
    ]

left_turn : (n : ℕ) (left : Option ℕ) (r : BlockRequest) (rs : List BlockRequest) → left_on n (left_after left (size_for n r)) rs ≡ left_on n left (r ∷ rs)
unfolding sum_of left_after
left_turn n None r rs = refl
left_turn n (Some left) r rs = go (size_for n r)
  where
    fits : (s m : ℕ) → s ≤ left → cond (ltb (left - s) m) None (Some (left - s - m)) ≡ cond (ltb left (s + m)) None (Some (left - (s + m)))
    fits s m h = elim (cases_lt (left - s) m) [
      | inl l ↦ let more : left < s + m = omega arith in simp (lt-ltb _ _ l, lt-ltb _ _ more)
      | inr l ↦ let more : s + m ≤ left = omega arith in simp (le-ltb _ _ l, le-ltb _ _ more) (ap (λ (k : ℕ). Some k) (omega arith))
    ]

    go : (s : ℕ) → left_on n (cond (ltb left s) None (Some (left - s))) rs ≡ cond (ltb left (s + sum_of n rs)) None (Some (left - (s + sum_of n rs)))
    go s = elim (cases_lt left s) [
      | inl l ↦ let more : left < s + sum_of n rs = omega arith in simp (lt-ltb _ _ l, lt-ltb _ _ more)
      | inr l ↦ simp (le-ltb _ _ l) (fits s (sum_of n rs) l)
    ]

-- ---- no request

bad_alone : (bad : Option ℕ) (i : ℕ) → bad_on bad i [] ≡ bad
unfolding first_bad
bad_alone (Some k) i = refl
bad_alone None i = refl

left_alone : (n : ℕ) (left : Option ℕ) → left_on n left [] ≡ left
unfolding sum_of
left_alone n None = refl
left_alone n (Some left) = let same : left - 0 ≡ left = omega arith in simp (le-ltb left 0 (omega arith), same)

-- ---- a turn, and the end

module _ (rs : List BlockRequest) (i : ℕ) (bad : Option ℕ) (all : Option ℕ) (so_far : bad_on bad i (drop i rs) ≡ all) where
  pub bad_next : i < length rs → bad_on (first_after bad i (request_at rs i)) (i + 1) (drop (i + 1) rs) ≡ all
  bad_next h = rw add-one (bad_turn bad i (request_at rs i) (drop (suc i) rs) ∙ sym (ap (bad_on bad i) (unroll rs i h)) ∙ so_far)

  pub bad_end : length rs ≤ i → bad ≡ all
  bad_end h = sym (bad_alone bad i) ∙ sym (ap (bad_on bad i) (all_gone rs i h)) ∙ so_far

module _ (n : ℕ) (rs : List BlockRequest) (i : ℕ) (left : Option ℕ) (all : Option ℕ) (so_far : left_on n left (drop i rs) ≡ all) where
  pub left_next : (s : ℕ) → s ≡ size_for n (request_at rs i) → i < length rs → left_on n (left_after left s) (drop (i + 1) rs) ≡ all
  left_next s is h = rw (add-one, is) (left_turn n left (request_at rs i) (drop (suc i) rs) ∙ sym (ap (left_on n left) (unroll rs i h)) ∙ so_far)

  pub left_end : length rs ≤ i → left ≡ all
  left_end h = sym (left_alone n left) ∙ sym (ap (left_on n left) (all_gone rs i h)) ∙ so_far
