-- The first end that is wrong, and the packets between ends that are right.
use Rattle.std.proofs.Common.{◌≡◌, ℕ, zero, suc, ◌+◌, ◌-◌, ◌<◌, ◌≤◌, Bool, true, false, cond, ◌||◌, ltb, List, [], ◌∷◌, length, get_or, take, drop, sym, refl, ap, ◌∙◌, arith, drop-cons, ltb-false, le-ltb, lt-ltb}
use Rattle.ezpkt.proofs.Slices.{lent_slice}
use Rattle.reporting.specs.Report.{cut_at, first_wrong}

-- the list from an index on, taken apart there
rest_at : (es : List ℕ) (i : ℕ) → i < length es → drop i es ≡ get_or es i 0 ∷ drop (i + 1) es
rest_at es i h = let n : i + 1 ≡ suc i = omega arith in rw n (drop-cons es i 0 h)

-- The end at the index is below the one before it, or past the bytes;
pub below_here : (at n i : ℕ) (es : List ℕ) → i < length es → get_or es i 0 < at → first_wrong at n (drop i es) ≡ 0
unfolding first_wrong
below_here at n i es h l = ap (first_wrong at n) (rest_at es i h) ∙ simp (lt-ltb _ _ l)

pub past_here : (at n i : ℕ) (es : List ℕ) → i < length es → at ≤ get_or es i 0 → n < get_or es i 0 → first_wrong at n (drop i es) ≡ 0
unfolding first_wrong
past_here at n i es h g l = ap (first_wrong at n) (rest_at es i h) ∙ simp (le-ltb _ _ g, lt-ltb _ _ l)

-- or it is right, and the next is looked at.
pub right_here : (at n i : ℕ) (es : List ℕ) → i < length es → at ≤ get_or es i 0 → get_or es i 0 ≤ n
    → first_wrong at n (drop i es) ≡ suc (first_wrong (get_or es i 0) n (drop (i + 1) es))
unfolding first_wrong
right_here at n i es h g l = ap (first_wrong at n) (rest_at es i h) ∙ simp (le-ltb _ _ g, le-ltb _ _ l)

-- none is left
pub none_left : (at n : ℕ) (es : List ℕ) (i : ℕ) → length es ≤ i → first_wrong at n (drop i es) ≡ 0
unfolding first_wrong
none_left at n [] zero h = refl
none_left at n [] (suc i) h = refl
none_left at n (e ∷ es) zero h = absurd (omega arith)
none_left at n (e ∷ es) (suc i) h = none_left at n es i (omega arith)

-- ---- ends that are right

-- what is true of the next end where those that are left are right
pub record Right (at n i : ℕ) (es : List ℕ) : Type 0 where
  pub up : at ≤ get_or es i 0
  pub within : get_or es i 0 ≤ n
  pub rest : first_wrong (get_or es i 0) n (drop (i + 1) es) ≡ length es - (i + 1)

pub right_ends : (at n i : ℕ) (es : List ℕ) → i < length es → first_wrong at n (drop i es) ≡ length es - i → Right at n i es
unfolding first_wrong
right_ends at n i es h e = go (ltb (get_or es i 0) at) (ltb n (get_or es i 0)) refl refl (sym (ap (first_wrong at n) (rest_at es i h)) ∙ e)
  where
    go : (x y : Bool) → ltb (get_or es i 0) at ≡ x → ltb n (get_or es i 0) ≡ y → cond (x || y) 0 (suc (first_wrong (get_or es i 0) n (drop (i + 1) es))) ≡ length es - i → Right at n i es
    go true y a b c = absurd (omega arith)
    go false true a b c = absurd (omega arith)
    go false false a b c = record { up = ltb-false _ _ a; within = ltb-false _ _ b; rest = omega (arith, c) }

-- the packet that ends there, and those behind it
pub cut_here : (at i : ℕ) (es l : List ℕ) → i < length es → cut_at at (drop i es) l ≡ take (get_or es i 0 - at) (drop at l) ∷ cut_at (get_or es i 0) (drop (i + 1) es) l
unfolding cut_at
cut_here at i es l h = ap (λ (r : List ℕ). cut_at at r l) (rest_at es i h) ∙ ap (λ (p : List ℕ). p ∷ cut_at (get_or es i 0) (drop (i + 1) es) l) (sym (lent_slice at (get_or es i 0) l))

pub cut_none : (at i : ℕ) (es l : List ℕ) → length es ≤ i → cut_at at (drop i es) l ≡ []
unfolding cut_at
cut_none at zero [] l h = refl
cut_none at (suc i) [] l h = refl
cut_none at zero (e ∷ es) l h = absurd (omega arith)
cut_none at (suc i) (e ∷ es) l h = cut_none at i es l (omega arith)

-- there are no more right ends than ends
pub wrong_most : (at n : ℕ) (es : List ℕ) → first_wrong at n es ≤ length es
unfolding first_wrong
wrong_most at n [] = omega arith
wrong_most at n (e ∷ es) = go (ltb e at || ltb n e) (wrong_most e n es)
  where
    go : (x : Bool) → first_wrong e n es ≤ length es → cond x 0 (suc (first_wrong e n es)) ≤ suc (length es)
    go true h = omega arith
    go false h = omega arith
