-- A list that has n things which all differ is at least n long.
use mathlib.Core.Path.{◌≡◌, refl, sym, ◌∙◌}
use mathlib.Core.Logic.{◌⊎◌, inl, inr}
use mathlib.Core.List.Memᴰ
use mathlib.Core.List.{List, ◌∷◌, Memᴰ}
use Prim.Native.Nat.{ℕ, zero, suc, ◌≤◌, ◌<◌}
use native.Mathlib.Omega.{arith}
use lib.ListN.{length}

-- a list without one of its members: it has every other one
record Without {A : Type 0} (a : A) (l : List A) : Type 0 where
  rest : List A
  shorter : length l ≡ suc (length rest)
  others : (b : A) → Memᴰ b l → (b ≡ a → ⊥) → Memᴰ b rest

-- there is one for each member
without : {A : Type 0} {a : A} {l : List A} → Memᴰ a l → Without a l
without {A} {a} (Memᴰ.head {x = x} {xs = xs} e) =
    record { rest = xs; shorter = refl; others = λ b m ne. go b ne (Memᴰ.cases_cons m) }
  where
    go : (b : A) → (b ≡ a → ⊥) → (b ≡ x) ⊎ Memᴰ b xs → Memᴰ b xs
    go b ne (inl q) = absurd (ne (q ∙ sym e))
    go b ne (inr q) = q
without {A} {a} (Memᴰ.tail {x = x} {xs = xs} n) =
    let w : Without a xs = without n in
    record { rest = x ∷ w.rest; shorter = omega (arith, w.shorter); others = λ b m ne. go w b ne (Memᴰ.cases_cons m) }
  where
    go : (w : Without a xs) (b : A) → (b ≡ a → ⊥) → (b ≡ x) ⊎ Memᴰ b xs → Memᴰ b (x ∷ w.rest)
    go w b ne (inl q) = Memᴰ.head q
    go w b ne (inr q) = Memᴰ.tail (w.others b q ne)

-- g names the n things
pub all_in : {A : Type 0} (n : ℕ) (g : ℕ → A) (l : List A) → ((i : ℕ) → i < n → Memᴰ (g i) l)
    → ((i j : ℕ) → i < j → j < n → g i ≡ g j → ⊥) → n ≤ length l
all_in zero g l within differ = omega arith
all_in (suc n) g l within differ =
    let w = without (within n (omega arith)) in
    let left : (i : ℕ) → i < n → Memᴰ (g i) w.rest = λ i h. w.others (g i) (within i (omega arith)) (differ i n h (omega arith)) in
    omega (arith, w.shorter, all_in n g w.rest left (λ i j h b. differ i j h (omega arith)))
