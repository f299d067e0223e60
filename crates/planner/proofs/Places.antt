-- Lists of places, and where they are taken apart.
use mathlib.Core.Path.{◌≡◌, refl, ap, ◌∙◌}
use mathlib.Core.Logic.{◌⊎◌, inl, inr}
use mathlib.Core.List.Memᴰ
use mathlib.Core.List.{List, [], ◌∷◌, ◌++◌, append_cancel_left, Memᴰ}
use native.Mathlib.Decide.{dec_le}
use Prim.Native.Nat.{ℕ, zero, suc, ◌+◌, ◌-◌, ◌≤◌, ◌<◌}
use native.Mathlib.Omega.{arith}
use Rattle.pieces.specs.declared.BlockRequest.{BlockRequest}
use Rattle.planner.specs.Plan.{places_from, places_of, places_in}

-- no places are none, and none are no places
pub places_none : (s j : ℕ) → j ≡ 0 → places_from s j ≡ []
unfolding places_from
places_none s zero e = refl
places_none s (suc j) e = absurd (omega arith)

pub none_left : (s j : ℕ) → [] ≡ places_from s j → j ≡ 0
unfolding places_from
none_left s zero e = refl
none_left s (suc j) e = let z : ◌≡◌ {A = ℕ} 0 1 = cc in absurd (omega arith)

-- a places, and k behind them
places_add : (s a k : ℕ) → places_from s (a + k) ≡ places_from s a ++ places_from (s + a) k
unfolding places_from
places_add s zero k =
    let e : s ≡ s + 0 = omega arith in
    let d : 0 + k ≡ k = omega arith in
    ap (places_from s) d ∙ ap (λ (x : ℕ). places_from x k) e
places_add s (suc a) k =
    let e : suc s + a ≡ s + suc a = omega arith in
    let d : suc a + k ≡ suc (a + k) = omega arith in
    ap (places_from s) d ∙ ap (λ (l : List ℕ). s ∷ l) (places_add (suc s) a k ∙ ap (λ (x : ℕ). places_from (suc s) a ++ places_from x k) e)

-- the places up to n, taken apart at e
pub places_split : (s e n : ℕ) → s ≤ e → e ≤ n → places_from s (n - s) ≡ places_from s (e - s) ++ places_from e (n - e)
places_split s e n h k =
    let all : n - s ≡ e - s + (n - e) = omega arith in
    let at : s + (e - s) ≡ e = omega arith in
    ap (places_from s) all ∙ places_add s (e - s) (n - e) ∙ ap (λ (x : ℕ). places_from s (e - s) ++ places_from x (n - e)) at

-- where places begin with some, these begin where the others do
pub places_begin : (s t j k : ℕ) (l : List ℕ) → 0 < j → places_from s j ++ l ≡ places_from t k → s ≡ t
unfolding places_from
places_begin s t zero k l h e = absurd (omega arith)
places_begin s t (suc j) zero l h e = let z : ◌≡◌ {A = ℕ} 0 1 = cc in absurd (omega arith)
places_begin s t (suc j) (suc k) l h e = cc

-- .. and behind them the rest follows
pub places_rest : (s e n : ℕ) (l : List ℕ) → s ≤ e → e ≤ n → places_from s (e - s) ++ l ≡ places_from s (n - s) → l ≡ places_from e (n - e)
places_rest s e n l h k is = append_cancel_left (places_from s (e - s)) l (places_from e (n - e)) (is ∙ places_split s e n h k)

-- ---- which places they are

pub place_in : (s k j : ℕ) → s ≤ j → j < s + k → Memᴰ j (places_from s k)
unfolding places_from
place_in s zero j h e = absurd (omega arith)
place_in s (suc k) j h e = go (dec_le (suc s) j) (λ later. place_in (suc s) k j later (omega arith))
  where
    go : Dec (suc s ≤ j) → (suc s ≤ j → Memᴰ j (places_from (suc s) k)) → Memᴰ j (places_from s (suc k))
    go (yes later) more = Memᴰ.tail (more later)
    go (no here) more = let e : j ≡ s = omega arith in Memᴰ.head e

pub place_of : (s k j : ℕ) → Memᴰ j (places_from s k) → (s ≤ j) × (j < s + k)
unfolding places_from
place_of s zero j m = absurd (Memᴰ.not-nil m)
place_of s (suc k) j m = go (Memᴰ.cases_cons m) (place_of (suc s) k j)
  where
    go : (j ≡ s) ⊎ Memᴰ j (places_from (suc s) k) → (Memᴰ j (places_from (suc s) k) → (suc s ≤ j) × (j < suc s + k)) → (s ≤ j) × (j < s + suc k)
    go (inl e) later = (omega arith, omega arith)
    go (inr n) later = let b = later n in (omega (arith, b.0), omega (arith, b.1))

-- a place that a list carries is one that a request of it carries
pub carried_by_lem : (n : ℕ) (l : List BlockRequest) (j : ℕ) → Memᴰ j (places_in n l) → (r : BlockRequest) × Memᴰ r l × Memᴰ j (places_of n r)
unfolding places_in
carried_by_lem n [] j m = absurd (Memᴰ.not-nil m)
carried_by_lem n (r ∷ l) j m = go (Memᴰ.append_cases (places_of n r) m) (carried_by_lem n l j)
  where
    go : Memᴰ j (places_of n r) ⊎ Memᴰ j (places_in n l) → (Memᴰ j (places_in n l) → (q : BlockRequest) × Memᴰ q l × Memᴰ j (places_of n q))
        → (q : BlockRequest) × Memᴰ q (r ∷ l) × Memᴰ j (places_of n q)
    go (inl e) later = (r, Memᴰ.head refl, e)
    go (inr e) later = let (q, among, at) = later e in (q, Memᴰ.tail among, at)
