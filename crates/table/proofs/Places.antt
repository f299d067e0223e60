-- The parts of a buffer that has n bytes for each slot, where one part is exchanged.
use mathlib.Core.Path.{◌≡◌, sym, ap, ◌∙◌}
use mathlib.Core.Logic.{◌≢◌}
use mathlib.Core.List.{List, ◌++◌}
use Prim.Native.Nat.{ℕ, suc, ◌+◌, ◌-◌, ◌*◌, ◌≤◌, ◌<◌}
use native.Mathlib.Nat.{mul-le-mul_left}
use native.Mathlib.Decide.{dec_lt}
use native.Mathlib.Omega.{arith}
use lib.ListN.{length, take, drop, length-append, length-take, length-drop, take-append-drop}
use lib.Seq.{length-take-le, take-append-le, drop-append-le, drop-append-add, drop-drop}
use Rattle.table.specs.Slots.{part_of, with_part}
use Rattle.table.proofs.Parts.{part_length, part_back}

-- a part of a buffer with N of them is inside it
inside : (n N i : ℕ) (l : List ℕ) → i < N → length l ≡ n * N → n * i + n ≤ length l
inside n N i l h e = omega (arith, mul-le-mul_left n h)

-- a part is as long as it should be
pub place_length : (n N i : ℕ) (l : List ℕ) → i < N → length l ≡ n * N → length (part_of n i l) ≡ n
place_length n N i l h e = part_length n i l (inside n N i l h e)

-- another part leaves the buffer as long as it was
pub with_length : (n N i : ℕ) (p l : List ℕ) → i < N → length l ≡ n * N → length p ≡ n → length (with_part n i p l) ≡ length l
unfolding with_part
with_length n N i p l h e q = simp (length-append, length-take, length-drop) (omega (arith, inside n N i l h e))

-- the part that was put there is there
pub place_same : (n N i : ℕ) (p l : List ℕ) → i < N → length l ≡ n * N → length p ≡ n → part_of n i (with_part n i p l) ≡ p
place_same n N i p l h e q = part_back n i p l q (omega (arith, inside n N i l h e))

-- a part before a seam, and one behind it
before : (n j : ℕ) (a b : List ℕ) → j + n ≤ length a → take n (drop j (a ++ b)) ≡ take n (drop j a)
before n j a b h =
    let t : n ≤ length (drop j a) = rw length-drop (omega arith) in
    ap (take n) (drop-append-le j a b (omega arith)) ∙ take-append-le n (drop j a) b t

behind : (k r : ℕ) (a b : List ℕ) → k ≡ length a + r → drop k (a ++ b) ≡ drop r b
behind k r a b e = ap (λ (x : ℕ). drop x (a ++ b)) e ∙ drop-append-add a b r

-- every other part stays
pub part_other : (n N i j : ℕ) (p l : List ℕ) → j ≢ i → i < N → length l ≡ n * N → length p ≡ n → part_of n j (with_part n i p l) ≡ part_of n j l
unfolding part_of with_part
part_other n N i j p l ne h e q = go (dec_lt j i)
  where
    front : length (take (n * i) l) ≡ n * i
    front = length-take-le (n * i) l (omega (arith, inside n N i l h e))

    go : Dec (j < i) → take n (drop (n * j) (take (n * i) l ++ (p ++ drop n (drop (n * i) l)))) ≡ take n (drop (n * j) l)
    go (yes b) =
        let s : n * j + n ≤ length (take (n * i) l) = omega (arith, front, mul-le-mul_left n b) in
        before n (n * j) (take (n * i) l) _ s
        ∙ sym (before n (n * j) (take (n * i) l) (drop (n * i) l) s)
        ∙ ap (λ (x : List ℕ). take n (drop (n * j) x)) (take-append-drop (n * i) l)
    go (no b) =
        let a : suc i ≤ j = omega arith in
        let m : n * suc i ≤ n * j = mul-le-mul_left n a in
        let r : ℕ = n * j - (n * i + n) in
        let z : n * i + (n + r) ≡ n * j = omega arith in
        ap (take n)
        (behind (n * j) (n + r) (take (n * i) l) _ (omega (arith, front))
        ∙ behind (n + r) r p _ (omega arith)
        ∙ drop-drop r n (drop (n * i) l)
        ∙ drop-drop (n + r) (n * i) l
        ∙ ap (λ (x : ℕ). drop x l) z)
