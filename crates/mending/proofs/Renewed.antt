-- Laws of a number that is put into two bytes of a list.
use mathlib.Core.Path.{◌≡◌, refl, ap, ◌∙◌}
use Prim.Native.Nat.{ℕ, zero, suc, ◌+◌, ◌-◌, ◌/◌, ◌%◌, ◌≤◌, ◌<◌}
use native.Mathlib.Omega.{arith}
use native.Mathlib.Numerals.{add-one, add-two}
use mathlib.Core.List.{List, [], ◌∷◌, ◌++◌, append_assoc}
use lib.ListN.{length, get_or, take, drop, set, length-set, take-append-drop}
use lib.Seq.{sets-eq, set-append_left, set-set, set_comm, take-set-le, take-set-lt, drop-set-lt, drop-set-add, drop-cons, get_or-set_same, get_or-set_other, take-take, drop-drop}
use Rattle.pkt.specs.Fields.{be, value, Bytes}
use Rattle.pkt.proofs.Checksum.{around}
use Rattle.inspect.specs.Header.{field_at}
use Rattle.inspect.proofs.Numbers.{field_two}
use Rattle.mending.specs.Sums.{renewed}

-- the bytes before the place, the number, and the bytes behind it
pub renewed_around : (i x : ℕ) (l : List ℕ) → i + 2 ≤ length l → renewed i x l ≡ around (take i l) x (drop (i + 2) l)
unfolding renewed
renewed_around i x l h = rw add-one (sets-eq (be 2 x) l i h ∙ append_assoc (take i l) (be 2 x) (drop (i + 2) l))

-- ---- as many bytes

pub renewed_length : (i x : ℕ) (l : List ℕ) → length (renewed i x l) ≡ length l
unfolding renewed
renewed_length i x l = simp length-set

pub set_bytes : (l : List ℕ) (i a : ℕ) → Bytes l → a < 256 → Bytes (set l i a)
set_bytes [] i a b h j = b j
set_bytes (x ∷ l) zero a b h zero = h
set_bytes (x ∷ l) zero a b h (suc j) = b (suc j)
set_bytes (x ∷ l) (suc i) a b h zero = b 0
set_bytes (x ∷ l) (suc i) a b h (suc j) = set_bytes l i a (λ k. b (suc k)) h j

pub renewed_bytes : (i x : ℕ) (l : List ℕ) → Bytes l → Bytes (renewed i x l)
unfolding renewed
renewed_bytes i x l b =
    let high : x / 256 % 256 < 256 = omega arith in
    let low : x % 256 < 256 = omega arith in
    set_bytes (set l i (x / 256 % 256)) (i + 1) (x % 256) (set_bytes l i (x / 256 % 256) b high) low

-- ---- two numbers

-- at one place, the later
pub renewed_again : (i x y : ℕ) (l : List ℕ) → renewed i x (renewed i y l) ≡ renewed i x l
unfolding renewed
renewed_again i x y l =
    ap (λ (m : List ℕ). set m (i + 1) (x % 256)) (set_comm (set l i (y / 256 % 256)) (i + 1) i (y % 256) (x / 256 % 256) (λ e. omega arith))
    ∙ set-set (set (set l i (y / 256 % 256)) i (x / 256 % 256)) (i + 1) (y % 256) (x % 256)
    ∙ ap (λ (m : List ℕ). set m (i + 1) (x % 256)) (set-set l i (y / 256 % 256) (x / 256 % 256))

-- ---- parts

pub take_before : (n i x : ℕ) (l : List ℕ) → n ≤ i → take n (renewed i x l) ≡ take n l
unfolding renewed
take_before n i x l h = take-set-le n (set l i (x / 256 % 256)) (i + 1) (x % 256) (omega arith) ∙ take-set-le n l i (x / 256 % 256) h

pub take_within : (n i x : ℕ) (l : List ℕ) → i + 2 ≤ n → take n (renewed i x l) ≡ renewed i x (take n l)
unfolding renewed
take_within n i x l h =
    take-set-lt n (set l i (x / 256 % 256)) (i + 1) (x % 256) (omega arith)
    ∙ ap (λ (m : List ℕ). set m (i + 1) (x % 256)) (take-set-lt n l i (x / 256 % 256) (omega arith))

pub drop_behind : (n i x : ℕ) (l : List ℕ) → i + 2 ≤ n → drop n (renewed i x l) ≡ drop n l
unfolding renewed
drop_behind n i x l h =
    drop-set-lt n (set l i (x / 256 % 256)) (i + 1) (x % 256) (omega arith) ∙ drop-set-lt n l i (x / 256 % 256) (omega arith)

pub drop_within : (n i x : ℕ) (l : List ℕ) → drop n (renewed (n + i) x l) ≡ renewed i x (drop n l)
unfolding renewed
drop_within n i x l =
    let e : n + i + 1 ≡ n + (i + 1) = omega arith in
    ap (λ (k : ℕ). drop n (set (set l (n + i) (x / 256 % 256)) k (x % 256))) e
    ∙ drop-set-add n (set l (n + i) (x / 256 % 256)) (i + 1) (x % 256)
    ∙ ap (λ (m : List ℕ). set m (i + 1) (x % 256)) (drop-set-add n l i (x / 256 % 256))

pub set_behind : (p l : List ℕ) (i a : ℕ) → set (p ++ l) (length p + i) a ≡ p ++ set l i a
set_behind [] l i a = ap (λ (k : ℕ). set l k a) (omega arith)
set_behind (x ∷ p) l i a =
    let e : suc (length p) + i ≡ suc (length p + i) = omega arith in
    ap (λ (k : ℕ). set (x ∷ (p ++ l)) k a) e ∙ ap (λ (m : List ℕ). x ∷ m) (set_behind p l i a)

pub renewed_behind : (p l : List ℕ) (i x : ℕ) → renewed (length p + i) x (p ++ l) ≡ p ++ renewed i x l
unfolding renewed
renewed_behind p l i x =
    let e : length p + i + 1 ≡ length p + (i + 1) = omega arith in
    ap (λ (m : List ℕ). set m (length p + i + 1) (x % 256)) (set_behind p l i (x / 256 % 256))
    ∙ ap (λ (k : ℕ). set (p ++ set l i (x / 256 % 256)) k (x % 256)) e
    ∙ set_behind p (set l i (x / 256 % 256)) (i + 1) (x % 256)

pub renewed_front : (p l : List ℕ) (i x : ℕ) → i + 2 ≤ length p → renewed i x (p ++ l) ≡ renewed i x p ++ l
unfolding renewed
renewed_front p l i x h =
    ap (λ (m : List ℕ). set m (i + 1) (x % 256)) (set-append_left p l i (x / 256 % 256) (omega arith))
    ∙ set-append_left (set p i (x / 256 % 256)) l (i + 1) (x % 256) (omega (arith, length-set p i (x / 256 % 256)))

-- ---- numbers that are read

pub field_before : (at k i x : ℕ) (l : List ℕ) → at + k ≤ i → field_at (renewed i x l) at k ≡ field_at l at k
unfolding field_at
field_before at k i x l h =
    let e : i ≡ at + (i - at) = omega arith in
    ap (λ (j : ℕ). value 0 (take k (drop at (renewed j x l)))) e
    ∙ ap (λ (m : List ℕ). value 0 (take k m)) (drop_within at (i - at) x l)
    ∙ ap (value 0) (take_before k (i - at) x (drop at l) (omega arith))

pub field_behind : (at k i x : ℕ) (l : List ℕ) → i + 2 ≤ at → field_at (renewed i x l) at k ≡ field_at l at k
unfolding field_at
field_behind at k i x l h = ap (λ (m : List ℕ). value 0 (take k m)) (drop_behind at i x l h)

pub field_here : (i x : ℕ) (l : List ℕ) → i + 2 ≤ length l → x < 65536 → field_at (renewed i x l) i 2 ≡ x
unfolding renewed
field_here i x l h few =
    let m : List ℕ = set l i (x / 256 % 256) in
    let high : get_or (set m (i + 1) (x % 256)) i 0 ≡ x / 256 % 256 =
    get_or-set_other m (i + 1) i (x % 256) 0 (λ e. omega arith) ∙ get_or-set_same l i (x / 256 % 256) 0 (omega arith) in
    let low : get_or (set m (i + 1) (x % 256)) (i + 1) 0 ≡ x % 256 = get_or-set_same m (i + 1) (x % 256) 0 (omega (arith, length-set l i (x / 256 % 256))) in
    field_two (renewed i x l) i (omega (arith, renewed_length i x l)) ∙ rw (high, low) (omega arith)

-- A number that stands in the first n bytes is read from these,
pub field_take : (at k n : ℕ) (l : List ℕ) → at + k ≤ n → field_at (take n l) at k ≡ field_at l at k
unfolding field_at
field_take zero k n l h = ap (value 0) (take-take k n l (omega arith))
field_take (suc at) k zero l h = absurd (omega arith)
field_take (suc at) k (suc n) [] h = refl
field_take (suc at) k (suc n) (a ∷ l) h = field_take at k n l (omega arith)

-- and one behind those from what is left.
pub field_drop : (at k n : ℕ) (l : List ℕ) → field_at (drop n l) at k ≡ field_at l (n + at) k
unfolding field_at
field_drop at k n l = ap (λ (m : List ℕ). value 0 (take k m)) (drop-drop at n l)

-- ---- the number that is there

-- Two bytes are those of the number that they stand for,
pub two_here : (i : ℕ) (l : List ℕ) → Bytes l → i + 2 ≤ length l → be 2 (field_at l i 2) ++ drop (i + 2) l ≡ drop i l
two_here i l b h =
    let h₀ : i < length l = omega arith in
    let h₁ : suc i < length l = omega arith in
    let high : field_at l i 2 / 256 % 256 ≡ get_or l i 0 = rw (field_two l i h) (omega (arith, b i, b (i + 1))) in
    let low : field_at l i 2 % 256 ≡ get_or l (i + 1) 0 = rw (field_two l i h) (omega (arith, b i, b (i + 1))) in
    rw (high, low, add-one, add-two, drop-cons l i 0, drop-cons l (suc i) 0)

-- so that nothing changes where it is put there.
pub renewed_same : (i : ℕ) (l : List ℕ) → Bytes l → i + 2 ≤ length l → renewed i (field_at l i 2) l ≡ l
renewed_same i l b h =
    renewed_around i (field_at l i 2) l h ∙ ap (λ (m : List ℕ). take i l ++ m) (two_here i l b h) ∙ take-append-drop i l
