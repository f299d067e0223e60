-- How many pieces there are: each but the last is full, and begins within the payload.
use mathlib.Core.Path.{◌≡◌, ap, ◌∙◌}
use Prim.Native.Nat.{ℕ, zero, suc, ◌+◌, ◌-◌, ◌*◌, ◌/◌, ◌≤◌, ◌<◌}
use native.Mathlib.Nat.{lt-div-mul-add, suc-mul, div-zero, div-eq_of_lt, div-mul-le_self, div-lt_iff_lt-mul, div-le_self}
use native.Mathlib.Decide.{dec_le}
use native.Mathlib.Omega.{arith}
use Rattle.planner.specs.Cutting.{link_room, blocks_in, blocks_of, full_above, piece_count, Fewest, length_at}

-- nothing above takes no full piece
none_over : (x f : ℕ) → x ≡ 0 → (x + (f - 1)) / f ≡ 0
none_over x zero e = div-zero _
none_over x (suc f) e =
    let z : x + (suc f - 1) < suc f = omega arith in
    div-eq_of_lt z

-- what fits one packet is one piece
pub count_one : (n m : ℕ) → n ≤ link_room m → piece_count n m ≡ 1
unfolding piece_count
count_one n m few =
    let z : n - link_room m ≡ 0 = omega arith in
    omega (arith, none_over (n - link_room m) (8 * blocks_in m) z)

-- where no whole block fits, there is one piece
pub count_small : (n m : ℕ) → m < 28 → 1 ≡ piece_count n m
unfolding piece_count
count_small n m h =
    let f : ℕ = 8 * blocks_in m in
    let z : f ≡ 0 = omega arith in
    let q : full_above (n - link_room m) f ≡ 0 = ap (full_above (n - link_room m)) z ∙ div-zero (n - link_room m + (0 - 1)) in
    omega (arith, q)

pub count_some : (n m : ℕ) → 1 ≤ piece_count n m
unfolding piece_count
count_some n m = omega arith

-- the pieces but the last are within the payload
pub begins_within : (n m : ℕ) → (piece_count n m - 1) * (8 * blocks_in m) ≤ n
unfolding piece_count
begins_within n m =
    let q : ℕ = (n - link_room m + (8 * blocks_in m - 1)) / (8 * blocks_in m) in
    let one : 1 + q - 1 ≡ q = omega arith in
    rw one (go (dec_le n (link_room m)))
  where
    go : Dec (n ≤ m - 20) → (n - link_room m + (8 * blocks_in m - 1)) / (8 * blocks_in m) * (8 * blocks_in m) ≤ n
    go (yes few) =
        let z : n - link_room m ≡ 0 = omega arith in
        rw (none_over (n - link_room m) (8 * blocks_in m) z) (omega arith)
    go (no more) = omega (arith, div-mul-le_self (n - link_room m + (8 * blocks_in m - 1)) (8 * blocks_in m))

-- .. and the last carries what they leave
pub count_covers : (n m : ℕ) → 28 ≤ m → n ≤ (piece_count n m - 1) * (8 * blocks_in m) + (m - 20)
unfolding piece_count
count_covers n m h =
    let f : ℕ = 8 * blocks_in m in
    let q : ℕ = full_above (n - link_room m) f in
    let one : 1 + q - 1 ≡ q = omega arith in
    let p : 0 < f = omega arith in
    let most : n - (m - 20) + (f - 1) < q * f + f = lt-div-mul-add p in
    rw one (covers f q p most)
  where
    covers : (f q : ℕ) → 0 < f → n - (m - 20) + (f - 1) < q * f + f → n ≤ q * f + (m - 20)
    covers f q p most = omega arith

-- with one less, bytes are left over
one_less : (x f q : ℕ) → 0 < q → q * f ≤ x + (f - 1) → 0 < f → (q - 1) * f < x
one_less x f zero h e p = absurd (omega arith)
one_less x f (suc q) h e p = let z : suc q - 1 ≡ q = omega arith in rw z (omega (arith, suc-mul q f))

pub count_fewest : (n m : ℕ) → 28 ≤ m → Fewest n m
unfolding piece_count
count_fewest n m h =
    record {
      fewer_leave =
          λ more.
          let f : ℕ = 8 * blocks_in m in
          left f (full_above (n - link_room m) f) more (div-mul-le_self (n - (m - 20) + (f - 1)) f) (omega arith);
    }
  where
    left : (f q : ℕ) → 1 < 1 + q → q * f ≤ n - (m - 20) + (f - 1) → 0 < f → (1 + q - 2) * f + (m - 20) < n
    left f q more e p =
        let z : 1 + q - 2 ≡ q - 1 = omega arith in
        let w = one_less (n - (m - 20)) f q (omega arith) e p in
        rw z (omega (arith, w))

-- where a number of full pieces and a last one carry all, there are no more pieces
pub count_least : (n m k : ℕ) → n ≤ k * (8 * blocks_in m) + (m - 20) → piece_count n m ≤ suc k
unfolding piece_count
count_least n m k few = go (dec_le 1 (8 * blocks_in m))
  where
    go : Dec (1 ≤ 8 * blocks_in m) → 1 + full_above (n - link_room m) (8 * blocks_in m) ≤ suc k
    go (yes p) =
        let f : ℕ = 8 * blocks_in m in
        let less : n - link_room m + (f - 1) < suc k * f = omega (arith, suc-mul k f) in
        omega (arith, (div-lt_iff_lt-mul p).1 less)
    go (no z) = omega (arith, count_small n m (omega arith))

-- there are no more pieces than bytes and blocks
pub count_most : (n m : ℕ) → piece_count n m ≤ 1 + (n + 8 * blocks_in m)
unfolding piece_count
count_most n m = omega (arith, div-le_self (n - link_room m + (8 * blocks_in m - 1)) (8 * blocks_in m))

-- the length of a piece is below the blocks of the payload, or of a full piece
pub length_most : (b behind off n most : ℕ) → b ≤ most → blocks_of n ≤ most → length_at b behind off n ≤ most
length_most b zero off n most h k = omega arith
length_most b (suc behind) off n most h k = h
