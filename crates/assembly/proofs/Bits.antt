-- The bits of one byte: after an `or`, of a power of two, of a byte of ones; and that they tell the byte.
use mathlib.Core.Path.{◌≡◌, refl, ap}
use mathlib.Core.Logic.{◌≢◌}
use Prim.Native.Nat.{ℕ, zero, suc, ◌*◌, ◌-◌, ◌^◌, ◌/◌, ◌%◌, ◌<◌, max}
use native.Mathlib.Nat.{div-one, div-div-eq-div-mul, pow-succ', zero-div}
use native.Mathlib.Omega.{arith}
use lib.Bits.{bit_or, or_step, or_shr}
use lib.Pow.{pow_pos, pow-lt}

pub or_bit : (x y k : ℕ) → bit_or x y / 2 ^ k % 2 ≡ max (x / 2 ^ k % 2) (y / 2 ^ k % 2)
or_bit x y k = rw or_shr (omega (arith, or_step (x / 2 ^ k) (y / 2 ^ k)))

half_shift : (x k : ℕ) → x / 2 ^ suc k ≡ x / 2 / 2 ^ k
half_shift x k = rw (pow-succ', ← div-div-eq-div-mul x 2 (2 ^ k))

two_half : (n : ℕ) → 2 * n / 2 ≡ n
two_half n = omega arith

pub pow_bit_same : (k : ℕ) → 2 ^ k / 2 ^ k % 2 ≡ 1
pow_bit_same zero = refl
pow_bit_same (suc k) = rw (half_shift, pow-succ', two_half) (pow_bit_same k)

pub pow_bit_other : (j k : ℕ) → j ≢ k → 2 ^ j / 2 ^ k % 2 ≡ 0
pow_bit_other zero zero h = absurd (h refl)
pow_bit_other zero (suc k) h = rw (half_shift, zero-div) refl
pow_bit_other (suc j) zero h = rw (div-one, pow-succ') (omega arith)
pow_bit_other (suc j) (suc k) h = rw (half_shift, pow-succ' 2 j, two_half) (pow_bit_other j k (λ e. h (ap suc e)))

-- every bit of k ones is 1
pub ones_bit : (k j : ℕ) → j < k → (2 ^ k - 1) / 2 ^ j % 2 ≡ 1
ones_bit zero j h = absurd (omega arith)
ones_bit (suc k) zero h = rw (div-one, pow-succ') (omega (arith, pow_pos k))
ones_bit (suc k) (suc j) h =
    let e : (2 ^ suc k - 1) / 2 ≡ 2 ^ k - 1 = rw pow-succ' (omega (arith, pow_pos k)) in
    rw (half_shift, e) (ones_bit k j (omega arith))

pub byte_ext : (k x y : ℕ) → x < 2 ^ k → y < 2 ^ k → ((b : ℕ) → b < k → x / 2 ^ b % 2 ≡ y / 2 ^ b % 2) → x ≡ y
byte_ext zero x y hx hy h = omega arith
byte_ext (suc k) x y hx hy h =
    let lo : x % 2 ≡ y % 2 = omega (arith, h 0 (omega arith)) in
    let hi : x / 2 ≡ y / 2 =
    byte_ext k (x / 2) (y / 2) (omega arith) (omega arith)
    (λ b hb. rw (← half_shift x b, ← half_shift y b) (h (suc b) (omega arith)))
    in
    omega arith

-- 1 shifted left within a byte
pub shifted : (k : ℕ) → 1 * 2 ^ (k % 8) % 256 ≡ 2 ^ (k % 8)
shifted k = omega (arith, pow-lt {i = k % 8} {j = 8} (omega arith))
