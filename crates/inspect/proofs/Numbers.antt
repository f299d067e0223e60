-- Laws of numbers in the bytes of a packet.
use mathlib.Core.Path.{◌≡◌, refl, sym, ap, ◌∙◌}
use Prim.Native.Nat.{ℕ, zero, suc, ◌+◌, ◌*◌, ◌^◌, ◌≤◌, ◌<◌}
use native.Mathlib.Omega.{arith}
use native.Mathlib.Nat.{one-le-pow, pow-succ', mul_assoc, lt_of_lt_of_le, mul-le-mul_left, mul-le-mul_right}
use native.Mathlib.Numerals.{add-one, add-two}
use mathlib.Core.List.{List, [], ◌∷◌, ◌++◌}
use lib.ListN.{length, get_or, take, drop, length-drop, take-append-drop}
use lib.Seq.{drop-cons, get_or-drop, length-take-le, take-append-le, drop-append-le}
use Rattle.pkt.specs.Fields.{value, Bytes}
use Rattle.inspect.specs.Header.{field_at}

-- one byte, also past the end
pub field_one : (l : List ℕ) (at : ℕ) → field_at l at 1 ≡ get_or l at 0
unfolding field_at value
field_one [] zero = refl
field_one [] (suc at) = refl
field_one (a ∷ l) zero = omega arith
field_one (a ∷ l) (suc at) = field_one l at

-- two bytes
pub field_two : (l : List ℕ) (at : ℕ) → at + 2 ≤ length l → field_at l at 2 ≡ get_or l at 0 * 256 + get_or l (at + 1) 0
unfolding field_at value
field_two l at h =
    let h₀ : at < length l = omega arith in
    let h₁ : suc at < length l = omega arith in
    rw (add-one, drop-cons l at 0, drop-cons l (suc at) 0) (omega arith)

-- four bytes are two times two
pub field_four : (l : List ℕ) (at : ℕ) → at + 4 ≤ length l → field_at l at 4 ≡ field_at l at 2 * 65536 + field_at l (at + 2) 2
unfolding field_at value
field_four l at h =
    let h₀ : at < length l = omega arith in
    let h₁ : suc at < length l = omega arith in
    let h₂ : suc (suc at) < length l = omega arith in
    let h₃ : suc (suc (suc at)) < length l = omega arith in
    rw (add-two, drop-cons l at 0, drop-cons l (suc at) 0, drop-cons l (suc (suc at)) 0, drop-cons l (suc (suc (suc at))) 0) (omega arith)

-- A number in k bytes is below 256 ^ k.
value_below : (k acc : ℕ) (l : List ℕ) → Bytes l → value acc (take k l) < (acc + 1) * 256 ^ k
unfolding value
value_below zero acc l b = omega arith
value_below (suc k) acc [] b =
    omega (arith, mul-le-mul_left (acc + 1) (one-le-pow (suc k) 256 (omega arith)))
value_below (suc k) acc (x ∷ l) b =
    let most : acc * 256 + x + 1 ≤ (acc + 1) * 256 = omega (arith, b 0) in
    let e : (acc + 1) * 256 ^ suc k ≡ (acc + 1) * 256 * 256 ^ k = rw (pow-succ' 256 k) (sym (mul_assoc (acc + 1) 256 (256 ^ k))) in
    rw e (lt_of_lt_of_le (value_below k (acc * 256 + x) l (λ i. b (suc i))) (mul-le-mul_right (256 ^ k) most))

-- Bytes of a part are bytes.
pub take_bytes : (n : ℕ) (l : List ℕ) → Bytes l → Bytes (take n l)
take_bytes zero l b i = omega arith
take_bytes (suc n) [] b i = omega arith
take_bytes (suc n) (a ∷ l) b zero = b 0
take_bytes (suc n) (a ∷ l) b (suc i) = take_bytes n l (λ j. b (suc j)) i

pub drop_bytes : (n : ℕ) (l : List ℕ) → Bytes l → Bytes (drop n l)
drop_bytes n l b i = rw (get_or-drop n l i 0) (b (n + i))

pub field_below : (at k : ℕ) (l : List ℕ) → Bytes l → field_at l at k < 256 ^ k
unfolding field_at
field_below at k l b = omega (arith, value_below k 0 (drop at l) (drop_bytes at l b))

-- k bytes within the first ones, whatever is behind those
part_append : (at k : ℕ) (l r : List ℕ) → at + k ≤ length l → take k (drop at (l ++ r)) ≡ take k (drop at l)
part_append at k l r h =
    let a : at ≤ length l = omega arith in
    let b : k ≤ length (drop at l) = omega (arith, length-drop at l) in
    rw (drop-append-le at l r a, take-append-le k (drop at l) r b)

pub part_front : (at k n : ℕ) (l r : List ℕ) → at + k ≤ n → n ≤ length l → take k (drop at (take n l ++ r)) ≡ take k (drop at l)
part_front at k n l r h m =
    let t : at + k ≤ length (take n l) = omega (arith, length-take-le n l m) in
    part_append at k (take n l) r t
    ∙ sym (part_append at k (take n l) (drop n l) t)
    ∙ ap (λ (s : List ℕ). take k (drop at s)) (take-append-drop n l)

pub field_front : (at k n : ℕ) (l r : List ℕ) → at + k ≤ n → n ≤ length l → field_at (take n l ++ r) at k ≡ field_at l at k
unfolding field_at
field_front at k n l r h m = ap (value 0) (part_front at k n l r h m)
