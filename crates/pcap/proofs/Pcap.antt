-- Laws of the layout, each over the width.
use mathlib.Core.Path.{◌≡◌, refl, ap, ◌∙◌}
use Prim.Native.Nat.{ℕ, zero, suc, ◌+◌, ◌/◌, ◌^◌, ◌<◌}
use native.Mathlib.Omega.{arith}
use native.Mathlib.Nat.{pow-suc, pow-zero}
use mathlib.Core.List.{List, [], ◌∷◌, ◌++◌}
use lib.ListN.{length, get_or, length-append}
use Rattle.std.specs.Int.{w32, to_le_bytes}
use lib.Seq.{take_at, drop_at}
use Rattle.pcap.specs.Pcap.{le, file_header, record_header, record_bytes}
use Rattle.pcap.specs.Read.{le_value, number}

pub le_length : (k x : ℕ) → length (le k x) ≡ k
le_length zero x = refl
le_length (suc k) x = ap suc (le_length k (x / 256))

-- One law for every width: the bytes stand for the number that they were made of, where the width holds it.
pub le_value_lem : (k x : ℕ) → x < 256 ^ k → le_value (le k x) ≡ x
unfolding le_value
le_value_lem zero x h = omega (arith, pow-zero 256)
le_value_lem (suc k) x h =
    let p = pow-suc 256 k in
    let e : le_value (le k (x / 256)) ≡ x / 256 = le_value_lem k (x / 256) (omega arith) in
    omega arith

-- A number that stands behind p bytes is read back at place p.
pub number_at : (k x : ℕ) (p q : List ℕ) (i : ℕ) → length p ≡ i → x < 256 ^ k → number k i (p ++ (le k x ++ q)) ≡ x
unfolding number
number_at k x p q i h b =
    rw (drop_at p (le k x ++ q) i h, take_at (le k x) q k (le_length k x)) (le_value_lem k x b)

-- The bytes of a number of 32 bits, as the method has them,
pub le_four : (x : ℕ) → to_le_bytes w32 x ≡ le 4 x
le_four x =
    let second : x / 65536 ≡ x / 256 / 256 = omega arith in
    let third : x / 16777216 ≡ x / 256 / 256 / 256 = omega arith in
    rw (second, third)

-- .. and those of a record's header, four by four.
pub header_is : (s u n : ℕ) (a b d : List ℕ) → a ≡ to_le_bytes w32 s → b ≡ to_le_bytes w32 u → d ≡ to_le_bytes w32 n
    → get_or a 0 0 ∷ get_or a 1 0 ∷ get_or a 2 0 ∷ get_or a 3 0 ∷ get_or b 0 0 ∷ get_or b 1 0 ∷ get_or b 2 0 ∷ get_or b 3 0
    ∷ get_or d 0 0 ∷ get_or d 1 0 ∷ get_or d 2 0 ∷ get_or d 3 0 ∷ get_or d 0 0 ∷ get_or d 1 0 ∷ get_or d 2 0 ∷ get_or d 3 0 ∷ [] ≡ record_header s u n
unfolding record_header
header_is s u n a b d p q r = rw (p ∙ le_four s, q ∙ le_four u, r ∙ le_four n)

pub record_header_length : (s u n : ℕ) → length (record_header s u n) ≡ 16
unfolding record_header
record_header_length s u n = refl

pub record_length : (s u : ℕ) (d : List ℕ) → length (record_bytes s u d) ≡ 16 + length d
unfolding record_bytes
record_length s u d = length-append (record_header s u (length d)) d ∙ ap (λ (n : ℕ). n + length d) (record_header_length s u (length d))

pub file_header_length : length file_header ≡ 24
unfolding file_header
file_header_length = refl
