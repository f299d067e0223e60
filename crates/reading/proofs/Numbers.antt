-- Laws of little-endian numbers in bytes.
use Rattle.std.proofs.Common.{◌≡◌, ℕ, suc, ◌+◌, ◌*◌, ◌<◌, ◌≤◌, List, length, get_or, take, drop, ap, add-one, arith, drop-cons, drop-drop}
use native.Mathlib.Numerals.{add-two}
use Rattle.pcap.specs.Read.{le_value, number}

-- four bytes
pub number_four : (l : List ℕ) (at : ℕ) → at + 4 ≤ length l
    → number 4 at l ≡ get_or l at 0 + get_or l (at + 1) 0 * 256 + get_or l (at + 2) 0 * 65536 + get_or l (at + 3) 0 * 16777216
unfolding number le_value
number_four l at h =
    let h₀ : at < length l = omega arith in
    let h₁ : suc at < length l = omega arith in
    let h₂ : suc (suc at) < length l = omega arith in
    let h₃ : suc (suc (suc at)) < length l = omega arith in
    let three : at + 3 ≡ suc (suc (suc at)) = omega arith in
    rw (three, add-two, add-one, drop-cons l at 0, drop-cons l (suc at) 0, drop-cons l (suc (suc at)) 0, drop-cons l (suc (suc (suc at))) 0) (omega arith)

-- a number behind the first bytes
pub number_behind : (k i at : ℕ) (l : List ℕ) → number k i (drop at l) ≡ number k (at + i) l
unfolding number
number_behind k i at l = ap (λ (t : List ℕ). le_value (take k t)) (drop-drop i at l)
