-- A packet's block is its head, the packet, and its tail.
use mathlib.Core.Path.{◌≡◌, refl, sym, ap, ◌∙◌}
use Prim.Native.Nat.{ℕ, zero, suc, ◌+◌, ◌-◌, ◌/◌, ◌%◌, ◌≤◌}
use native.Mathlib.Omega.{arith}
use mathlib.Core.Bool.{true}
use mathlib.Core.List.{List, [], ◌∷◌, ◌++◌, append_assoc}
use lib.ListN.{length, get_or, take, drop, length-append, length-replicate, length-drop}
use lib.Seq.{take_all, length-take-le}
use Rattle.std.specs.Int.{w32, to_le_bytes}
use Rattle.std.specs.Prelude.{Result, Ok, Some}
use Rattle.pkt.specs.Answers.{list_says}
use Rattle.pkt.specs.declared.refusal.ListRefusal.{ListRefusal}
use Rattle.pkt.specs.Written.{zeros}
use Rattle.pcap.specs.Pcap.{le}
use Rattle.pcap.specs.Read.{number}
use Rattle.pcap.proofs.Pcap.{le_four}
use Rattle.reading.specs.Reading.{Next, more_at}
use Rattle.reading.specs.Steps.{recorded_at}
use Rattle.reading.specs.declared.Spot.{Spot}
use Rattle.reading.proofs.Ending.{spot_within}
use Rattle.exporting.specs.Pcapng.{block, micros_of, padding, packet_block}
use Rattle.exporting.specs.Steps.{block_size, packet_head, packet_tail, record_with, step_block}

-- The bytes of a block's head, and those of its tail.
pub head_is : (sec usec n original size : ℕ) (s h l d o : List ℕ) → s ≡ to_le_bytes w32 size → h ≡ to_le_bytes w32 (micros_of sec usec / 4294967296)
    → l ≡ to_le_bytes w32 (micros_of sec usec % 4294967296) → d ≡ to_le_bytes w32 n → o ≡ to_le_bytes w32 original
    → 6 ∷ 0 ∷ 0 ∷ 0 ∷ get_or s 0 0 ∷ get_or s 1 0 ∷ get_or s 2 0 ∷ get_or s 3 0 ∷ 0 ∷ 0 ∷ 0 ∷ 0 ∷ get_or h 0 0 ∷ get_or h 1 0 ∷ get_or h 2 0 ∷ get_or h 3 0
    ∷ get_or l 0 0 ∷ get_or l 1 0 ∷ get_or l 2 0 ∷ get_or l 3 0 ∷ get_or d 0 0 ∷ get_or d 1 0 ∷ get_or d 2 0 ∷ get_or d 3 0
    ∷ get_or o 0 0 ∷ get_or o 1 0 ∷ get_or o 2 0 ∷ get_or o 3 0 ∷ [] ≡ packet_head sec usec n original size
unfolding packet_head
head_is sec usec n original size s h l d o p q r t u = rw (p ∙ le_four _, q ∙ le_four _, r ∙ le_four _, t ∙ le_four _, u ∙ le_four _)

pub tail_bytes : (size : ℕ) (s : List ℕ) → s ≡ to_le_bytes w32 size
    → 0 ∷ 0 ∷ 0 ∷ get_or s 0 0 ∷ get_or s 1 0 ∷ get_or s 2 0 ∷ get_or s 3 0 ∷ [] ≡ packet_tail size
unfolding packet_tail
tail_bytes size s p = rw (p ∙ le_four size)

-- Up to three zeros pad the data.
pub padding_few : (n : ℕ) → padding n ≤ 3
unfolding padding
padding_few n = omega arith

-- A block has 32 bytes beside the data and its padding.
pub size_is : (n : ℕ) → block_size n ≡ 32 + (n + padding n)
unfolding block_size
size_is n = refl

-- The head of a block has 28 bytes.
pub head_length : (sec usec n original size : ℕ) → length (packet_head sec usec n original size) ≡ 28
unfolding packet_head
head_length sec usec n original size = refl

-- The last of three zeros, and a size behind them.
tail_is : (p size : ℕ) → p ≤ 3 → drop (3 - p) (packet_tail size) ≡ zeros p ++ le 4 size
unfolding packet_tail
tail_is zero size h = refl
tail_is (suc zero) size h = refl
tail_is (suc (suc zero)) size h = refl
tail_is (suc (suc (suc zero))) size h = refl
tail_is (suc (suc (suc (suc p)))) size h = absurd (omega arith)

tail_length : (p size : ℕ) → p ≤ 3 → length (drop (3 - p) (packet_tail size)) ≡ p + 4
tail_length p size h = ap length (tail_is p size h) ∙ length-append (zeros p) (le 4 size) ∙ ap (λ (k : ℕ). k + 4) (length-replicate p 0)

-- The tail b of a block of so many bytes, as it is lent from place 3 - z on.
pub tail_lent : (z k size : ℕ) (b : List ℕ) → z ≡ k → b ≡ packet_tail size → take (7 - (3 - z)) (drop (3 - z) b) ≡ drop (3 - k) (packet_tail size)
unfolding packet_tail
tail_lent z k size b e f = rw (e, f) (take_all (7 - (3 - k)) (drop (3 - k) (packet_tail size)) (omega (arith, length-drop (3 - k) (packet_tail size))))

-- The data and its padding.
data_length : (d : List ℕ) → length (d ++ zeros (padding (length d))) ≡ length d + padding (length d)
data_length d = length-append d (zeros (padding (length d))) ∙ ap (λ (k : ℕ). length d + k) (length-replicate (padding (length d)) 0)

-- A block, in the order in which it is written.
pub block_is : (sec usec original : ℕ) (d : List ℕ)
    → (packet_head sec usec (length d) original (block_size (length d)) ++ d) ++ drop (3 - padding (length d)) (packet_tail (block_size (length d)))
    ≡ packet_block (record_with sec usec original d)
unfolding packet_block block packet_head
block_is sec usec original d =
    let n : ℕ = length d in
    let k : ℕ = block_size n in
    let z : List ℕ = zeros (padding n) in
    let head : ℕ → List ℕ = packet_head sec usec n original in
    let body : List ℕ = drop 8 (head k) ++ (d ++ z) in
    let total : k ≡ 12 + length body = omega (arith, size_is n, data_length d) in
    append_assoc (head k) d (drop (3 - padding n) (packet_tail k))
    ∙ ap (λ (t : List ℕ). head k ++ (d ++ t)) (tail_is (padding n) k (padding_few n))
    ∙ ap (λ (t : List ℕ). head k ++ t) (sym (append_assoc d z (le 4 k)))
    ∙ ap (λ (m : ℕ). head m ++ ((d ++ z) ++ le 4 m)) total

-- A block has as many bytes as it says.
pub block_length : (sec usec original : ℕ) (d : List ℕ) → length (packet_block (record_with sec usec original d)) ≡ block_size (length d)
block_length sec usec original d =
    let n : ℕ = length d in
    let h : List ℕ = packet_head sec usec n original (block_size n) in
    let t : List ℕ = drop (3 - padding n) (packet_tail (block_size n)) in
    ap length (sym (block_is sec usec original d))
    ∙ length-append (h ++ d) t
    ∙ omega (arith, length-append h d, head_length sec usec n original (block_size n), tail_length (padding n) (block_size n) (padding_few n), size_is n)

-- ---- the record that a step found

-- The block of the step is that of the record.
pub step_laid : (l : List ℕ) (step : Result Next ListRefusal) (o : Next) (s : Spot) → step ≡ Ok o → o ≡ Some s
    → step_block l (list_says step) ≡ packet_block (recorded_at l s)
step_laid l step o s p q = rw (p, q)

-- As it is lent, it is the record.
pub lent_record : (l : List ℕ) (s : Spot) → record_with s.sec s.usec s.original (take (s.start + s.len - s.start) (drop s.start l)) ≡ recorded_at l s
lent_record l s =
    let e : s.start + s.len - s.start ≡ s.len = omega arith in
    ap (λ (n : ℕ). record_with s.sec s.usec s.original (take n (drop s.start l))) e

-- A whole record at a place, as it is lent, is as long as it says.
pub here_length : (l : List ℕ) (at : ℕ) → more_at l at ≡ true → length (take (number 4 8 (drop at l)) (drop (at + 16) l)) ≡ number 4 8 (drop at l)
here_length l at more =
    length-take-le (number 4 8 (drop at l)) (drop (at + 16) l) (omega (arith, length-drop (at + 16) l, (spot_within l at more).0))
