-- Marking and reading the map: block by block, and eight blocks that fill a byte as that byte.
use mathlib.Core.Path.{◌≡◌, refl, sym, ap, ◌∙◌}
use mathlib.Core.Logic.{◌≢◌}
use mathlib.Core.Bool.{true, false}
use mathlib.Core.List.{List, [], ◌∷◌}
use Prim.Native.Nat.{ℕ, zero, suc, ◌+◌, ◌*◌, ◌-◌, ◌^◌, ◌/◌, ◌%◌, ◌≤◌, ◌<◌}
use native.Mathlib.Nat.{zero-div}
use native.Mathlib.Decide.{ℕ_discrete, dec_lt}
use native.Mathlib.Omega.{arith}
use lib.ListN.{length, get_or, set, replicate, length-set, length-replicate, get_or-replicate, get_or-eq_default}
use lib.Seq.{sets, get_or-set_same, get_or-set_other, ext_get_or}
use lib.Bits.{bit_or, or_lt}
use lib.Pow.{pow_pos, pow-lt}
use borrow.Author.Tests.{eqb-true, eq-eqb}
use lib.Dec.{eqb}
use Rattle.assembly.specs.Map.{block_bit, set_bit, mark, marked}
use Rattle.pkt.proofs.Choice.{and_both, both, fails}
use Rattle.assembly.proofs.Bits.{or_bit, pow_bit_same, pow_bit_other, ones_bit, byte_ext}
use Rattle.pkt.specs.Written.{zeros}

-- a list of M bytes
pub record IsMap (M : ℕ) (m : List ℕ) : Type 0 where
  pub size : length m ≡ M
  pub bytes : (i : ℕ) → get_or m i 0 < 2 ^ 8

-- ---- one block
bit_set_same : (m : List ℕ) (k : ℕ) → k / 8 < length m → block_bit (set_bit m k) k ≡ 1
unfolding block_bit set_bit
bit_set_same m k h =
    rw (get_or-set_same m (k / 8) (bit_or (get_or m (k / 8) 0) (2 ^ (k % 8))) 0 h, or_bit, pow_bit_same)
    (omega arith)

bit_set_other : (m : List ℕ) (k j : ℕ) → k / 8 < length m → j ≢ k → block_bit (set_bit m k) j ≡ block_bit m j
unfolding block_bit set_bit
bit_set_other m k j h ne = go (ℕ_discrete (j / 8) (k / 8))
  where
    go : Dec (j / 8 ≡ k / 8) → block_bit (set_bit m k) j ≡ block_bit m j
    go (yes e) =
        rw (e, get_or-set_same m (k / 8) (bit_or (get_or m (k / 8) 0) (2 ^ (k % 8))) 0 h, or_bit, pow_bit_other (k % 8) (j % 8) (λ q. ne (omega arith)))
        (omega arith)
    go (no n) = rw (get_or-set_other m (k / 8) (j / 8) (bit_or (get_or m (k / 8) 0) (2 ^ (k % 8))) 0 n)

get_d_set_bound : (B : ℕ) (l : List ℕ) (i v : ℕ) → v < B → ((j : ℕ) → get_or l j 0 < B) → (j : ℕ) → get_or (set l i v) j 0 < B
get_d_set_bound B [] i v hv h j = h j
get_d_set_bound B (x ∷ xs) zero v hv h zero = hv
get_d_set_bound B (x ∷ xs) zero v hv h (suc j) = h (suc j)
get_d_set_bound B (x ∷ xs) (suc i) v hv h zero = h zero
get_d_set_bound B (x ∷ xs) (suc i) v hv h (suc j) = get_d_set_bound B xs i v hv (λ k. h (suc k)) j

map_byte : (M : ℕ) (m : List ℕ) (i v : ℕ) → v < 2 ^ 8 → IsMap M m → IsMap M (set m i v)
map_byte M m i v hv im = record { size = rw length-set im.size; bytes = get_d_set_bound (2 ^ 8) m i v hv im.bytes }

map_set : (M : ℕ) (m : List ℕ) (k : ℕ) → IsMap M m → IsMap M (set_bit m k)
unfolding set_bit
map_set M m k im = map_byte M m (k / 8) _ (or_lt 8 _ _ (im.bytes (k / 8)) (pow-lt {i = k % 8} {j = 8} (omega arith))) im

-- ---- a run of blocks
pub map_mark : (M : ℕ) (m : List ℕ) (k n : ℕ) → IsMap M m → IsMap M (mark m k n)
unfolding mark
map_mark M m k zero im = im
map_mark M m k (suc n) im = map_mark M (set_bit m k) (suc k) n (map_set M m k im)

-- out of the run nothing changes
pub bit_mark_out : (M : ℕ) (m : List ℕ) (k n j : ℕ) → IsMap M m → k + n ≤ 8 * M → (k ≤ j → k + n ≤ j) → block_bit (mark m k n) j ≡ block_bit m j
unfolding mark
bit_mark_out M m k zero j im fits out = refl
bit_mark_out M m k (suc n) j im fits out =
    bit_mark_out M (set_bit m k) (suc k) n j (map_set M m k im) (omega arith) (λ h. omega (arith, out (omega arith)))
    ∙ bit_set_other m k j (rw im.size (omega arith)) (λ e. omega (arith, out (omega arith)))

-- in the run all is marked
pub bit_mark_in : (M : ℕ) (m : List ℕ) (k n j : ℕ) → IsMap M m → k + n ≤ 8 * M → k ≤ j → j < k + n → block_bit (mark m k n) j ≡ 1
unfolding mark
bit_mark_in M m k zero j im fits lo hi = absurd (omega arith)
bit_mark_in M m k (suc n) j im fits lo hi =
    go (λ h. bit_mark_in M (set_bit m k) (suc k) n j (map_set M m k im) (omega arith) h (omega arith)) (ℕ_discrete j k)
  where
    go : (suc k ≤ j → block_bit (mark (set_bit m k) (suc k) n) j ≡ 1) → Dec (j ≡ k) → block_bit (mark (set_bit m k) (suc k) n) j ≡ 1
    go below (yes e) =
        rw e
        (bit_mark_out M (set_bit m k) (suc k) n k (map_set M m k im) (omega arith) (λ h. absurd (omega arith))
        ∙ bit_set_same m k (rw im.size (omega arith)))
    go below (no ne) = below (omega arith)

-- ---- the bits tell the map
pub map_ext : (M : ℕ) (m m' : List ℕ) → IsMap M m → IsMap M m' → ((k : ℕ) → block_bit m k ≡ block_bit m' k) → m ≡ m'
unfolding block_bit
map_ext M m m' im im' h =
    ext_get_or 0 m m' (im.size ∙ sym im'.size)
    (λ i hi. byte_ext 8 (get_or m i 0) (get_or m' i 0) (im.bytes i) (im'.bytes i) (λ b hb. at i b hb))
  where
    at : (i b : ℕ) → b < 8 → get_or m i 0 / 2 ^ b % 2 ≡ get_or m' i 0 / 2 ^ b % 2
    at i b hb =
        let q : (8 * i + b) / 8 ≡ i = omega arith in
        let r : (8 * i + b) % 8 ≡ b = omega arith in
        rw (q, r) at (h (8 * i + b))

-- ---- the map with no block marked
pub get_d_zeros : (n i : ℕ) → get_or (zeros n) i 0 ≡ 0
get_d_zeros n i = go (dec_lt i n)
  where
    go : Dec (i < n) → get_or (zeros n) i 0 ≡ 0
    go (yes h) = get_or-replicate n i 0 0 h
    go (no h) = get_or-eq_default (zeros n) 0 (rw length-replicate (omega arith))

pub map_zeros : (M : ℕ) → IsMap M (zeros M)
map_zeros M = record { size = length-replicate M 0; bytes = λ i. rw get_d_zeros (pow_pos 8) }

pub bit_zeros : (M k : ℕ) → block_bit (zeros M) k ≡ 0
unfolding block_bit
bit_zeros M k = rw (get_d_zeros, zero-div) refl

-- ---- marking goes on where it stands
pub mark_left : (m : List ℕ) (k to : ℕ) → k < to → mark m k (to - k) ≡ mark (set_bit m k) (k + 1) (to - (k + 1))
unfolding mark
mark_left m k to h =
    let e : k + 1 ≡ suc k = omega arith in
    let f : to - k ≡ suc (to - (k + 1)) = omega arith in
    rw (f, e) refl

pub mark_done : (m : List ℕ) (k to : ℕ) → to ≤ k → mark m k (to - k) ≡ m
unfolding mark
mark_done m k to h = let e : to - k ≡ 0 = omega arith in rw e refl

-- as many blocks as lie from k up to k + n
pub mark_run : (m : List ℕ) (k n : ℕ) → mark m k (k + n - k) ≡ mark m k n
mark_run m k n = let e : k + n - k ≡ n = omega arith in rw e refl

mark_add : (m : List ℕ) (k a b : ℕ) → mark m k (a + b) ≡ mark (mark m k a) (k + a) b
unfolding mark
mark_add m k zero b =
    let e : zero + b ≡ b = omega arith in
    let f : k + zero ≡ k = omega arith in
    rw (e, f) refl
mark_add m k (suc a) b =
    let e : suc a + b ≡ suc (a + b) = omega arith in
    let f : k + suc a ≡ suc k + a = omega arith in
    rw (e, f) (mark_add (set_bit m k) (suc k) a b)

-- ---- eight blocks that fill a byte
bit_full_same : (m : List ℕ) (i j : ℕ) → i < length m → j / 8 ≡ i → block_bit (set m i 255) j ≡ 1
unfolding block_bit
bit_full_same m i j h e = rw (e, get_or-set_same m i 255 0 h) (ones_bit 8 (j % 8) (omega arith))

bit_full_other : (m : List ℕ) (i j : ℕ) → j / 8 ≢ i → block_bit (set m i 255) j ≡ block_bit m j
unfolding block_bit
bit_full_other m i j ne = rw (get_or-set_other m i (j / 8) 255 0 ne)

mark_byte : (M : ℕ) (m : List ℕ) (i : ℕ) → IsMap M m → i < M → mark m (8 * i) 8 ≡ set m i 255
mark_byte M m i im h =
    map_ext M (mark m (8 * i) 8) (set m i 255) (map_mark M m (8 * i) 8 im) (map_byte M m i 255 (omega arith) im)
    (λ j. go j (ℕ_discrete (j / 8) i))
  where
    go : (j : ℕ) → Dec (j / 8 ≡ i) → block_bit (mark m (8 * i) 8) j ≡ block_bit (set m i 255) j
    go j (yes e) =
        bit_mark_in M m (8 * i) 8 j im (omega arith) (omega arith) (omega arith)
        ∙ sym (bit_full_same m i j (rw im.size h) e)
    go j (no ne) =
        bit_mark_out M m (8 * i) 8 j im (omega arith) (λ lo. past (dec_lt j (8 * i + 8)) lo)
        ∙ sym (bit_full_other m i j ne)
      where
        past : Dec (j < 8 * i + 8) → 8 * i ≤ j → 8 * i + 8 ≤ j
        past (yes y) lo = absurd (ne (omega arith))
        past (no z) lo = omega arith

mark_bytes : (M : ℕ) (m : List ℕ) (i n : ℕ) → IsMap M m → i + n ≤ M → mark m (8 * i) (8 * n) ≡ sets m i (replicate n 255)
unfolding mark
mark_bytes M m i zero im h = refl
mark_bytes M m i (suc n) im h =
    let e : 8 * suc n ≡ 8 + 8 * n = omega arith in
    let f : 8 * i + 8 ≡ 8 * suc i = omega arith in
    let g : mark m (8 * i) 8 ≡ set m i 255 = mark_byte M m i im (omega arith) in
    rw e
    (mark_add m (8 * i) 8 (8 * n)
    ∙ rw (f, g) (mark_bytes M (set m i 255) (suc i) n (map_byte M m i 255 (omega arith) im) (omega arith)))

-- the blocks up to a byte's first, the bytes that are filled, and the blocks behind them
pub mark_parts : (M : ℕ) (m : List ℕ) (k to i j : ℕ) → IsMap M m → k ≤ 8 * i → i ≤ j → 8 * j ≤ to → to ≤ 8 * M
    → mark (sets (mark m k (8 * i - k)) i (replicate (j - i) 255)) (8 * j) (to - 8 * j) ≡ mark m k (to - k)
mark_parts M m k to i j im h₁ h₂ h₃ h₄ =
    let a : k + (8 * i - k) ≡ 8 * i = omega arith in
    let b : 8 * i + 8 * (j - i) ≡ 8 * j = omega arith in
    let c : 8 * i - k + (8 * (j - i) + (to - 8 * j)) ≡ to - k = omega arith in
    let s : mark (mark m k (8 * i - k)) (8 * i) (8 * (j - i)) ≡ sets (mark m k (8 * i - k)) i (replicate (j - i) 255) =
    mark_bytes M (mark m k (8 * i - k)) i (j - i) (map_mark M m k (8 * i - k) im) (omega arith)
    in
    sym
    (ap (λ (n : ℕ). mark m k n) (sym c)
    ∙ mark_add m k (8 * i - k) (8 * (j - i) + (to - 8 * j))
    ∙ rw a (mark_add (mark m k (8 * i - k)) (8 * i) (8 * (j - i)) (to - 8 * j) ∙ rw (b, s) refl))

-- ---- the first n blocks
pub marked_true : (m : List ℕ) (n : ℕ) → marked m n ≡ true → (k : ℕ) → k < n → block_bit m k ≡ 1
unfolding marked
marked_true m zero e k h = absurd (omega arith)
marked_true m (suc n) e k h = go (marked_true m n (and_both (eqb (block_bit m n) 1) (marked m n) e).1 k) (ℕ_discrete k n)
  where
    go : (k < n → block_bit m k ≡ 1) → Dec (k ≡ n) → block_bit m k ≡ 1
    go below (yes q) = rw q (eqb-true _ _ (and_both (eqb (block_bit m n) 1) (marked m n) e).0)
    go below (no ne) = below (omega arith)

pub marked_of : (m : List ℕ) (n : ℕ) → ((k : ℕ) → k < n → block_bit m k ≡ 1) → marked m n ≡ true
unfolding marked
marked_of m zero h = refl
marked_of m (suc n) h = rw (eq-eqb (block_bit m n) 1 (h n (omega arith))) (marked_of m n (λ k hk. h k (omega arith)))

pub marked_none : (m : List ℕ) → marked m 0 ≡ true
unfolding marked
marked_none m = refl

-- one block more
pub marked_next : (m : List ℕ) (k : ℕ) → marked m k ≡ true → eqb (block_bit m k) 1 ≡ true → marked m (k + 1) ≡ true
unfolding marked
marked_next m k e b = let f : k + 1 ≡ suc k = omega arith in rw (f, b) e

-- a block that is not marked
pub marked_stop : (m : List ℕ) (k n : ℕ) → k < n → eqb (block_bit m k) 1 ≡ false → marked m n ≡ false
marked_stop m k n h b =
    fails (marked m n) (λ e. both (eq-eqb (block_bit m k) 1 (marked_true m n e k h)) b)

-- fewer blocks are not all marked
pub marked_before : (m : List ℕ) (k n : ℕ) → k ≤ n → marked m k ≡ false → marked m n ≡ false
marked_before m k n h e = fails (marked m n) (λ t. both (marked_of m k (λ j hj. marked_true m n t j (omega arith))) e)

-- a byte of ones: eight blocks more
pub full_next : (m : List ℕ) (i : ℕ) → marked m (8 * i) ≡ true → get_or m i 0 ≡ 255 → marked m (8 * (i + 1)) ≡ true
unfolding block_bit
full_next m i e v = marked_of m (8 * (i + 1)) (λ k hk. go k hk (dec_lt k (8 * i)))
  where
    go : (k : ℕ) → k < 8 * (i + 1) → Dec (k < 8 * i) → block_bit m k ≡ 1
    go k hk (yes h) = marked_true m (8 * i) e k h
    go k hk (no h) = let q : k / 8 ≡ i = omega arith in rw (q, v) (ones_bit 8 (k % 8) (omega arith))

-- any other byte
pub full_stop : (m : List ℕ) (i n : ℕ) → i < n → get_or m i 0 < 2 ^ 8 → (get_or m i 0 ≡ 255 → ⊥) → marked m (8 * n) ≡ false
unfolding block_bit
full_stop m i n h b ne = fails (marked m (8 * n)) (λ e. ne (byte_ext 8 (get_or m i 0) 255 b (omega arith) (λ j hj. at e j hj)))
  where
    at : marked m (8 * n) ≡ true → (j : ℕ) → j < 8 → get_or m i 0 / 2 ^ j % 2 ≡ 255 / 2 ^ j % 2
    at e j hj =
        let q : (8 * i + j) / 8 ≡ i = omega arith in
        let r : (8 * i + j) % 8 ≡ j = omega arith in
        rw (q, r) at (marked_true m (8 * n) e (8 * i + j) (omega arith)) ∙ sym (ones_bit 8 j hj)
