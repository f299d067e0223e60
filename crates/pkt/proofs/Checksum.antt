-- Laws of the checksum's definition.
use Rattle.std.proofs.Common.{◌≡◌, ℕ, zero, suc, ◌+◌, ◌-◌, ◌*◌, ◌/◌, ◌%◌, ◌<◌, ◌≤◌, List, [], ◌∷◌, ◌++◌, length, get_or, drop, sym, refl, ap, ◌∙◌, add-one, arith, length-drop, drop_of_length-le, drop-cons, drop-drop}
use native.Mathlib.Numerals.{add-two}
use Rattle.pkt.proofs.Bytes.{bytes_append}
use Rattle.pkt.proofs.Fields.{be_bytes}
use Rattle.pkt.specs.Fields.{be, Bytes}
use Rattle.pkt.specs.Rfc768.{nonzero}
use Rattle.pkt.specs.Rfc1071.{words, plus, sum, checksum, Verifies}
use Rattle.pkt.specs.Sums.{total, canon, four_words}

pub canon_small : (n : ℕ) → n ≤ 65535 → canon n ≡ n
unfolding canon
canon_small zero h = refl
canon_small (suc n) h = omega arith

pub canon_most : (n : ℕ) → canon n ≤ 65535
unfolding canon
canon_most zero = omega arith
canon_most (suc n) = omega arith

-- a positive number, by its remainder
canon_pos : (n : ℕ) → 0 < n → canon n ≡ (n - 1) % 65535 + 1
unfolding canon
canon_pos zero h = omega arith
canon_pos (suc n) h = omega arith

fold_pos : (n : ℕ) → 0 < n → 0 < n % 65536 + n / 65536
fold_pos n h = omega arith

fold_mod : (n : ℕ) → 0 < n → (n % 65536 + n / 65536 - 1) % 65535 ≡ (n - 1) % 65535
fold_mod n h = omega arith

pub canon_fold : (n : ℕ) → canon (n % 65536 + n / 65536) ≡ canon n
canon_fold zero = refl
canon_fold (suc n) =
    let h : 0 < suc n = omega arith in
    canon_pos (suc n % 65536 + suc n / 65536) (fold_pos (suc n) h) ∙ ap (λ (k : ℕ). k + 1) (fold_mod (suc n) h) ∙ sym (canon_pos (suc n) h)

-- ---- the plain sum from an index on

pub total_two : (l : List ℕ) (i : ℕ) → i + 1 < length l
    → total (drop i l) ≡ get_or l i 0 * 256 + get_or l (i + 1) 0 + total (drop (i + 2) l)
unfolding total
total_two l i h =
    let h₀ : i < length l = omega arith in
    let h₁ : suc i < length l = omega arith in
    rw (add-one, add-two, drop-cons l i 0, drop-cons l (suc i) 0)

pub total_one : (l : List ℕ) (i : ℕ) → i + 1 ≡ length l → total (drop i l) ≡ get_or l i 0 * 256
unfolding total
total_one l i h =
    let e : drop (suc i) l ≡ [] = drop_of_length-le l {i = suc i} (omega arith) in
    let k : i < length l = omega arith in
    rw (drop-cons l i 0, e)

pub total_none : (l : List ℕ) (i : ℕ) → length l ≤ i → total (drop i l) ≡ 0
unfolding total
total_none l i h = rw drop_of_length-le

-- ---- the sum that carries, of bytes

pub canon_add : (a n : ℕ) → canon (a + canon n) ≡ canon (a + n)
unfolding canon
canon_add a zero = refl
canon_add a (suc n) =
    let e : (a + suc (n % 65535) - 1) % 65535 ≡ (a + suc n - 1) % 65535 = omega arith in
    canon_pos (a + suc (n % 65535)) (omega arith) ∙ ap (λ (k : ℕ). k + 1) e ∙ sym (canon_pos (a + suc n) (omega arith))

pub plus_canon : (a n : ℕ) → a ≤ 65535 → plus a (canon n) ≡ canon (a + n)
unfolding plus
plus_canon a n h =
    sym (canon_small _ (omega (arith, canon_most n))) ∙ canon_fold (a + canon n) ∙ canon_add a n

-- numbers that fold alike do so under a sum
pub canon_both : (a a' b b' : ℕ) → canon a ≡ canon a' → canon b ≡ canon b' → canon (a + b) ≡ canon (a' + b')
canon_both a a' b b' ha hb =
    let s : a + b' ≡ b' + a = omega arith in
    let t : b' + a' ≡ a' + b' = omega arith in
    sym (canon_add a b) ∙ ap (λ (k : ℕ). canon (a + k)) hb ∙ canon_add a b' ∙ ap canon s ∙ sym (canon_add b' a) ∙ ap (λ (k : ℕ). canon (b' + k)) ha
    ∙ canon_add b' a' ∙ ap canon t

-- folded once, a number folds no further
pub canon_twice : (n : ℕ) → canon (canon n) ≡ canon n
canon_twice n = canon_small (canon n) (canon_most n)

-- of numbers that fold alike, and beside a third
pub plus_canons : (a b : ℕ) → plus (canon a) (canon b) ≡ canon (a + b)
plus_canons a b =
    let s : canon a + b ≡ b + canon a = omega arith in
    let t : b + a ≡ a + b = omega arith in
    plus_canon (canon a) b (canon_most a) ∙ ap canon s ∙ canon_add b a ∙ ap canon t

pub canon_plus : (a b n : ℕ) → canon (plus a b + n) ≡ canon (a + b + n)
unfolding plus
canon_plus a b n = canon_both ((a + b) % 65536 + (a + b) / 65536) (a + b) n n (canon_fold (a + b)) refl

pub canon_sum : (a b : ℕ) → canon (plus a b) ≡ canon (a + b)
unfolding plus
canon_sum a b = canon_fold (a + b)

pub plus_small : (a b : ℕ) → a ≤ 65535 → b ≤ 65535 → plus a b ≡ canon (a + b)
plus_small a b ha hb = ap (plus a) (sym (canon_small b hb)) ∙ plus_canon a b ha

pub sum_total : (l : List ℕ) → Bytes l → sum (words l) ≡ canon (total l)
unfolding sum words total canon
sum_total [] h = refl
sum_total (a ∷ []) h =
    let e : a * 256 + 0 ≡ a * 256 = omega arith in
    plus_canon (a * 256) 0 (omega (arith, h 0)) ∙ ap canon e
sum_total (a ∷ b ∷ r) h =
    ap (plus (a * 256 + b)) (sum_total r (λ i. h (suc (suc i)))) ∙ plus_canon (a * 256 + b) (total r) (omega (arith, h 0, h 1))

pub checksum_total : (l : List ℕ) → Bytes l → checksum l ≡ 65535 - canon (total l)
unfolding checksum
checksum_total l h = ap (λ (k : ℕ). 65535 - k) (sum_total l h)

-- ---- parts

even_less : (n : ℕ) → suc (suc n) % 2 ≡ 0 → n % 2 ≡ 0
even_less n h = omega arith

-- The plain sum of two parts, of which the first has an even length.
pub total_append : (a b : List ℕ) → length a % 2 ≡ 0 → total (a ++ b) ≡ total a + total b
unfolding total
total_append [] b h = omega arith
total_append (x ∷ []) b h = omega arith
total_append (x ∷ y ∷ a) b h = omega (arith, total_append a b (even_less (length a) h))

-- What is left to 65535 makes a sum whole.
pub canon_whole : (n : ℕ) → canon (n + (65535 - canon n)) ≡ 65535
unfolding canon
canon_whole zero = refl
canon_whole (suc n) =
    let e : (suc n + (65535 - suc (n % 65535)) - 1) % 65535 ≡ 65534 = omega arith in
    canon_pos (suc n + (65535 - suc (n % 65535))) (omega arith) ∙ ap (λ (k : ℕ). k + 1) e

-- ---- four words

-- the first four, and what is behind them
four_first : (l : List ℕ) → 8 ≤ length l → total l ≡ four_words l + total (drop 8 l)
four_first l h =
    omega (
      arith,
      total_two l 0 (omega arith),
      total_two l 2 (omega arith),
      total_two l 4 (omega arith),
      total_two l 6 (omega arith),
    )

-- .. from an index on
pub four_step : (l : List ℕ) (i : ℕ) → i + 7 < length l → total (drop i l) ≡ four_words (drop i l) + total (drop (i + 8) l)
four_step l i h =
    four_first (drop i l) (omega (arith, length-drop i l)) ∙ ap (λ (r : List ℕ). four_words (drop i l) + total r) (drop-drop 8 i l)

-- ---- a checksum's field

-- What a UDP checksum sends makes a sum whole too.
canon_whole_nonzero : (n : ℕ) → canon (n + nonzero (65535 - canon n)) ≡ 65535
unfolding nonzero canon
canon_whole_nonzero n = go (65535 - canon n) refl
  where
    go : (c : ℕ) → 65535 - canon n ≡ c → canon (n + nonzero c) ≡ 65535
    go zero e =
        let w : canon n ≡ 65535 = omega (arith, canon_most n) in
        let s : 65535 + n ≡ n + 65535 = omega arith in
        ap canon (sym s) ∙ sym (canon_add 65535 n) ∙ ap (λ (k : ℕ). canon (65535 + k)) w
    go (suc c) e = rw (← e) (canon_whole n)

-- A checksum that is sent fits its field, and for UDP is not 0.
pub checksum_most : (l : List ℕ) → checksum l ≤ 65535
unfolding checksum
checksum_most l = omega arith

pub nonzero_range : (c : ℕ) → c ≤ 65535 → (1 ≤ nonzero c) × (nonzero c ≤ 65535)
unfolding nonzero
nonzero_range zero h = (omega arith, omega arith)
nonzero_range (suc c) h = (omega arith, h)

field_total : (c : ℕ) (r : List ℕ) → c ≤ 65535 → total (be 2 c ++ r) ≡ c + total r
unfolding total
field_total c r h = omega arith

-- the bytes p, a field of two bytes that holds c, the bytes r
abbrev pub around : List ℕ → ℕ → List ℕ → List ℕ
around p c r = p ++ (be 2 c ++ r)

module _ (p r : List ℕ) (even : length p % 2 ≡ 0) (bp : Bytes p) (br : Bytes r) where
  around_bytes : (c : ℕ) → Bytes (around p c r)
  around_bytes c = bytes_append p (be 2 c ++ r) bp (bytes_append (be 2 c) r (be_bytes 2 c) br)

  around_total : (c : ℕ) → c ≤ 65535 → total (around p c r) ≡ total (around p 0 r) + c
  around_total c h =
      omega (
        arith,
        total_append p (be 2 c ++ r) even,
        total_append p (be 2 0 ++ r) even,
        field_total c r h,
        field_total 0 r (omega arith),
      )

  -- A field at an even place whose number makes the sum whole: all of it verifies.
  around_verifies : (c : ℕ) → c ≤ 65535 → canon (total (around p 0 r) + c) ≡ 65535 → Verifies (around p c r)
  around_verifies c h e = sum_total (around p c r) (around_bytes c) ∙ ap canon (around_total c h) ∙ e

  -- So does one that holds the checksum of the bytes with 0 there,
  pub verifies : Verifies (around p (checksum (around p 0 r)) r)
  verifies =
      let n : ℕ = total (around p 0 r) in
      let e : checksum (around p 0 r) ≡ 65535 - canon n = checksum_total (around p 0 r) (around_bytes 0) in
      rw e (around_verifies (65535 - canon n) (omega arith) (canon_whole n))

  -- and one that holds all ones where that is 0.
  pub verifies_nonzero : Verifies (around p (nonzero (checksum (around p 0 r))) r)
  verifies_nonzero =
      let n : ℕ = total (around p 0 r) in
      let e : checksum (around p 0 r) ≡ 65535 - canon n = checksum_total (around p 0 r) (around_bytes 0) in
      rw e (around_verifies (nonzero (65535 - canon n)) (nonzero_range (65535 - canon n) (omega arith)).1 (canon_whole_nonzero n))

-- ---- three parts, of which the first two have even lengths

pub parts_checksum : (a b c : List ℕ) → length a % 2 ≡ 0 → length b % 2 ≡ 0 → Bytes a → Bytes b → Bytes c
    → 65535 - canon (canon (total a) + total b + total c) ≡ checksum (a ++ (b ++ c))
parts_checksum a b c ea eb ba bb bc =
    let u : canon (total a) + total b + total c ≡ total b + total c + canon (total a) = omega arith in
    let v : total b + total c + total a ≡ total a + total b + total c = omega arith in
    let w : canon (canon (total a) + total b + total c) ≡ canon (total a + total b + total c) =
    ap canon u ∙ canon_add (total b + total c) (total a) ∙ ap canon v in
    let t : total a + total b + total c ≡ total (a ++ (b ++ c)) = omega (arith, total_append a (b ++ c) ea, total_append b c eb) in
    ap (λ (k : ℕ). 65535 - k) (w ∙ ap canon t)
    ∙ sym (checksum_total (a ++ (b ++ c)) (bytes_append a (b ++ c) ba (bytes_append b c bb bc)))
