-- Laws of the dump's parts.
use mathlib.Core.Path.{◌≡◌, refl, sym, ap, ◌∙◌}
use Prim.Native.Nat.{ℕ, zero, suc, ◌+◌, ◌-◌, ◌*◌, ◌/◌, ◌%◌, min, ◌≤◌, ◌<◌}
use native.Mathlib.Omega.{arith}
use native.Mathlib.Nat.{le_of_suc-le-suc, add-zero}
use native.Mathlib.Numerals.{add-one, sub-one}
use native.Mathlib.Decide.{dec_le}
use mathlib.Core.Bool.{Bool, true, false, cond}
use mathlib.Core.List.{List, [], ◌∷◌, ◌++◌, map, append_assoc, append-nil}
use lib.ListN.{length, take, drop, get_or, set, length-append, length-take, length-drop, length-replicate, length-map}
use lib.Seq.{take-append_seam, drop-append-add, drop-drop, take_all}
use lib.Dec.{ltb}
use borrow.Author.Tests.{lt-ltb, le-ltb, ltb-false}
use Rattle.pkt.specs.Written.{written}
use Rattle.packet.specs.Headroom.{placed, valid, len_of, bytes_at, whole_of}
use Rattle.packet.specs.declared.Packet.{Packet}
use Rattle.packet.specs.Dump.{digit_of, numeral, digits_in, digits_of, decimal, title, space, hexes, shown_of, left, right, line, lines, dump_bytes, dump_of}
use Rattle.packet.proofs.Headroom.{valid_true}

-- ---- numbers

pub numeral_length : (base k x : ℕ) → length (numeral base k x) ≡ k
unfolding numeral
numeral_length base zero x = refl
numeral_length base (suc k) x = length-append (numeral base k (x / base)) (digit_of (x % base) ∷ []) ∙ rw (numeral_length base k (x / base)) (omega arith)

set_drop : (l : List ℕ) (j v : ℕ) → j < length l → drop j (set l j v) ≡ v ∷ drop (suc j) l
set_drop [] j v h = absurd (omega arith)
set_drop (x ∷ l) zero v h = refl
set_drop (x ∷ l) (suc j) v h = set_drop l j v (le_of_suc-le-suc h)

-- a turn of the loop that writes digits from the last to the first
pub numeral_left : (base i x : ℕ) (l : List ℕ) → 0 < i → i ≤ length l
    → numeral base (i - 1) (x / base) ++ drop (i - 1) (set l (i - 1) (digit_of (x % base))) ≡ numeral base i x ++ drop i l
unfolding numeral
numeral_left base zero x l p h = absurd (omega arith)
numeral_left base (suc j) x l p h =
    rw (sub-one (suc j), set_drop l j (digit_of (x % base)) h) (sym (append_assoc (numeral base j (x / base)) (digit_of (x % base) ∷ []) (drop (suc j) l)))

digits_fuel : (m n x : ℕ) → x ≤ m → x ≤ n → digits_in m x ≡ digits_in n x
unfolding digits_in
digits_fuel zero zero x hm hn = refl
digits_fuel zero (suc n) x hm hn = rw (lt-ltb x 10 (omega arith))
digits_fuel (suc m) zero x hm hn = rw (lt-ltb x 10 (omega arith))
digits_fuel (suc m) (suc n) x hm hn =
    go (ltb x 10) refl (λ h. digits_fuel m n (x / 10) (omega arith) (omega arith))
  where
    go : (t : Bool) → ltb x 10 ≡ t → (10 ≤ x → digits_in m (x / 10) ≡ digits_in n (x / 10))
        → cond t 1 (suc (digits_in m (x / 10))) ≡ cond t 1 (suc (digits_in n (x / 10)))
    go true e f = refl
    go false e f = ap suc (f (ltb-false x 10 e))

pub digits_last : (x : ℕ) → x < 10 → digits_of x ≡ 1
unfolding digits_of digits_in
digits_last zero h = refl
digits_last (suc x) h = rw (lt-ltb (suc x) 10 h)

pub digits_more : (x : ℕ) → 10 ≤ x → digits_of x ≡ suc (digits_of (x / 10))
unfolding digits_of digits_in
digits_more zero h = absurd (omega arith)
digits_more (suc x) h = rw (le-ltb (suc x) 10 h) (ap suc (digits_fuel x (suc x / 10) (suc x / 10) (omega arith) (omega arith)))

-- ---- a line

pub hexes_length : (l : List ℕ) → length (hexes l) ≡ 3 * length l
unfolding hexes
hexes_length [] = refl
hexes_length (b ∷ l) = omega (arith, length-append (numeral 16 2 b) (hexes l), numeral_length 16 2 b, hexes_length l)

hexes_suc : (l : List ℕ) (i : ℕ) → i < length l → hexes (take i l) ++ (space ∷ numeral 16 2 (get_or l i 0)) ≡ hexes (take (suc i) l)
unfolding hexes
hexes_suc [] i h = absurd (omega arith)
hexes_suc (b ∷ l) zero h = ap (λ (t : List ℕ). space ∷ t) (sym (append-nil (numeral 16 2 b)))
hexes_suc (b ∷ l) (suc i) h =
    ap (λ (t : List ℕ). space ∷ t)
    (append_assoc (numeral 16 2 b) (hexes (take i l)) (space ∷ numeral 16 2 (get_or l i 0)) ∙ ap (λ (t : List ℕ). numeral 16 2 b ++ t) (hexes_suc l i (le_of_suc-le-suc h)))

-- a turn of the loop that writes a line's bytes
pub hexes_more : (l : List ℕ) (i : ℕ) → i < length l → hexes (take i l) ++ (space ∷ numeral 16 2 (get_or l i 0)) ≡ hexes (take (i + 1) l)
hexes_more l i h = rw add-one (hexes_suc l i h)

-- the character at a place
pub shown_at : (l : List ℕ) (i : ℕ) → i < length l → get_or (map shown_of l) i 0 ≡ shown_of (get_or l i 0)
shown_at [] i h = absurd (omega arith)
shown_at (b ∷ l) zero h = refl
shown_at (b ∷ l) (suc i) h = shown_at l i (le_of_suc-le-suc h)

pub left_length : (pos : ℕ) (l : List ℕ) → length l ≤ 16 → length (left pos l) ≡ 55
unfolding left
left_length pos l h = simp (length-append, numeral_length, hexes_length, length-replicate) (omega arith)

pub right_length : (l : List ℕ) → length (right l) ≡ 2 + length l
unfolding right
right_length l = simp (length-append, length-map) (omega arith)

-- Document 01: "A line with v bytes has 57 + v characters."
pub line_length : (pos : ℕ) (l : List ℕ) → length l ≤ 16 → length (line pos l) ≡ 57 + length l
unfolding line
line_length pos l h = omega (arith, length-append (left pos l) (right l), left_length pos l h, right_length l)

-- ---- lines

pub lines_length : (k pos : ℕ) (l : List ℕ) → length (lines k pos l) ≡ 57 * k + min (16 * k) (length l)
unfolding lines
lines_length zero pos l = omega arith
lines_length (suc k) pos l =
    omega (
      arith,
      length-append (line pos (take 16 l)) (lines k (pos + 16) (drop 16 l)),
      line_length pos (take 16 l) (omega (arith, length-take 16 l)),
      length-take 16 l,
      length-drop 16 l,
      lines_length k (pos + 16) (drop 16 l),
    )

lines_suc : (k pos : ℕ) (l : List ℕ) → lines (suc k) pos l ≡ lines k pos l ++ line (pos + 16 * k) (take 16 (drop (16 * k) l))
unfolding lines
lines_suc zero pos l = rw (append-nil, add-zero)
lines_suc (suc k) pos l =
    let e : pos + 16 + 16 * k ≡ pos + 16 * suc k = omega arith in
    let f : 16 + 16 * k ≡ 16 * suc k = omega arith in
    ap (λ (t : List ℕ). line pos (take 16 l) ++ t) (lines_suc k (pos + 16) (drop 16 l) ∙ rw (drop-drop, e, f))
    ∙ sym (append_assoc (line pos (take 16 l)) (lines k (pos + 16) (drop 16 l)) _)

-- one line more
lines_more : (k pos : ℕ) (l : List ℕ) → lines k pos l ++ line (pos + 16 * k) (take 16 (drop (16 * k) l)) ≡ lines (k + 1) pos l
lines_more k pos l = rw add-one (sym (lines_suc k pos l))

-- the bytes of a line end where it is full, or where the bytes end
pub clipped : (i e : ℕ) (l : List ℕ) → i ≤ length l → e ≡ min (i + 16) (length l) → take (e - i) (drop i l) ≡ take 16 (drop i l)
clipped i e l h q = go (dec_le 16 (length l - i))
  where
    go : Dec (16 ≤ length l - i) → take (e - i) (drop i l) ≡ take 16 (drop i l)
    go (yes y) = let k : e - i ≡ 16 = omega arith in ap (λ (n : ℕ). take n (drop i l)) k
    go (no n) =
        take_all (e - i) (drop i l) (omega (arith, length-drop i l))
        ∙ sym (take_all 16 (drop i l) (omega (arith, length-drop i l)))

-- Bytes placed behind those that were written before.
pub placed_behind : (a b o : List ℕ) (n : ℕ) → length a ≡ n → placed n b (written a o) ≡ written (a ++ b) o
unfolding placed written
placed_behind a b o n h = rw (← h, take-append_seam, drop-append-add, drop-drop, length-append) (sym (append_assoc a b _))

-- ---- the whole

-- The length of a dump, known without writing it.
pub dump_length : (pos : ℕ) (l : List ℕ) → length (dump_bytes pos l) ≡ digits_of (length l) + 14 + 57 * ((length l + 15) / 16) + length l
unfolding dump_bytes decimal
dump_length pos l =
    omega (
      arith,
      length-append (numeral 10 (digits_of (length l)) (length l)) (title ++ lines ((length l + 15) / 16) pos l),
      numeral_length 10 (digits_of (length l)) (length l),
      length-append title (lines ((length l + 15) / 16) pos l),
      lines_length ((length l + 15) / 16) pos l,
    )

-- the bytes of a packet are as many as its record says
pub packet_length : (p : Packet) (b : List ℕ) → valid p (length b) ≡ true → length (bytes_at (whole_of p) b) ≡ len_of p
packet_length p b v = let (h, e, m) = valid_true p (length b) v in simp (length-take, length-drop) (omega arith)

pub packet_dump_length : (p : Packet) (b : List ℕ) → valid p (length b) ≡ true
    → length (dump_of p b) ≡ digits_of (len_of p) + 14 + 57 * ((len_of p + 15) / 16) + len_of p
packet_dump_length p b v = dump_length p.headroom (bytes_at (whole_of p) b) ∙ rw (packet_length p b v)

-- ---- loops

-- no digit is left to write
pub numeral_done : (base i k rest x : ℕ) (l o : List ℕ) → i ≡ 0 → numeral base i rest ++ drop i l ≡ numeral base k x ++ drop k o → l ≡ written (numeral base k x) o
unfolding numeral written
numeral_done base zero k rest x l o e h = rw (numeral_length base k x) h
numeral_done base (suc i) k rest x l o e h = absurd (omega arith)

-- a turn of the loop that writes lines: line i is placed behind the full lines before it
pub lines_step : (i pos : ℕ) (l o out out' : List ℕ) → 16 * i ≤ length l → out ≡ written (lines i pos l) o
    → out' ≡ placed (73 * i) (line (pos + 16 * i) (take 16 (drop (16 * i) l))) out → out' ≡ written (lines (i + 1) pos l) o
lines_step i pos l o out out' h e q =
    rw (q, e, placed_behind (lines i pos l) (line (pos + 16 * i) (take 16 (drop (16 * i) l))) o (73 * i) (omega (arith, lines_length i pos l)), lines_more)
