-- Laws of checksums that are worked out anew.
use mathlib.Core.Path.{◌≡◌, refl, sym, ap, ◌∙◌}
use Prim.Native.Nat.{ℕ, zero, suc, ◌+◌, ◌-◌, ◌%◌, ◌≤◌, ◌<◌}
use native.Mathlib.Omega.{arith}
use mathlib.Core.List.{List, [], ◌∷◌, ◌++◌}
use lib.ListN.{length, get_or, take, drop}
use lib.Seq.{length-take-le}
use Rattle.pkt.specs.Answers.{gives}
use Rattle.pkt.specs.Fields.{be, Bytes}
use Rattle.pkt.specs.Rfc1071.{checksum, Verifies}
use Rattle.pkt.specs.Rfc768.{pseudo, nonzero}
use Rattle.pkt.specs.Rfc792.{echo_header}
use Rattle.pkt.specs.Sums.{total, canon}
use Rattle.pkt.proofs.Checksum.{checksum_total, total_append, verifies, verifies_nonzero}
use Rattle.inspect.specs.Header.{field_at, frame_answer}
use Rattle.inspect.specs.declared.header.IpRead.{IpRead}
use Rattle.inspect.proofs.Numbers.{field_one, take_bytes, drop_bytes, field_below}
use Rattle.inspect.proofs.Reading.{framed}
use Rattle.inspect.proofs.Whole.{behind_pseudo_lem}
use Rattle.mending.specs.Sums.{renewed, PartAsks}
use Rattle.mending.proofs.Renewed.{renewed_around, renewed_bytes, renewed_behind, renewed_same, field_before, field_take, field_drop, two_here}

-- ---- a word is given back

two_total : (x : ℕ) (r : List ℕ) → x < 65536 → total (be 2 x ++ r) ≡ x + total r
unfolding total
two_total x r h = omega arith

-- The plain sum grows by the number.
pub renewed_total : (i x : ℕ) (l : List ℕ) → i % 2 ≡ 0 → i + 2 ≤ length l → x < 65536 → total (renewed i x l) ≡ total (renewed i 0 l) + x
renewed_total i x l even h few =
    let front : length (take i l) ≡ i = length-take-le i l (omega arith) in
    let here : length (take i l) % 2 ≡ 0 = ap (λ (n : ℕ). n % 2) front ∙ even in
    let r : List ℕ = drop (i + 2) l in
    omega (
      arith,
      ap total (renewed_around i x l h),
      ap total (renewed_around i 0 l h),
      total_append (take i l) (be 2 x ++ r) here,
      total_append (take i l) (be 2 0 ++ r) here,
      two_total x r few,
      two_total 0 r (omega arith),
    )

canon_without : (n w : ℕ) → 0 < n → w < 65536 → (65535 - canon (n + w) + w) % 65535 ≡ 65535 - canon n
unfolding canon
canon_without zero w some few = absurd (omega arith)
canon_without (suc n) w some few =
    let e : suc n + w ≡ suc (n + w) = omega arith in
    rw e (omega arith)

-- The word at an even place, given back, leaves the checksum of the bytes with 0 there, unless these are all zero.
pub without : (i : ℕ) (l : List ℕ) → i % 2 ≡ 0 → i + 2 ≤ length l → Bytes l → 0 < total (renewed i 0 l)
    → (checksum l + field_at l i 2) % 65535 ≡ checksum (renewed i 0 l)
without i l even h b some =
    let w : ℕ = field_at l i 2 in
    let n : ℕ = total (renewed i 0 l) in
    let few : w < 65536 = omega (arith, field_below i 2 l b) in
    let all : total l ≡ n + w = ap total (sym (renewed_same i l b h)) ∙ renewed_total i w l even h few in
    let c : checksum l ≡ 65535 - canon (n + w) = checksum_total l b ∙ ap (λ (k : ℕ). 65535 - canon k) all in
    ap (λ (k : ℕ). (k + w) % 65535) c
    ∙ canon_without n w some few
    ∙ sym (checksum_total (renewed i 0 l) (renewed_bytes i 0 l b))

-- Bytes of which one is not 0 have a positive sum.
pub some_total : (l : List ℕ) (i : ℕ) → 0 < get_or l i 0 → 0 < total l
unfolding total
some_total [] i h = absurd (omega arith)
some_total (a ∷ []) zero h = omega arith
some_total (a ∷ []) (suc i) h = absurd (omega arith)
some_total (a ∷ b ∷ r) zero h = omega arith
some_total (a ∷ b ∷ r) (suc zero) h = omega arith
some_total (a ∷ b ∷ r) (suc (suc i)) h = omega (arith, some_total r i h)

-- ---- a header

-- The first byte of a header is not 0.
pub without_header : (l : List ℕ) (h : IpRead) → Bytes l → frame_answer l ≡ gives h
    → (checksum (take h.start l) + field_at l 10 2) % 65535 ≡ checksum (renewed 10 0 (take h.start l))
without_header l h b e =
    let f = framed l h e in
    let n : ℕ = h.start in
    let front : List ℕ = take n l in
    let first : field_at (renewed 10 0 front) 0 1 ≡ field_at l 0 1 =
    field_before 0 1 10 0 front (omega arith) ∙ field_take 0 1 n l (omega arith) in
    let some : 0 < field_at l 0 1 = omega (arith, f.version) in
    let size : length front ≡ n = length-take-le n l (omega arith) in
    ap (λ (w : ℕ). (checksum front + w) % 65535) (sym (field_take 10 2 n l (omega arith)))
    ∙ without 10 front refl (omega arith) (take_bytes n l b) (some_total (renewed 10 0 front) 0 (omega (arith, field_one (renewed 10 0 front) 0)))

-- ---- behind a pseudo header

pub some_behind : (s d p n : ℕ) (l : List ℕ) → 0 < p → p < 256 → 0 < total (pseudo s d p n ++ l)
unfolding pseudo
some_behind s d p n l some few =
    let here : 0 < p % 256 = omega arith in
    some_total (pseudo s d p n ++ l) 9 here

-- A place behind the twelve bytes is one of them all.
module _ (s d p n i : ℕ) (l : List ℕ) where
  pub behind_place : (x : ℕ) → pseudo s d p n ++ renewed i x l ≡ renewed (12 + i) x (pseudo s d p n ++ l)
  unfolding pseudo
  behind_place x = sym (renewed_behind (pseudo s d p n) l i x)

  pub behind_field : field_at l i 2 ≡ field_at (pseudo s d p n ++ l) (12 + i) 2
  unfolding pseudo
  behind_field = field_drop i 2 12 (pseudo s d p n ++ l)

  pub behind_within : i + 2 ≤ length l → 12 + i + 2 ≤ length (pseudo s d p n ++ l)
  unfolding pseudo
  behind_within h = omega arith

pub without_behind : (s d p i : ℕ) (l : List ℕ) → p < 256 → PartAsks p i l → Bytes l
    → (checksum (pseudo s d p (length l) ++ l) + field_at l i 2) % 65535 ≡ checksum (pseudo s d p (length l) ++ renewed i 0 l)
without_behind s d p i l few asks b =
    let n : ℕ = length l in
    let m : List ℕ = pseudo s d p n ++ l in
    let e : pseudo s d p n ++ renewed i 0 l ≡ renewed (12 + i) 0 m = behind_place s d p n i l 0 in
    ap (λ (w : ℕ). (checksum m + w) % 65535) (behind_field s d p n i l)
    ∙ without (12 + i) m (omega (arith, asks.even)) (behind_within s d p n i l asks.within) (behind_pseudo_lem s d p n l b)
    (rw e at (some_behind s d p n (renewed i 0 l) asks.some few))
    ∙ ap checksum (sym e)

-- ---- an ICMP message

first_two : (l : List ℕ) → 2 ≤ length l → take 2 l ≡ get_or l 0 0 ∷ get_or l 1 0 ∷ []
first_two [] h = absurd (omega arith)
first_two (a ∷ []) h = absurd (omega arith)
first_two (a ∷ b ∷ r) h = refl

-- The header of its fields, with 0 for its checksum, and what is behind it are the message with 0 there.
pub echo_parts : (l : List ℕ) → Bytes l → 8 ≤ length l
    → echo_header (record { typ = get_or l 0 0; code = get_or l 1 0 }) (record { id = field_at l 4 2; seq = field_at l 6 2 }) 0 ++ drop 8 l ≡ renewed 2 0 l
unfolding echo_header
echo_parts l b h =
    let typ : get_or l 0 0 % 256 ≡ get_or l 0 0 = omega (arith, b 0) in
    let code : get_or l 1 0 % 256 ≡ get_or l 1 0 = omega (arith, b 1) in
    let four : be 2 (field_at l 4 2) ++ (be 2 (field_at l 6 2) ++ drop 8 l) ≡ drop 4 l =
    ap (λ (r : List ℕ). be 2 (field_at l 4 2) ++ r) (two_here 6 l b (omega arith)) ∙ two_here 4 l b (omega arith) in
    sym (renewed_around 2 0 l (omega arith) ∙ rw (first_two l (omega arith), ← four) (rw (typ, code)))

-- ---- what is put there verifies

module _ (i : ℕ) (l : List ℕ) (even : i % 2 ≡ 0) (h : i + 2 ≤ length l) (b : Bytes l) where
  -- the checksum of the bytes with 0 there
  pub renewed_verifies : Verifies (renewed i (checksum (renewed i 0 l)) l)
  renewed_verifies =
      let here : length (take i l) % 2 ≡ 0 = ap (λ (n : ℕ). n % 2) (length-take-le i l (omega arith)) ∙ even in
      rw (renewed_around i (checksum (renewed i 0 l)) l h, renewed_around i 0 l h)
      (verifies (take i l) (drop (i + 2) l) here (take_bytes i l b) (drop_bytes (i + 2) l b))

  -- and all ones where that is 0
  nonzero_verifies : Verifies (renewed i (nonzero (checksum (renewed i 0 l))) l)
  nonzero_verifies =
      let here : length (take i l) % 2 ≡ 0 = ap (λ (n : ℕ). n % 2) (length-take-le i l (omega arith)) ∙ even in
      rw (renewed_around i (nonzero (checksum (renewed i 0 l))) l h, renewed_around i 0 l h)
      (verifies_nonzero (take i l) (drop (i + 2) l) here (take_bytes i l b) (drop_bytes (i + 2) l b))

module _ (s d p n i : ℕ) (l : List ℕ) (even : i % 2 ≡ 0) (h : i + 2 ≤ length l) (b : Bytes l) where
  pub behind_verifies : Verifies (pseudo s d p n ++ renewed i (checksum (pseudo s d p n ++ renewed i 0 l)) l)
  behind_verifies =
      rw (behind_place s d p n i l (checksum (pseudo s d p n ++ renewed i 0 l)), behind_place s d p n i l 0)
      (renewed_verifies (12 + i) (pseudo s d p n ++ l) (omega arith) (behind_within s d p n i l h) (behind_pseudo_lem s d p n l b))

  pub behind_verifies_nonzero : Verifies (pseudo s d p n ++ renewed i (nonzero (checksum (pseudo s d p n ++ renewed i 0 l))) l)
  behind_verifies_nonzero =
      rw (behind_place s d p n i l (nonzero (checksum (pseudo s d p n ++ renewed i 0 l))), behind_place s d p n i l 0)
      (nonzero_verifies (12 + i) (pseudo s d p n ++ l) (omega arith) (behind_within s d p n i l h) (behind_pseudo_lem s d p n l b))
