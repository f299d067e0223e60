-- What one changed word of the IPv4 header does to reading it.
use mathlib.Core.Path.{◌≡◌, refl, sym, ap, ◌∙◌, subst}
use mathlib.Core.Bool.{Bool, true, false, cond, true≢false}
use mathlib.Core.List.{List, ◌++◌}
use Prim.Native.Nat.{ℕ, ◌+◌, ◌*◌, ◌%◌, ◌≤◌, ◌<◌}
use native.Mathlib.Omega.{arith}
use lib.ListN.{length, take}
use lib.Seq.{take_at}
use lib.Dec.{ltb}
use borrow.Author.Tests.{eqb-true, eq-eqb}
use Rattle.pkt.specs.Answers.{Answer, refused, gives, and_then}
use Rattle.pkt.specs.Fields.{value, Bytes}
use Rattle.pkt.specs.Rfc1071.{sum, words, checksum, Verifies, verifies}
use Rattle.pkt.specs.Rfc791.{ip_bytes, ip_header}
use Rattle.pkt.proofs.Headers.{ip_length, ip_verifies}
use Rattle.ezpkt.specs.Build.{packet_of}
use Rattle.ezpkt.specs.declared.build.Request.{Request}
use Rattle.inspect.specs.Header.{field_at, header_of, not_ipv4, frame_answer, summed, unreserved, read_answer}
use Rattle.inspect.specs.declared.header.IpRead.{IpRead}
use Rattle.inspect.proofs.Numbers.{field_one}
use Rattle.inspect.proofs.Reading.{framed, was_read}
use Rattle.mending.specs.Sums.{renewed}
use Rattle.mending.proofs.Renewed.{renewed_length, renewed_front, field_take}
use Rattle.mending.proofs.Encoded.{ip_bytes_lem}
use Rattle.mending.proofs.Summing.{some_total}
use Rattle.demands.specs.Mending.{Asked}
use Rattle.demands.specs.Options.{Parts}
use Rattle.demands.specs.WrongWord.{WordChange, Turned}
use Rattle.demands.proofs.Parts.{parts_of_lem}
use Rattle.demands.proofs.OneWord.{only_turned, turned_verifies, high_neither, turned_keeps}

-- 7 is none of the numbers before the header is summed.
frame_no_seven : (l : List ℕ) → frame_answer l ≡ refused 7 → ⊥
unfolding frame_answer
frame_no_seven l e = go (ltb (length l) 20) (not_ipv4 l) (ltb (header_of l).end (header_of l).start) (ltb (length l) (header_of l).end) e
  where
    go : (a b c d : Bool)
        → cond a (refused 4) (cond b (refused 5) (cond c (refused 6) (cond d (refused 4) (gives (header_of l))))) ≡ refused 7 → ⊥
    go true b c d q = let z : ◌≡◌ {A = ℕ} 4 7 = cc in omega arith
    go false true c d q = let z : ◌≡◌ {A = ℕ} 5 7 = cc in omega arith
    go false false true d q = let z : ◌≡◌ {A = ℕ} 6 7 = cc in omega arith
    go false false false true q = let z : ◌≡◌ {A = ℕ} 4 7 = cc in omega arith
    go false false false false q = let z : ◌≡◌ {A = ℕ} 0 1 = cc in omega arith

-- A header that verifies is not refused by 7.
verified_no_seven : (g : IpRead) (b : Bool) → b ≡ true → and_then (cond b (gives g) (refused 7)) unreserved ≡ refused 7 → ⊥
verified_no_seven g true e n = go g.evil n
  where
    go : (u : Bool) → cond u (refused 18) (gives g) ≡ refused 7 → ⊥
    go true z = let k : ◌≡◌ {A = ℕ} 18 7 = cc in omega arith
    go false z = let k : ◌≡◌ {A = ℕ} 0 1 = cc in omega arith
verified_no_seven g false e n = true≢false (sym e)

-- A header whose first byte is 0x45 is 20 bytes long.
start_first : (l : List ℕ) (g : IpRead) → frame_answer l ≡ gives g → field_at l 0 1 ≡ 0x45 → g.start ≡ 20
unfolding header_of
start_first l g f e = ap (λ (h : IpRead). h.start) (framed l g f).is ∙ ap (λ (n : ℕ). 4 * (n % 16)) e

module _ (y : Parts) (i x : ℕ) (low : i < 20) (ch : WordChange (ip_header y.header ++ y.part) i x) where
  abbrev front : List ℕ
  front = ip_header y.header

  abbrev other : List ℕ
  other = renewed i x (front ++ y.part)

  -- The header is bytes.
  bytes : Bytes front
  unfolding ip_header
  bytes = ip_bytes_lem y.header (checksum (ip_bytes y.header 0))

  -- The word stands in the header,
  within : i + 2 ≤ length front
  within = omega (arith, ch.even, ip_length y.header)

  -- is read from it,
  front_field : field_at (front ++ y.part) i 2 ≡ field_at front i 2
  front_field =
      sym (field_take i 2 20 (front ++ y.part) (omega (arith, ch.even)))
      ∙ ap (λ (l : List ℕ). field_at l i 2) (take_at front y.part 20 (ip_length y.header))

  -- is another one there,
  front_change : WordChange front i x
  front_change = record { even = ch.even; within = within; number = ch.number; another = λ q. ch.another (front_field ∙ q) }

  -- and is changed there.
  front_other : (n : ℕ) → n ≡ 20 → take n other ≡ renewed i x front
  front_other n e =
      ap (take n) (renewed_front front y.part i x within)
      ∙ take_at (renewed i x front) y.part n (renewed_length i x front ∙ ip_length y.header ∙ sym e)

  -- A changed header that is read, and whose first byte stays, turned one word.
  front_only : (g : IpRead) → field_at other 0 1 ≡ 0x45 → read_answer other ≡ gives g → Turned (field_at (front ++ y.part) i 2) x
  front_only g first e =
      let r = was_read other g e in
      let here = front_other g.start (start_first other g r.0 first) in
      let v : Verifies (renewed i x front) = subst Verifies here (eqb-true (sum (words (take g.start other))) 65535 r.1) in
      subst (λ (w : ℕ). Turned w x) (sym front_field) (only_turned i x front front_change bytes (ip_verifies y.header) v)

  -- Its first byte says version 4 and five words.
  first_byte : field_at front 0 1 ≡ 0x45
  unfolding field_at value ip_header ip_bytes
  first_byte = refl

  -- The first word is neither 0000 nor ffff, so that the first byte stays where one turned.
  first_kept : Turned (field_at front i 2) x → (z : ℕ) → field_at (renewed i z front) 0 1 ≡ 0x45
  first_kept t z =
      let neither = high_neither front 0 0x45 (omega (arith, ip_length y.header)) bytes first_byte (omega arith) (omega arith) in
      turned_keeps front 0 1 i x z (omega arith) refl ch.even neither t ∙ first_byte

  -- A header that turned one word is not refused by 7.
  front_turned : Turned (field_at (front ++ y.part) i 2) x → read_answer other ≡ refused 7 → ⊥
  unfolding read_answer
  front_turned q e =
      let t : Turned (field_at front i 2) x = subst (λ (w : ℕ). Turned w x) front_field q in
      let first = sym (field_take 0 1 20 other (omega arith)) ∙ ap (λ (l : List ℕ). field_at l 0 1) (front_other 20 refl) ∙ first_kept t x in
      let left = some_total (renewed i 0 front) 0 (omega (arith, sym (field_one (renewed i 0 front) 0) ∙ first_kept t 0)) in
      go (frame_answer other) refl first (turned_verifies i x front front_change bytes (ip_verifies y.header) left t) e
    where
      go : (a : Answer IpRead) → frame_answer other ≡ a → field_at other 0 1 ≡ 0x45 → Verifies (renewed i x front)
          → and_then (and_then a (summed other)) unreserved ≡ refused 7 → ⊥
      go (refused n) f first v seven = frame_no_seven other (f ∙ seven)
      go (gives g) f first v seven =
          let here = front_other g.start (start_first other g f first) in
          verified_no_seven g (verifies (take g.start other)) (eq-eqb _ 65535 (subst Verifies (sym here) v)) seven

-- ---- of anything that is built

module _ (q : Request) (p : List ℕ) (a : Asked q p) (i x : ℕ) where
  -- A changed header that is read, and whose first byte stays, turned one word.
  pub header_read : (h : IpRead) → i < 20 → WordChange (packet_of q p) i x → field_at (renewed i x (packet_of q p)) 0 1 ≡ 0x45
      → read_answer (renewed i x (packet_of q p)) ≡ gives h → Turned (field_at (packet_of q p) i 2) x
  header_read h low =
      let (y, is) = parts_of_lem q p a in
      subst (λ (l : List ℕ). WordChange l i x → field_at (renewed i x l) 0 1 ≡ 0x45 → read_answer (renewed i x l) ≡ gives h → Turned (field_at l i 2) x)
      (sym is) (λ ch. front_only y i x low ch h)

  -- A header that turned one word is not refused by 7.
  pub header_turned : i < 20 → WordChange (packet_of q p) i x → Turned (field_at (packet_of q p) i 2) x
      → read_answer (renewed i x (packet_of q p)) ≡ refused 7 → ⊥
  header_turned low =
      let (y, is) = parts_of_lem q p a in
      subst (λ (l : List ℕ). WordChange l i x → Turned (field_at l i 2) x → read_answer (renewed i x l) ≡ refused 7 → ⊥) (sym is) (front_turned y i x low)
