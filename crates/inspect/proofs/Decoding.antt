-- Decoding an encoded header gives its fields back.
use mathlib.Core.Path.{◌≡◌, refl, sym, ap, ap₂, ◌∙◌}
use mathlib.Core.Bool.{Bool, true, false, cond}
use Prim.Native.Nat.{ℕ, zero, suc, ◌+◌, ◌-◌, ◌*◌, ◌/◌, ◌%◌, ◌≤◌, ◌<◌}
use native.Mathlib.Omega.{arith}
use native.Mathlib.Nat.{zero-add}
use mathlib.Core.List.{List, [], ◌++◌}
use lib.ListN.{length, take, drop, length-append}
use lib.Seq.{take_at, drop_at}
use lib.Dec.{eqb}
use borrow.Author.Tests.{le-ltb, eq-eqb}
use Rattle.pkt.specs.Answers.{Answer, refused, gives, and_then}
use Rattle.pkt.specs.Fields.{Field, field, fields, widths}
use Rattle.pkt.specs.Rfc1071.{checksum, Verifies, verifies}
use Rattle.pkt.specs.Rfc791.{ip_bytes, ip_header}
use Rattle.pkt.specs.declared.ipv4.ip_hdr.{ip_hdr}
use Rattle.pkt.proofs.Bytes.{bytes_nil, bytes_append}
use Rattle.pkt.proofs.Checksum as sums
use Rattle.pkt.proofs.Fields.{fields_bytes, field_at_lem}
use Rattle.inspect.specs.Header.{field_at, has_bit, header_of, not_ipv4, frame_answer, summed, unreserved, read_answer, data_of}
use Rattle.inspect.specs.Encoded.{read_of, IpFit}
use Rattle.inspect.specs.Options.{Options, longer, option_fields, option_bytes, option_header, past_options}
use Rattle.inspect.specs.Check.{whole_answer, verdict_of, part_answer, check_answer}
use Rattle.inspect.specs.declared.header.IpRead.{IpRead}
use Rattle.inspect.specs.declared.check.Kind.{Kind}
use Rattle.inspect.specs.declared.check.Kind.TheVariants.{Tcp, Udp, Bare, Icmp}

-- a bit that is read off a number, put back
bit_back : (n y : ℕ) → y < 2 → cond (eqb y 1) n 0 ≡ n * y
bit_back n zero h = omega arith
bit_back n (suc zero) h = omega arith
bit_back n (suc (suc y)) h = absurd (omega arith)

three_bits : (q : ℕ) → q < 8 → 4 * (q / 4 % 2) + 2 * (q / 2 % 2) + q % 2 ≡ q
three_bits q h =
    let a : q / 4 % 2 ≡ q / 4 = omega arith in
    let b : q / 4 ≡ q / 2 / 2 = omega arith in
    rw (a, b) (omega arith)

-- The three bits and the offset are the whole 16-bit field.
pub field_back : (x : ℕ) → x < 65536
    → cond (has_bit 0x8000 x) 0x8000 0 + cond (has_bit 0x4000 x) 0x4000 0 + cond (has_bit 0x2000 x) 0x2000 0 + x % 0x2000 ≡ x
field_back x h =
    let two : x / 0x4000 ≡ x / 0x2000 / 2 = omega arith in
    let four : x / 0x8000 ≡ x / 0x2000 / 4 = omega arith in
    simp (
      bit_back 0x8000 (x / 0x8000 % 2) (omega arith),
      bit_back 0x4000 (x / 0x4000 % 2) (omega arith),
      bit_back 0x2000 (x / 0x2000 % 2) (omega arith),
    )
    (rw (two, four) (omega (arith, three_bits (x / 0x2000) (omega arith))))

-- ---- a header h with the options os, any number for its checksum, and the bytes rest behind it

-- Its data part ends where its total length says,
end_of : (h : ip_hdr) → (read_of h).end ≡ h.tot_len
unfolding read_of
end_of h = refl

-- and starts behind 20 bytes.
pub start_of : (h : ip_hdr) → (read_of h).start ≡ 20
unfolding read_of
start_of h = refl

pub no_options : Options []
no_options = record { bytes = bytes_nil; words = refl; most = omega arith }

module _ (h : ip_hdr) (os : List ℕ) (c : ℕ) where
  pub option_length : length (option_bytes h os c) ≡ length os + 20
  unfolding option_bytes
  option_length = omega arith

  -- Its data part is what its total length says.
  pub option_data : (d r : List ℕ) → h.tot_len ≡ 20 + length d → data_of (past_options (length os) (read_of h)) (option_bytes h os c ++ (d ++ r)) ≡ d
  option_data d r e =
      let g : IpRead = past_options (length os) (read_of h) in
      let n : length d ≡ g.end - g.start = omega (arith, end_of h, start_of h) in
      ap (take (g.end - g.start)) (drop_at (option_bytes h os c) (d ++ r) g.start (omega (arith, option_length, start_of h)))
      ∙ take_at d r (g.end - g.start) n

module _ (h : ip_hdr) (os : List ℕ) (ok : Options os) (c : ℕ) (rest : List ℕ) where
  all : List Field
  all = option_fields h (length os) c

  wire : List ℕ
  wire = option_bytes h os c ++ rest

  first_is : field_at wire 0 1 ≡ length os / 4 + 0x45
  unfolding field_at option_bytes widths all wire
  first_is = field_at_lem (take 0 all) (field 1 (length os / 4 + 0x45)) (drop 1 all) (os ++ rest) ∙ omega (arith, ok.most)

  -- Each field is read back by the one law for fields of every width.
  header_is : IpFit h → length os + h.tot_len < 65536 → header_of wire ≡ past_options (length os) (read_of h)
  unfolding field_at option_bytes widths all wire header_of read_of
  header_is fit few =
      let more : List ℕ = os ++ rest in
      let start : 4 * (field_at wire 0 1 % 16) ≡ length os + 20 = ap (λ (x : ℕ). 4 * (x % 16)) first_is ∙ omega (arith, ok.words, ok.most) in
      let tos : field_at wire 1 1 ≡ h.tos = field_at_lem (take 1 all) (field 1 h.tos) (drop 2 all) more ∙ omega (arith, fit.tos) in
      let total : field_at wire 2 2 ≡ length os + h.tot_len = field_at_lem (take 2 all) (field 2 (length os + h.tot_len)) (drop 3 all) more ∙ omega arith in
      let id : field_at wire 4 2 ≡ h.id = field_at_lem (take 3 all) (field 2 h.id) (drop 4 all) more ∙ omega (arith, fit.id) in
      let frag : field_at wire 6 2 ≡ h.frag_off = field_at_lem (take 4 all) (field 2 h.frag_off) (drop 5 all) more ∙ omega (arith, fit.frag) in
      let ttl : field_at wire 8 1 ≡ h.ttl = field_at_lem (take 5 all) (field 1 h.ttl) (drop 6 all) more ∙ omega (arith, fit.ttl) in
      let protocol : field_at wire 9 1 ≡ h.protocol = field_at_lem (take 6 all) (field 1 h.protocol) (drop 7 all) more ∙ omega (arith, fit.protocol) in
      let saddr : field_at wire 12 4 ≡ h.saddr = field_at_lem (take 8 all) (field 4 h.saddr) (drop 9 all) more ∙ omega (arith, fit.saddr) in
      let daddr : field_at wire 16 4 ≡ h.daddr = field_at_lem (take 9 all) (field 4 h.daddr) (drop 10 all) more ∙ omega (arith, fit.daddr) in
      simp (start, tos, total, id, frag, ttl, protocol, saddr, daddr)

  -- It is seen, whatever its checksum and whatever stands behind it, where as many bytes are there as it says.
  pub option_framed : IpFit h → length os + h.tot_len < 65536 → 20 ≤ h.tot_len → h.tot_len ≤ 20 + length rest
      → frame_answer (option_bytes h os c ++ rest) ≡ gives (past_options (length os) (read_of h))
  unfolding frame_answer not_ipv4 wire
  option_framed fit few long there =
      let g : IpRead = past_options (length os) (read_of h) in
      let size : length wire ≡ length os + 20 + length rest = length-append (option_bytes h os c) rest ∙ ap (λ (n : ℕ). n + length rest) (option_length h os c) in
      let first : ℕ = length os / 4 + 0x45 in
      let a = le-ltb (length wire) 20 (omega arith) in
      let four : first / 16 ≡ 4 = omega (arith, ok.most) in
      let b : not_ipv4 wire ≡ false = simp (first_is, eq-eqb _ _ four, le-ltb (first % 16) 5 (omega (arith, ok.most))) in
      let d = le-ltb g.end g.start (omega (arith, end_of h, start_of h)) in
      let f = le-ltb (length wire) g.end (omega (arith, end_of h)) in
      simp (a, b, header_is fit few, d, f)

-- ---- with its checksum

module _ (h : ip_hdr) (os : List ℕ) (ok : Options os) where
  front : List Field
  front = take 7 (option_fields h (length os) 0)

  back : List Field
  back = drop 8 (option_fields h (length os) 0)

  -- It verifies, its options among what is summed.
  option_verifies : Verifies (option_header h os)
  unfolding option_header option_bytes front back
  option_verifies = sums.verifies (fields front) (fields back ++ os) refl (fields_bytes front) (bytes_append (fields back) os (fields_bytes back) ok.bytes)

  -- It is read back, unless its reserved bit is set.
  pub option_read : (rest : List ℕ) → IpFit h → length os + h.tot_len < 65536 → 20 ≤ h.tot_len → h.tot_len ≤ 20 + length rest
      → read_answer (option_header h os ++ rest) ≡ unreserved (past_options (length os) (read_of h))
  unfolding read_answer option_header
  option_read rest fit few long there =
      let g : IpRead = past_options (length os) (read_of h) in
      let c : ℕ = checksum (option_bytes h os 0) in
      let l : List ℕ = option_header h os ++ rest in
      let front : take g.start l ≡ option_header h os = take_at (option_header h os) rest g.start (omega (arith, option_length h os c, start_of h)) in
      let v : verifies (take g.start l) ≡ true = ap verifies front ∙ eq-eqb _ 65535 option_verifies in
      ap (λ (x : Answer IpRead). and_then (and_then x (summed l)) unreserved) (option_framed h os ok c rest fit few long there)
      ∙ ap (λ (t : Bool). and_then (cond t (gives g) (refused 7)) unreserved) v

-- What a data part is answered does not depend on the places.
part_same : (n : ℕ) (g : IpRead) (d : List ℕ) → part_answer (past_options n g) d ≡ part_answer g d
unfolding whole_answer verdict_of
part_same n g d = go (whole_answer g d)
  where
    same : (k : Kind) → verdict_of k (past_options n g) d ≡ verdict_of k g d
    same Tcp = refl
    same Udp = refl
    same Bare = refl
    same Icmp = refl

    go : (a : Answer Kind) → and_then a (λ k. verdict_of k (past_options n g) d) ≡ and_then a (λ k. verdict_of k g d)
    go (refused m) = refl
    go (gives k) = same k

-- The check of such a header and its data part is that of the two without the options, whatever stands behind them; 18 where the reserved bit is set.
pub option_checked : (h : ip_hdr) (os d r : List ℕ) → Options os → IpFit h → length os + h.tot_len < 65536 → h.tot_len ≡ 20 + length d
    → check_answer (option_header h os ++ (d ++ r)) ≡ cond (read_of h).evil (refused 18) (part_answer (read_of h) d)
unfolding check_answer option_header
option_checked h os d r ok fit few e =
    let g : IpRead = past_options (length os) (read_of h) in
    let l : List ℕ = option_header h os ++ (d ++ r) in
    let read = option_read h os ok (d ++ r) fit few (omega arith) (omega (arith, length-append d r)) in
    ap (λ (x : Answer IpRead). and_then x (λ i. part_answer i (data_of i l))) read ∙ go (read_of h).evil (option_data h os _ d r e)
  where
    go : (b : Bool) → data_of (past_options (length os) (read_of h)) (option_header h os ++ (d ++ r)) ≡ d
        → and_then (cond b (refused 18) (gives (past_options (length os) (read_of h)))) (λ g. part_answer g (data_of g (option_header h os ++ (d ++ r))))
        ≡ cond b (refused 18) (part_answer (read_of h) d)
    go true part = refl
    go false part = part_same (length os) (read_of h) (data_of (past_options (length os) (read_of h)) (option_header h os ++ (d ++ r))) ∙ ap (part_answer (read_of h)) part

-- ---- without options

no_longer : (h : ip_hdr) → longer 0 h ≡ h
no_longer h = simp zero-add

pub plain_bytes : (h : ip_hdr) (c : ℕ) → option_bytes h [] c ≡ ip_bytes h c
unfolding option_bytes ip_bytes
plain_bytes h c = ap (λ (x : ip_hdr). ip_bytes x c) (no_longer h)

pub plain : (h : ip_hdr) → option_header h [] ≡ ip_header h
unfolding option_header ip_header
plain h = plain_bytes h (checksum (option_bytes h [] 0)) ∙ ap (λ (b : List ℕ). ip_bytes h (checksum b)) (plain_bytes h 0)

here : (g : IpRead) → past_options 0 g ≡ g
here g = simp zero-add

pub data_is : (h : ip_hdr) (c : ℕ) (d r : List ℕ) → h.tot_len ≡ 20 + length d → data_of (read_of h) (ip_bytes h c ++ (d ++ r)) ≡ d
data_is h c d r e =
    ap₂ (λ (g : IpRead) (b : List ℕ). data_of g (b ++ (d ++ r))) (sym (here (read_of h))) (sym (plain_bytes h c)) ∙ option_data h [] c d r e

-- An encoded header is seen whatever its checksum, read back with its own, and checked with its data part.
pub framed_is : (h : ip_hdr) (c : ℕ) (rest : List ℕ) → IpFit h → 20 ≤ h.tot_len → h.tot_len ≤ 20 + length rest
    → frame_answer (ip_bytes h c ++ rest) ≡ gives (read_of h)
framed_is h c rest fit long there =
    ap (λ (b : List ℕ). frame_answer (b ++ rest)) (sym (plain_bytes h c))
    ∙ option_framed h [] no_options c rest fit (omega (arith, fit.total)) long there
    ∙ ap gives (here (read_of h))

pub decoded : (h : ip_hdr) (rest : List ℕ) → IpFit h → 20 ≤ h.tot_len → h.tot_len ≤ 20 + length rest → read_answer (ip_header h ++ rest) ≡ unreserved (read_of h)
decoded h rest fit long there =
    ap (λ (b : List ℕ). read_answer (b ++ rest)) (sym (plain h))
    ∙ option_read h [] no_options rest fit (omega (arith, fit.total)) long there
    ∙ ap unreserved (here (read_of h))

pub check_encoded : (h : ip_hdr) (d r : List ℕ) → IpFit h → h.tot_len ≡ 20 + length d
    → check_answer (ip_header h ++ (d ++ r)) ≡ cond (read_of h).evil (refused 18) (part_answer (read_of h) d)
check_encoded h d r fit e =
    ap (λ (b : List ℕ). check_answer (b ++ (d ++ r))) (sym (plain h)) ∙ option_checked h [] d r no_options fit (omega (arith, fit.total)) e
