-- What the check answers of a part, by its protocol; and that what the encoders send is good, behind any header that names its protocol and its addresses.
use mathlib.Core.Path.{◌≡◌, refl, sym, ap, ◌∙◌}
use mathlib.Core.Bool.{Bool, true, false, cond}
use Prim.Native.Nat.{ℕ, ◌+◌, ◌≤◌, ◌<◌}
use native.Mathlib.Omega.{arith}
use mathlib.Core.List.{List, ◌++◌}
use lib.ListN.{length, take, drop, length-append}
use lib.Dec.{ltb, eqb}
use borrow.Author.Tests.{le-ltb, eq-eqb, ne_eqb}
use Rattle.pkt.specs.Answers.{Answer, refused, gives, and_then}
use Rattle.pkt.specs.Fields.{field, Bytes, widths}
use Rattle.pkt.specs.Rfc1071.{checksum, Verifies, verifies}
use Rattle.pkt.specs.Rfc768.{pseudo, udp_sum_at, udp_fields, udp_header, udp_checksum}
use Rattle.pkt.specs.Rfc9293.{tcp_header, tcp_checksum}
use Rattle.pkt.specs.Rfc792.{echo_header, echo_checksum}
use Rattle.pkt.specs.declared.ipv4.tcp_hdr.{tcp_hdr}
use Rattle.pkt.specs.declared.ipv4.udp_hdr.{udp_hdr}
use Rattle.pkt.specs.declared.ipv4.icmp_hdr.{icmp_hdr}
use Rattle.pkt.specs.declared.ipv4.icmp_echo_hdr.{icmp_echo_hdr}
use Rattle.pkt.proofs.Checksum.{checksum_most, nonzero_range}
use Rattle.pkt.proofs.Fields.{field_at_lem}
use Rattle.pkt.proofs.Headers.{tcp_length, udp_length, echo_length, tcp_verifies, udp_verifies, echo_verifies}
use Rattle.inspect.specs.declared.check.Verdict.{Verdict}
use Rattle.inspect.specs.declared.check.Verdict.TheVariants.{Good, NoChecksum}
use Rattle.inspect.specs.Header.{field_at}
use Rattle.inspect.proofs.Standing.{sums_stand, tcp_offset}
use Rattle.inspect.specs.Check.{is_piece, is_other, tcp_cut, udp_cut, is_cut, kind_of, whole_answer, verifies_behind_pseudo, unless_bad, verdict_of, part_answer}
use Rattle.inspect.specs.declared.header.IpRead.{IpRead}
use Rattle.inspect.specs.declared.check.Kind.TheVariants.{Tcp, Udp, Bare, Icmp}

-- ---- what the check answers of a part d behind the header h, by its protocol

module _ (h : IpRead) (d : List ℕ) where
  -- the decision between 13, 12, 14 and a kind's verdict: for a piece or not, and the protocol p
  abbrev decided : Bool → ℕ → Answer Verdict
  decided piece p =
      and_then (cond piece (refused 13) (cond (is_other p) (refused 12) (cond (is_cut p d) (refused 14) (gives (kind_of p d))))) (λ k. verdict_of k h d)

  -- A piece is refused by 13,
  pub piece_refused : is_piece h ≡ true → part_answer h d ≡ refused 13
  unfolding whole_answer
  piece_refused e = ap (λ (t : Bool). decided t h.protocol) e

  -- and what is none is decided by its protocol.
  by_protocol : is_piece h ≡ false → (p : ℕ) → h.protocol ≡ p → part_answer h d ≡ decided false p
  unfolding whole_answer
  by_protocol piece p e = ap (λ (t : Bool). decided t h.protocol) piece ∙ ap (decided false) e

  -- TCP: 14 where it is cut, else by its sum behind the pseudo header.
  pub tcp_part : is_piece h ≡ false → h.protocol ≡ 6 → part_answer h d ≡ cond (tcp_cut d) (refused 14) (unless_bad (verifies_behind_pseudo h 6 d))
  unfolding verdict_of
  tcp_part piece six = by_protocol piece 6 six ∙ go (tcp_cut d)
    where
      go : (c : Bool) → and_then (cond c (refused 14) (gives Tcp)) (λ k. verdict_of k h d) ≡ cond c (refused 14) (unless_bad (verifies_behind_pseudo h 6 d))
      go true = refl
      go false = refl

  -- UDP: 14 where it is cut, good without checksum where that is 0, else by its sum behind the pseudo header.
  pub udp_part : is_piece h ≡ false → h.protocol ≡ 17
      → part_answer h d ≡ cond (udp_cut d) (refused 14) (cond (eqb (field_at d udp_sum_at 2) 0) (gives NoChecksum) (unless_bad (verifies_behind_pseudo h 17 d)))
  unfolding verdict_of
  udp_part piece seventeen = by_protocol piece 17 seventeen ∙ go (udp_cut d) (eqb (field_at d udp_sum_at 2) 0)
    where
      go : (c z : Bool)
          → and_then (cond c (refused 14) (gives (cond z Bare Udp))) (λ k. verdict_of k h d)
          ≡ cond c (refused 14) (cond z (gives NoChecksum) (unless_bad (verifies_behind_pseudo h 17 d)))
      go true z = refl
      go false true = refl
      go false false = refl

  -- ICMP: 14 under 8 bytes, else by its sum.
  pub echo_part : is_piece h ≡ false → h.protocol ≡ 1 → part_answer h d ≡ cond (ltb (length d) 8) (refused 14) (unless_bad (verifies d))
  unfolding verdict_of
  echo_part piece one = by_protocol piece 1 one ∙ go (ltb (length d) 8)
    where
      go : (c : Bool) → and_then (cond c (refused 14) (gives Icmp)) (λ k. verdict_of k h d) ≡ cond c (refused 14) (unless_bad (verifies d))
      go true = refl
      go false = refl

-- ---- the fields that the check reads

-- A UDP header says its length.
pub udp_len : (u : udp_hdr) (c : ℕ) (p : List ℕ) → u.len < 65536 → field_at (udp_header u c ++ p) 4 2 ≡ u.len
unfolding field_at udp_header widths
udp_len u c p few = field_at_lem (take 2 (udp_fields u c)) (field 2 u.len) (drop 3 (udp_fields u c)) p ∙ omega arith

-- A UDP datagram that says its own length is not cut.
udp_whole : (u : udp_hdr) (c : ℕ) (p : List ℕ) → u.len ≡ 8 + length p → u.len < 65536 → udp_cut (udp_header u c ++ p) ≡ false
udp_whole u c p len few =
    let d : List ℕ = udp_header u c ++ p in
    let size : length d ≡ 8 + length p = length-append (udp_header u c) p ∙ ap (λ (n : ℕ). n + length p) (udp_length u c) in
    let long = le-ltb (length d) 8 (omega arith) in
    let same = eq-eqb (field_at d 4 2) (length d) (udp_len u c p few ∙ len ∙ sym size) in
    simp (long, same)

-- A UDP checksum that is sent fits its field, and is not 0.
udp_checksum_most : (s d : ℕ) (u : udp_hdr) (p : List ℕ) → udp_checksum s d u p ≤ 65535
unfolding udp_checksum
udp_checksum_most s d u p = (nonzero_range _ (checksum_most _)).1

udp_checksum_some : (s d : ℕ) (u : udp_hdr) (p : List ℕ) → udp_checksum s d u p ≡ 0 → ⊥
unfolding udp_checksum
udp_checksum_some s d u p z = omega (arith, (nonzero_range (checksum (pseudo s d 17 (8 + length p) ++ (udp_header u 0 ++ p))) (checksum_most _)).0)

-- ---- behind a header h that is no piece's, with the payload p

module _ (h : IpRead) (p : List ℕ) (bp : Bytes p) (piece : is_piece h ≡ false) where
  -- a TCP segment with its checksum
  pub tcp_good : (t : tcp_hdr) → h.protocol ≡ 6 → part_answer h (tcp_header t (tcp_checksum h.saddr h.daddr t p) ++ p) ≡ gives Good
  tcp_good t six =
      let c : ℕ = tcp_checksum h.saddr h.daddr t p in
      let d : List ℕ = tcp_header t c ++ p in
      let size : length d ≡ 20 + length p = length-append (tcp_header t c) p ∙ ap (λ (n : ℕ). n + length p) (tcp_length t c) in
      let long = le-ltb (length d) 20 (omega arith) in
      let offset = eq-eqb (field_at d 12 1) 0x50 (tcp_offset t c p) in
      let sums : Verifies (pseudo h.saddr h.daddr 6 (length d) ++ d) = rw size (tcp_verifies h.saddr h.daddr p bp t) in
      tcp_part h d piece six ∙ simp (long, offset, eq-eqb _ 65535 sums)

  -- a UDP datagram with its checksum
  pub udp_good : (u : udp_hdr) → h.protocol ≡ 17 → u.len ≡ 8 + length p → u.len < 65536
      → part_answer h (udp_header u (udp_checksum h.saddr h.daddr u p) ++ p) ≡ gives Good
  udp_good u seventeen len few =
      let c : ℕ = udp_checksum h.saddr h.daddr u p in
      let d : List ℕ = udp_header u c ++ p in
      let size : length d ≡ 8 + length p = length-append (udp_header u c) p ∙ ap (λ (n : ℕ). n + length p) (udp_length u c) in
      let sent : field_at d 6 2 ≡ c = sums_stand.udp u c p (udp_checksum_most h.saddr h.daddr u p) in
      let some = ne_eqb (field_at d 6 2) 0 (λ z. udp_checksum_some h.saddr h.daddr u p (sym sent ∙ z)) in
      let sums : Verifies (pseudo h.saddr h.daddr 17 (length d) ++ d) = rw size (udp_verifies h.saddr h.daddr p bp u) in
      udp_part h d piece seventeen ∙ simp (udp_whole u c p len few, some, eq-eqb _ 65535 sums)

  -- an echo
  pub echo_good : (i : icmp_hdr) (e : icmp_echo_hdr) → h.protocol ≡ 1 → part_answer h (echo_header i e (echo_checksum i e p) ++ p) ≡ gives Good
  echo_good i e one =
      let c : ℕ = echo_checksum i e p in
      let d : List ℕ = echo_header i e c ++ p in
      let size : length d ≡ 8 + length p = length-append (echo_header i e c) p ∙ ap (λ (n : ℕ). n + length p) (echo_length i e c) in
      let long = le-ltb (length d) 8 (omega arith) in
      echo_part h d piece one ∙ simp (long, eq-eqb _ 65535 (echo_verifies i e p bp))
