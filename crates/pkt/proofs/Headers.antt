-- Laws of the four headers: how long they are, that their bytes are bytes, and that what is sent verifies.
use Rattle.std.proofs.Common.{◌≡◌, ℕ, zero, suc, ◌+◌, ◌-◌, ◌*◌, ◌/◌, ◌%◌, ◌<◌, List, [], ◌++◌, length, take, drop, sym, refl, ap, ◌∙◌, arith}
use Rattle.pkt.specs.Rfc1071.{checksum, Verifies}
use Rattle.pkt.specs.Sums.{total, canon}
use Rattle.pkt.specs.Fields.{be, Field, fields, Bytes}
use Rattle.pkt.specs.Rfc791.{ip_fields, ip_bytes, ip_header}
use Rattle.pkt.specs.Rfc768.{pseudo_fields, pseudo, nonzero, udp_fields, udp_header, udp_checksum}
use Rattle.pkt.specs.Rfc9293.{tcp_fields, tcp_header, tcp_checksum}
use Rattle.pkt.specs.Rfc792.{echo_fields, echo_header, echo_checksum}
use Rattle.pkt.specs.declared.ipv4.ip_hdr.{ip_hdr}
use Rattle.pkt.specs.declared.ipv4.tcp_hdr.{tcp_hdr}
use Rattle.pkt.specs.declared.ipv4.udp_hdr.{udp_hdr}
use Rattle.pkt.specs.declared.ipv4.icmp_hdr.{icmp_hdr}
use Rattle.pkt.specs.declared.ipv4.icmp_echo_hdr.{icmp_echo_hdr}
use Rattle.pkt.proofs.Bytes.{bytes_append}
use Rattle.pkt.proofs.Checksum.{verifies, verifies_nonzero, parts_checksum}
use Rattle.pkt.proofs.Fields.{fields_bytes}

pub ip_length : (h : ip_hdr) → length (ip_header h) ≡ 20
unfolding ip_header ip_bytes
ip_length h = refl

pub tcp_length : (h : tcp_hdr) (c : ℕ) → length (tcp_header h c) ≡ 20
unfolding tcp_header
tcp_length h c = refl

pub udp_length : (h : udp_hdr) (c : ℕ) → length (udp_header h c) ≡ 8
unfolding udp_header
udp_length h c = refl

pub echo_length : (h : icmp_hdr) (e : icmp_echo_hdr) (c : ℕ) → length (echo_header h e c) ≡ 8
unfolding echo_header
echo_length h e c = refl

-- ---- what is sent verifies

-- the fields before the checksum, and those behind it
ip_front : ip_hdr → List Field
ip_front h = take 7 (ip_fields h 0)

ip_back : ip_hdr → List Field
ip_back h = drop 8 (ip_fields h 0)

-- Every IPv4 header verifies.
pub ip_verifies : (h : ip_hdr) → Verifies (ip_header h)
unfolding ip_header ip_bytes ip_front ip_back
ip_verifies h = verifies (fields (ip_front h)) (fields (ip_back h)) refl (fields_bytes (ip_front h)) (fields_bytes (ip_back h))

module _ (s d : ℕ) (p : List ℕ) (bp : Bytes p) where
  tcp_front : tcp_hdr → List Field
  tcp_front h = pseudo_fields s d 6 (20 + length p) ++ take 7 (tcp_fields h 0)

  tcp_back : tcp_hdr → List Field
  tcp_back h = drop 8 (tcp_fields h 0)

  -- A TCP segment with its checksum verifies, with the pseudo header before it.
  pub tcp_verifies : (h : tcp_hdr) → Verifies (pseudo s d 6 (20 + length p) ++ (tcp_header h (tcp_checksum s d h p) ++ p))
  unfolding pseudo tcp_header tcp_checksum tcp_front tcp_back
  tcp_verifies h =
      verifies (fields (tcp_front h)) (fields (tcp_back h) ++ p) refl
      (fields_bytes (tcp_front h)) (bytes_append (fields (tcp_back h)) p (fields_bytes (tcp_back h)) bp)

  udp_front : udp_hdr → List Field
  udp_front h = pseudo_fields s d 17 (8 + length p) ++ take 3 (udp_fields h 0)

  -- So does a UDP datagram.
  pub udp_verifies : (h : udp_hdr) → Verifies (pseudo s d 17 (8 + length p) ++ (udp_header h (udp_checksum s d h p) ++ p))
  unfolding pseudo udp_header udp_checksum udp_front
  udp_verifies h = verifies_nonzero (fields (udp_front h)) p refl (fields_bytes (udp_front h)) bp

module _ (h : icmp_hdr) (e : icmp_echo_hdr) (p : List ℕ) (bp : Bytes p) where
  echo_front : List Field
  echo_front = take 2 (echo_fields h e 0)

  echo_back : List Field
  echo_back = drop 3 (echo_fields h e 0)

  -- An echo verifies, with nothing before it.
  pub echo_verifies : Verifies (echo_header h e (echo_checksum h e p) ++ p)
  unfolding echo_header echo_checksum echo_front echo_back
  echo_verifies =
      verifies (fields echo_front) (fields echo_back ++ p) refl
      (fields_bytes echo_front) (bytes_append (fields echo_back) p (fields_bytes echo_back) bp)

-- ---- checksums from the sums of the parts

pub nonzero_zero : (n : ℕ) → n ≡ 0 → 65535 ≡ nonzero n
unfolding nonzero
nonzero_zero n e = rw e

pub nonzero_pos : (n : ℕ) → (n ≡ 0 → ⊥) → n ≡ nonzero n
unfolding nonzero
nonzero_pos zero h = absurd (h refl)
nonzero_pos (suc n) h = refl

two_bytes : (w : ℕ) → w / 256 % 256 * 256 + w % 256 ≡ w % 65536
two_bytes w = omega arith

-- the two words of an address
address_total : (x : ℕ) (r : List ℕ) → x < 4294967296 → total (be 4 x ++ r) ≡ x / 65536 + x % 65536 + total r
unfolding total
address_total x r h =
    let high : x / 256 / 256 ≡ x / 65536 = omega arith in
    let all : x / 65536 % 65536 ≡ x / 65536 = omega arith in
    rw (two_bytes x, two_bytes (x / 256 / 256), high, all) (omega arith)

-- the plain sum of a pseudo header, from its numbers
pub pseudo_total : (s d p n : ℕ) → s < 4294967296 → d < 4294967296 → p < 256 → n < 65536
    → s / 65536 + s % 65536 + d / 65536 + d % 65536 + p + n ≡ total (pseudo s d p n)
unfolding pseudo total
pseudo_total s d p n hs hd hp hn =
    let last : List ℕ = be 1 0 ++ (be 1 p ++ (be 2 n ++ [])) in
    let t : total last ≡ p + n = omega arith in
    sym (address_total s (be 4 d ++ last) hs ∙ ap (λ (k : ℕ). s / 65536 + s % 65536 + k) (address_total d last hd) ∙ rw t (omega arith))

pub tcp_finished : (s d : ℕ) (h : tcp_hdr) (p : List ℕ) → Bytes p
    → 65535 - canon (canon (total (pseudo s d 6 (20 + length p))) + total (tcp_header h 0) + total p) ≡ tcp_checksum s d h p
unfolding pseudo tcp_header tcp_checksum
tcp_finished s d h p bp =
    parts_checksum (pseudo s d 6 (20 + length p)) (tcp_header h 0) p refl refl
    (fields_bytes (pseudo_fields s d 6 (20 + length p))) (fields_bytes (tcp_fields h 0)) bp

pub udp_finished : (s d : ℕ) (h : udp_hdr) (p : List ℕ) → Bytes p
    → nonzero (65535 - canon (canon (total (pseudo s d 17 (8 + length p))) + total (udp_header h 0) + total p)) ≡ udp_checksum s d h p
unfolding pseudo udp_header udp_checksum
udp_finished s d h p bp =
    ap nonzero
    (parts_checksum (pseudo s d 17 (8 + length p)) (udp_header h 0) p refl refl
    (fields_bytes (pseudo_fields s d 17 (8 + length p))) (fields_bytes (udp_fields h 0)) bp)

pub echo_finished : (h : icmp_hdr) (e : icmp_echo_hdr) (p : List ℕ) → Bytes p
    → 65535 - canon (0 + total (echo_header h e 0) + total p) ≡ echo_checksum h e p
unfolding total canon echo_header echo_checksum
echo_finished h e p bp = parts_checksum [] (echo_header h e 0) p refl refl (λ i. omega arith) (fields_bytes (echo_fields h e 0)) bp

pub transport_finished : (s d p : ℕ) (l : List ℕ) → Bytes l
    → 65535 - canon (canon (total (pseudo s d p (length l))) + total [] + total l) ≡ checksum (pseudo s d p (length l) ++ l)
unfolding pseudo
transport_finished s d p l bl =
    parts_checksum (pseudo s d p (length l)) [] l refl refl (fields_bytes (pseudo_fields s d p (length l))) (λ i. omega arith) bl
