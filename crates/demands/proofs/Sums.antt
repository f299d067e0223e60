-- A packet that is built is mended to itself, since it was encoded with the sums that mending works out; with other addresses in its header it is
-- mended to the one that is built with them.
use mathlib.Core.Path.{◌≡◌, refl, ap, ◌∙◌, subst}
use mathlib.Core.Bool.{Bool, true, false}
use mathlib.Core.List.{List, [], ◌++◌, append-nil}
use Prim.Native.Nat.{ℕ, ◌+◌, ◌≤◌}
use native.Mathlib.Omega.{arith}
use lib.ListN.{length, take, drop}
use Rattle.pkt.specs.Fields.{be, Bytes}
use Rattle.pkt.specs.Rfc1071.{checksum}
use Rattle.pkt.specs.Rfc768.{udp_header, udp_checksum}
use Rattle.pkt.specs.Rfc791.{ip_bytes, ip_header}
use Rattle.pkt.specs.Rfc792.{echo_header, echo_checksum, icmp_new, echo_new}
use Rattle.pkt.specs.Rfc9293.{tcp_header, tcp_checksum}
use Rattle.pkt.specs.declared.ipv4.ip_hdr.{ip_hdr}
use Rattle.pkt.specs.declared.ipv4.udp_hdr.{udp_hdr}
use Rattle.pkt.specs.declared.ipv4.icmp_hdr.{icmp_hdr}
use Rattle.pkt.specs.declared.ipv4.icmp_echo_hdr.{icmp_echo_hdr}
use Rattle.pkt.proofs.Bytes.{bytes_nil, bytes_append}
use Rattle.pkt.proofs.Fields.{be_bytes}
use Rattle.pkt.proofs.Checksum.{checksum_most, nonzero_range}
use Rattle.ezpkt.specs.Build.{flow_ip, tcp_hdr_of, tcp_packet, udp_hdr_of, udp_packet, echo_type, echo_packet, packet_of}
use Rattle.ezpkt.specs.declared.Marks.{Marks}
use Rattle.ezpkt.specs.declared.build.TcpSegment.{TcpSegment}
use Rattle.ezpkt.specs.declared.build.UdpDatagram.{UdpDatagram}
use Rattle.ezpkt.specs.declared.build.IcmpEcho.{IcmpEcho}
use Rattle.ezpkt.specs.declared.build.Request.{Request}
use Rattle.ezpkt.specs.declared.build.Request.TheVariants.{Tcp, Udp, Echo, Piece}
use Rattle.ezpkt.proofs.Deciding.{sized_fits, datagram_fits}
use Rattle.inspect.specs.Check.{is_piece}
use Rattle.inspect.specs.Encoded.{read_of, IpFit}
use Rattle.inspect.proofs.Numbers.{take_bytes, drop_bytes}
use Rattle.mending.specs.Sums.{sums_in, mend_packet}
use Rattle.mending.specs.Packets.{AllRight}
use Rattle.mending.proofs.Packets.{packets_mended}
use Rattle.mending.proofs.Encoded.{ip_bytes_lem, evil_kept, piece_kept, tcp_size, tcp_bytes, tcp_mended, udp_size, udp_bytes, udp_mended, echo_size, echo_bytes, echo_mended}
use Rattle.demands.specs.Ranges.{Between}
use Rattle.demands.specs.Mending.{Asked, Transport, Whole, readdressed, between}
use Rattle.demands.proofs.Parts.{flow_fit}

-- ---- an encoded header with its data part d

encoded_bytes : (h : ip_hdr) (d : List ℕ) → Bytes d → Bytes (ip_header h ++ d)
unfolding ip_header
encoded_bytes h d bd = bytes_append (ip_header h) d (ip_bytes_lem h (checksum (ip_bytes h 0))) bd

module _ (h : ip_hdr) (fit : IpFit h) (d : List ℕ) (total : h.tot_len ≡ 20 + length d) where
  -- A piece, and a packet whose reserved bit is set, is mended to itself whatever its sums are.
  itself : ((read_of h).evil ≡ false → is_piece (read_of h) ≡ false → mend_packet (ip_header h ++ d) ≡ ip_header h ++ d) → mend_packet (ip_header h ++ d) ≡ ip_header h ++ d
  unfolding ip_header
  itself whole = go (read_of h).evil (is_piece (read_of h)) refl refl
    where
      x : ℕ
      x = checksum (ip_bytes h 0)

      go : (e t : Bool) → (read_of h).evil ≡ e → is_piece (read_of h) ≡ t → mend_packet (ip_header h ++ d) ≡ ip_header h ++ d
      go true t set piece = simp append-nil at (evil_kept h fit x d [] total set)
      go false true clear piece = simp append-nil at (piece_kept h fit x d [] total clear piece)
      go false false clear piece = whole clear piece

  -- What is mended to itself has nothing to mend.
  pub right : Bytes d → ((read_of h).evil ≡ false → is_piece (read_of h) ≡ false → mend_packet (ip_header h ++ d) ≡ ip_header h ++ d) → AllRight (sums_in (ip_header h ++ d))
  right bd whole = subst (λ (l : List ℕ). AllRight (sums_in l)) (itself whole) (packets_mended.right_then (ip_header h ++ d) (encoded_bytes h d bd))

-- ---- other addresses in the header

readdressed_is : (m : Marks) (k size frag s d s' d' : ℕ) (l : List ℕ)
    → readdressed s' d' (ip_header (flow_ip m k size frag s d) ++ l) ≡ ip_bytes (flow_ip m k size frag s' d') (checksum (ip_bytes (flow_ip m k size frag s d) 0)) ++ l
unfolding ip_header ip_bytes
readdressed_is m k size frag s d s' d' l = refl

-- ---- TCP

module _ (t : TcpSegment) (p : List ℕ) (a : Asked (Tcp t) p) where
  -- the header between any addresses
  abbrev tcp_ip : ℕ → ℕ → ip_hdr
  tcp_ip s d = flow_ip t.marks 6 (40 + length p) t.frag_off s d

  tcp_fit : (s d : ℕ) → Between s d → IpFit (tcp_ip s d)
  tcp_fit s d ends =
      let few = (sized_fits 65495 40 (length p) a.room a.size a.taken).few in
      flow_fit t.marks 6 (40 + length p) t.frag_off s d (omega arith) (omega arith) a.range.0 ends a.range.2

  -- with any numbers for the sums
  tcp_mends : (s d x c : ℕ) → Between s d → Whole (Tcp t)
      → mend_packet (ip_bytes (tcp_ip s d) x ++ (tcp_header (tcp_hdr_of t) c ++ p)) ≡ ip_header (tcp_ip s d) ++ (tcp_header (tcp_hdr_of t) (tcp_checksum s d (tcp_hdr_of t) p) ++ p)
  unfolding read_of
  tcp_mends s d x c ends (clear, piece) =
      let total : 40 + length p ≡ 20 + length (tcp_header (tcp_hdr_of t) c ++ p) = omega (arith, tcp_size p c (tcp_hdr_of t)) in
      simp append-nil at (tcp_mended (tcp_ip s d) (tcp_fit s d ends) clear piece x p [] a.bytes bytes_nil (tcp_hdr_of t) c refl total)

  tcp_right : AllRight (sums_in (tcp_packet t p))
  unfolding tcp_packet read_of ip_header
  tcp_right =
      let ends = a.range.1 in
      let c : ℕ = tcp_checksum t.saddr t.daddr (tcp_hdr_of t) p in
      right (tcp_ip t.saddr t.daddr) (tcp_fit t.saddr t.daddr ends) (tcp_header (tcp_hdr_of t) c ++ p) (omega (arith, tcp_size p c (tcp_hdr_of t)))
      (tcp_bytes p c (tcp_hdr_of t) a.bytes) (λ clear piece. tcp_mends t.saddr t.daddr _ c ends (clear, piece))

  tcp_moved : (s d : ℕ) → Between s d → Whole (Tcp t) → mend_packet (readdressed s d (tcp_packet t p)) ≡ packet_of (between s d (Tcp t)) p
  unfolding tcp_packet
  tcp_moved s d ends whole =
      ap mend_packet (readdressed_is t.marks 6 (40 + length p) t.frag_off t.saddr t.daddr s d _) ∙ tcp_mends s d _ _ ends whole

-- ---- UDP

pub udp_range : (s d : ℕ) (y : udp_hdr) (p : List ℕ) → (1 ≤ udp_checksum s d y p) × (udp_checksum s d y p ≤ 65535)
unfolding udp_checksum
udp_range s d y p = nonzero_range _ (checksum_most _)

module _ (u : UdpDatagram) (p : List ℕ) (a : Asked (Udp u) p) where
  abbrev udp_ip : ℕ → ℕ → ip_hdr
  udp_ip s d = flow_ip u.marks 17 (28 + length p) u.frag_off s d

  abbrev y : udp_hdr
  y = udp_hdr_of u (length p)

  udp_fit : (s d : ℕ) → Between s d → IpFit (udp_ip s d)
  udp_fit s d ends =
      let few = (datagram_fits u (length p) a.room a.size a.taken).few in
      flow_fit u.marks 17 (28 + length p) u.frag_off s d (omega arith) (omega arith) a.range.0 ends a.range.2

  -- with any number but 0 for the checksum
  udp_mends : (s d x c : ℕ) → Between s d → (1 ≤ c) × (c ≤ 65535) → Whole (Udp u)
      → mend_packet (ip_bytes (udp_ip s d) x ++ (udp_header y c ++ p)) ≡ ip_header (udp_ip s d) ++ (udp_header y (udp_checksum s d y p) ++ p)
  unfolding read_of
  udp_mends s d x c ends (some, most) (clear, piece) =
      let total : 28 + length p ≡ 20 + length (udp_header y c ++ p) = omega (arith, udp_size p c y) in
      simp append-nil at (udp_mended (udp_ip s d) (udp_fit s d ends) clear piece x p [] a.bytes bytes_nil y c some most refl refl total)

  udp_right : AllRight (sums_in (udp_packet u p))
  unfolding udp_packet read_of ip_header
  udp_right =
      let ends = a.range.1 in
      let c : ℕ = udp_checksum u.saddr u.daddr y p in
      right (udp_ip u.saddr u.daddr) (udp_fit u.saddr u.daddr ends) (udp_header y c ++ p) (omega (arith, udp_size p c y)) (udp_bytes p c y a.bytes)
      (λ clear piece. udp_mends u.saddr u.daddr _ c ends (udp_range u.saddr u.daddr y p) (clear, piece))

  udp_moved : (s d : ℕ) → Between s d → Whole (Udp u) → mend_packet (readdressed s d (udp_packet u p)) ≡ packet_of (between s d (Udp u)) p
  unfolding udp_packet
  udp_moved s d ends whole =
      ap mend_packet (readdressed_is u.marks 17 (28 + length p) u.frag_off u.saddr u.daddr s d _)
      ∙ udp_mends s d _ _ ends (udp_range u.saddr u.daddr y p) whole

-- ---- ICMP

module _ (e : IcmpEcho) (p : List ℕ) (a : Asked (Echo e) p) where
  abbrev echo_ip : ℕ → ℕ → ip_hdr
  echo_ip s d = flow_ip e.marks 1 (28 + length p) 0 s d

  abbrev i : icmp_hdr
  i = icmp_new (echo_type e.reply)

  abbrev n : icmp_echo_hdr
  n = echo_new e.seq

  echo_fit : (s d : ℕ) → Between s d → IpFit (echo_ip s d)
  echo_fit s d ends =
      let few = (sized_fits 65507 28 (length p) a.room a.size a.taken).few in
      flow_fit e.marks 1 (28 + length p) 0 s d (omega arith) (omega arith) (omega arith) ends a.range.1

  echo_mends : (s d x c : ℕ) → Between s d
      → mend_packet (ip_bytes (echo_ip s d) x ++ (echo_header i n c ++ p)) ≡ ip_header (echo_ip s d) ++ (echo_header i n (echo_checksum i n p) ++ p)
  unfolding read_of
  echo_mends s d x c ends =
      let total : 28 + length p ≡ 20 + length (echo_header i n c ++ p) = omega (arith, echo_size p c i n) in
      simp append-nil at (echo_mended (echo_ip s d) (echo_fit s d ends) refl refl x p [] a.bytes bytes_nil i n c refl total)

  echo_right : AllRight (sums_in (echo_packet e p))
  unfolding echo_packet ip_header
  echo_right =
      let c : ℕ = echo_checksum i n p in
      right (echo_ip e.saddr e.daddr) (echo_fit e.saddr e.daddr a.range.0) (echo_header i n c ++ p) (omega (arith, echo_size p c i n))
      (echo_bytes p c i n a.bytes) (λ clear piece. echo_mends e.saddr e.daddr _ c a.range.0)

  echo_moved : (s d : ℕ) → Between s d → mend_packet (readdressed s d (echo_packet e p)) ≡ packet_of (between s d (Echo e)) p
  unfolding echo_packet
  echo_moved s d ends = ap mend_packet (readdressed_is e.marks 1 (28 + length p) 0 e.saddr e.daddr s d _) ∙ echo_mends s d _ _ ends

-- ---- all

pub built_right : (q : Request) (p : List ℕ) → Asked q p → Transport q → AllRight (sums_in (packet_of q p))
built_right (Tcp t) p a _ = tcp_right t p a
built_right (Udp u) p a _ = udp_right u p a
built_right (Echo e) p a _ = echo_right e p a
built_right (Piece q) p a none = absurd none

pub moved_mended : (q : Request) (p : List ℕ) (s d : ℕ) → Asked q p → Whole q → Between s d → mend_packet (readdressed s d (packet_of q p)) ≡ packet_of (between s d q) p
moved_mended (Tcp t) p s d a w b = tcp_moved t p a s d b w
moved_mended (Udp u) p s d a w b = udp_moved u p a s d b w
moved_mended (Echo e) p s d a w b = echo_moved e p a s d b
moved_mended (Piece q) p s d a w b = absurd w

whole_bytes : (q : Request) (p : List ℕ) → Bytes p → Whole q → Bytes (packet_of q p)
unfolding tcp_packet udp_packet echo_packet
whole_bytes (Tcp t) p bp w =
    encoded_bytes (flow_ip t.marks 6 (40 + length p) t.frag_off t.saddr t.daddr) _ (tcp_bytes p (tcp_checksum t.saddr t.daddr (tcp_hdr_of t) p) (tcp_hdr_of t) bp)
whole_bytes (Udp u) p bp w =
    encoded_bytes (flow_ip u.marks 17 (28 + length p) u.frag_off u.saddr u.daddr) _ (udp_bytes p (udp_checksum u.saddr u.daddr (udp_hdr_of u (length p)) p) (udp_hdr_of u (length p)) bp)
whole_bytes (Echo e) p bp w =
    let i : icmp_hdr = icmp_new (echo_type e.reply) in
    let n : icmp_echo_hdr = echo_new e.seq in
    encoded_bytes (flow_ip e.marks 1 (28 + length p) 0 e.saddr e.daddr) _ (echo_bytes p (echo_checksum i n p) i n bp)
whole_bytes (Piece q) p bp w = absurd w

pub moved_bytes : (q : Request) (p : List ℕ) (s d : ℕ) → Bytes p → Whole q → Bytes (readdressed s d (packet_of q p))
moved_bytes q p s d bp w =
    let l : List ℕ = packet_of q p in
    let b : Bytes l = whole_bytes q p bp w in
    bytes_append (take 12 l) (be 4 s ++ (be 4 d ++ drop 20 l)) (take_bytes 12 l b)
    (bytes_append (be 4 s) (be 4 d ++ drop 20 l) (be_bytes 4 s) (bytes_append (be 4 d) (drop 20 l) (be_bytes 4 d) (drop_bytes 20 l b)))
