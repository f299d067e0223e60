-- What is built verifies: each packet's IPv4 header, and its transport checksum where it has one. The length that is answered is the
-- packet's, and its total length.
use Rattle.std.proofs.Common.{◌≡◌, ℕ, ◌+◌, ◌≤◌, List, ◌++◌, length, take, drop, sym, refl, ap, ◌∙◌, arith, take_at, drop_at}
use Rattle.pkt.specs.Answers.{Answer, gives, says}
use Rattle.pkt.specs.Fields.{value, Field, field, Bytes, widths}
use Rattle.pkt.specs.Rfc1071.{Verifies, checksum}
use Rattle.pkt.specs.Rfc791.{ip_fields, ip_bytes, ip_header}
use Rattle.pkt.specs.Rfc768.{pseudo}
use Rattle.pkt.specs.Rfc792.{icmp_new, echo_new}
use Rattle.pkt.specs.Written.{written, leaves}
use Rattle.pkt.specs.declared.ipv4.ip_hdr.{ip_hdr}
use Rattle.pkt.proofs.Fields.{field_at_lem}
use Rattle.pkt.proofs.Headers.{ip_length, ip_verifies, tcp_verifies, udp_verifies, echo_verifies}
use Rattle.ezpkt.specs.Build.{flow_ip, tcp_hdr_of, udp_hdr_of, echo_type, tcp_packet, udp_packet, echo_packet, piece_packet, packet_of, size_of, answer_of, Answered, BuiltTotal}
use Rattle.ezpkt.specs.declared.build.TcpSegment.{TcpSegment}
use Rattle.ezpkt.specs.declared.build.UdpDatagram.{UdpDatagram}
use Rattle.ezpkt.specs.declared.build.IcmpEcho.{IcmpEcho}
use Rattle.ezpkt.specs.declared.build.Request.{Request}
use Rattle.ezpkt.specs.declared.build.Request.TheVariants.{Tcp, Udp, Echo, Piece}
use Rattle.std.specs.Prelude.{Result}
use Rattle.pkt.specs.declared.refusal.Refusal.{Refusal}
use Rattle.ezpkt.proofs.Deciding.{gives_size, gives_short}
use Rattle.ezpkt.proofs.Sizes.{size_is}

-- A packet begins with a header, which has the packet's size as its total length.
headed : (q : Request) (p : List ℕ)
    → (h : ip_hdr) × (t : List ℕ) × (packet_of q p ≡ ip_header h ++ t) × (h.tot_len ≡ size_of q (length p))
unfolding tcp_packet udp_packet echo_packet piece_packet
headed (Tcp t) p = (_, _, refl, refl)
headed (Udp u) p = (_, _, refl, refl)
headed (Echo e) p = (_, _, refl, refl)
headed (Piece q) p = (_, _, refl, refl)

-- The IPv4 header of every packet verifies.
pub header_verifies : (q : Request) (p : List ℕ) → Verifies (take 20 (packet_of q p))
header_verifies q p = let (h, t, e, _) = headed q p in rw (e, take_at (ip_header h) _ 20 (ip_length h)) (ip_verifies h)

-- what stands behind an IPv4 header
pub behind : (h : ip_hdr) (t : List ℕ) → drop 20 (ip_header h ++ t) ≡ t
behind h t = drop_at (ip_header h) t 20 (ip_length h)

-- A TCP segment's checksum verifies,
pub tcp_sum_verifies : (t : TcpSegment) (p : List ℕ) → Bytes p → Verifies (pseudo t.saddr t.daddr 6 (20 + length p) ++ drop 20 (tcp_packet t p))
unfolding tcp_packet
tcp_sum_verifies t p bp =
    rw (behind (flow_ip t.marks 6 (40 + length p) t.frag_off t.saddr t.daddr)) (tcp_verifies t.saddr t.daddr p bp (tcp_hdr_of t))

-- a UDP datagram's,
pub udp_sum_verifies : (u : UdpDatagram) (p : List ℕ) → Bytes p
    → Verifies (pseudo u.saddr u.daddr 17 (8 + length p) ++ drop 20 (udp_packet u p))
unfolding udp_packet
udp_sum_verifies u p bp =
    rw (behind (flow_ip u.marks 17 (28 + length p) u.frag_off u.saddr u.daddr))
    (udp_verifies u.saddr u.daddr p bp (udp_hdr_of u (length p)))

-- and an echo's verifies with nothing before it.
pub echo_sum_verifies : (e : IcmpEcho) (p : List ℕ) → Bytes p → Verifies (drop 20 (echo_packet e p))
unfolding echo_packet
echo_sum_verifies e p bp =
    rw (behind (flow_ip e.marks 1 (28 + length p) 0 e.saddr e.daddr)) (echo_verifies (icmp_new (echo_type e.reply)) (echo_new e.seq) p bp)

-- Where a length is answered, the packet stands at the start of the output,
pub packet_front : (q : Request) (p o o' : List ℕ) (n : ℕ) → answer_of q (length p) (length o) ≡ gives n
    → o' ≡ leaves (answer_of q (length p) (length o)) (packet_of q p) o → take n o' ≡ packet_of q p
unfolding written
packet_front q p o o' n a e =
    let size : length (packet_of q p) ≡ n = size_is q p ∙ gives_size q (length p) (length o) n a in
    rw (e ∙ ap (λ (s : Answer ℕ). leaves s (packet_of q p) o) a, take_at (packet_of q p) _ n size)

-- and that is the packet's length.
pub built_packet : (q : Request) (p o o' : List ℕ) (r : Result ℕ Refusal) (n : ℕ) → Answered q p o r o' → says r ≡ gives n
    → (length (packet_of q p) ≡ n) × (take n o' ≡ packet_of q p)
built_packet q p o o' r n x e =
    let a : answer_of q (length p) (length o) ≡ gives n = sym x.answer ∙ e in
    (size_is q p ∙ gives_size q (length p) (length o) n a, packet_front q p o o' n a x.after)

-- the total length's field: bytes 2 and 3
total_at : (h : ip_hdr) (t : List ℕ) → h.tot_len ≤ 65535 → value 0 (take 2 (drop 2 (ip_header h ++ t))) ≡ h.tot_len
unfolding ip_header ip_bytes widths
total_at h t few =
    let all : List Field = ip_fields h (checksum (ip_bytes h 0)) in
    field_at_lem (take 2 all) (field 2 h.tot_len) (drop 3 all) t ∙ omega arith

pub built_total : BuiltTotal
built_total q p o o' r n x e =
    let (h, t, is, size) = headed q p in
    let a : answer_of q (length p) (length o) ≡ gives n = sym x.answer ∙ e in
    let total : h.tot_len ≡ n = size ∙ gives_size q (length p) (length o) n a in
    rw is (total_at h t (omega (arith, gives_short q (length p) (length o) n a)) ∙ total)
