-- What a request to build is answered, and what it leaves in the lent buffer: document 01, 'Bytes of a header', 'Pieces' and
-- 'Numbered answers'.
use Rattle.std.specs.Prelude.{◌≡◌, ℕ, ◌+◌, ◌-◌, ◌*◌, min, Bool, cond, not, List, ◌++◌, length, take, drop, ◌==◌, nat_lt, Result}
use Rattle.std.proofs.Math.Seq.{slice}
use Rattle.pkt.specs.Answers.{Answer, refused, gives, says, fitting, most_tcp, most_udp, most_ip, most_offset}
use Rattle.pkt.specs.Fields.{value}
use Rattle.pkt.specs.Rfc791.{ip_header, ip_default}
use Rattle.pkt.specs.Rfc768.{udp_header, udp_checksum}
use Rattle.pkt.specs.Rfc9293.{tcp_header, tcp_checksum}
use Rattle.pkt.specs.Rfc792.{echo_header, echo_checksum, icmp_new, echo_new}
use Rattle.pkt.specs.declared.ipv4.ip_hdr.{ip_hdr}
use Rattle.pkt.specs.declared.ipv4.tcp_hdr.{tcp_hdr}
use Rattle.pkt.specs.declared.ipv4.udp_hdr.{udp_hdr}
use Rattle.pkt.specs.Written.{Wrote}
use Rattle.pkt.specs.declared.refusal.Refusal.{Refusal}
use Rattle.ezpkt.specs.declared.Marks.{Marks}
use Rattle.ezpkt.specs.declared.build.TcpSegment.{TcpSegment}
use Rattle.ezpkt.specs.declared.build.UdpDatagram.{UdpDatagram}
use Rattle.ezpkt.specs.declared.build.IcmpEcho.{IcmpEcho}
use Rattle.ezpkt.specs.declared.build.IpPiece.{IpPiece}
use Rattle.ezpkt.specs.declared.build.Request.{Request}
use Rattle.ezpkt.specs.declared.build.Request.TheVariants.{Tcp, Udp, Echo, Piece}

-- Document 02, T-12: "With TOS 0 and TTL 64 all packets equal the Rust's as before": those of a new flow
abbrev pub unmarked : Marks
unmarked = record { tos = ip_default.tos; ttl = ip_default.ttl }

-- The IPv4 header of a packet with no template, the one definition for all of them: the id is the default; TOS and TTL, protocol p, total length,
-- flags and offset, source and destination are given.
abbrev pub flow_ip : Marks → ℕ → ℕ → ℕ → ℕ → ℕ → ip_hdr
flow_ip m p size frag s d =
    record {
      tos = m.tos;
      tot_len = size;
      id = ip_default.id;
      frag_off = frag;
      ttl = m.ttl;
      protocol = p;
      saddr = s;
      daddr = d;
    }

-- ---- a TCP segment

abbrev pub tcp_hdr_of : TcpSegment → tcp_hdr
tcp_hdr_of t = record { sport = t.sport; dport = t.dport; seq = t.seq; ack = t.ack; flags = t.flags }

unfoldable pub tcp_packet : TcpSegment → List ℕ → List ℕ
tcp_packet t p =
    ip_header (flow_ip t.marks 6 (40 + length p) t.frag_off t.saddr t.daddr)
    ++ (tcp_header (tcp_hdr_of t) (tcp_checksum t.saddr t.daddr (tcp_hdr_of t) p) ++ p)

-- ---- a UDP datagram

abbrev pub udp_hdr_of : UdpDatagram → ℕ → udp_hdr
udp_hdr_of u n = record { sport = u.sport; dport = u.dport; len = 8 + n }

unfoldable pub udp_packet : UdpDatagram → List ℕ → List ℕ
udp_packet u p =
    ip_header (flow_ip u.marks 17 (28 + length p) u.frag_off u.saddr u.daddr)
    ++ (udp_header (udp_hdr_of u (length p)) (udp_checksum u.saddr u.daddr (udp_hdr_of u (length p)) p) ++ p)

-- ---- an ICMP echo

-- "type 8 or 0"
abbrev pub echo_type : Bool → ℕ
echo_type reply = cond reply 0 8

unfoldable pub echo_packet : IcmpEcho → List ℕ → List ℕ
echo_packet e p =
    ip_header (flow_ip e.marks 1 (28 + length p) 0 e.saddr e.daddr)
    ++ (echo_header (icmp_new (echo_type e.reply)) (echo_new e.seq) (echo_checksum (icmp_new (echo_type e.reply)) (echo_new e.seq) p) ++ p)

-- ---- a piece

-- "carries bytes min(8·off, n) up to, not including, min(8·off + 8·len, n)": where len blocks from block off begin and end in n bytes
abbrev pub start_at : ℕ → ℕ → ℕ
start_at off n = min (8 * off) n

abbrev pub end_at : ℕ → ℕ → ℕ → ℕ
end_at off len n = min (8 * off + 8 * len) n

-- the length of their packet
abbrev pub fragment_size : ℕ → ℕ → ℕ → ℕ
fragment_size off len n = 20 + (end_at off len n - start_at off n)

abbrev pub start_of : IpPiece → ℕ → ℕ
start_of q n = start_at q.off n

abbrev pub end_of : IpPiece → ℕ → ℕ
end_of q n = end_at q.off q.len n

-- the bit n where b holds, and no bit where it does not
abbrev pub flag_bit : Bool → ℕ → ℕ
flag_bit b n = cond b n 0

-- "MF is set exactly if that end is not n"
abbrev pub more_follow : IpPiece → ℕ → Bool
more_follow q n = not (end_of q n == n)

-- the template's reserved and DF bits, MF, and the offset
abbrev pub piece_flags : IpPiece → Bool → ℕ
piece_flags q mf = flag_bit q.template.evil 0x8000 + flag_bit q.template.df 0x4000 + flag_bit mf 0x2000 + q.off

abbrev pub piece_ip : IpPiece → ℕ → Bool → ip_hdr
piece_ip q size mf =
    record {
      tos = q.template.tos;
      tot_len = size;
      id = q.template.id;
      frag_off = piece_flags q mf;
      ttl = q.template.ttl;
      protocol = q.template.protocol;
      saddr = q.template.saddr;
      daddr = q.template.daddr;
    }

-- the length of a piece's packet, for a payload of n bytes
abbrev pub piece_size : IpPiece → ℕ → ℕ
piece_size q n = fragment_size q.off q.len n

unfoldable pub piece_packet : IpPiece → List ℕ → List ℕ
piece_packet q p =
    ip_header (piece_ip q (piece_size q (length p)) (more_follow q (length p)))
    ++ slice (start_of q (length p)) (end_of q (length p)) p

-- ---- all four

-- the packet that a request and its payload are
abbrev pub packet_of : Request → List ℕ → List ℕ
packet_of (Tcp t) p = tcp_packet t p
packet_of (Udp u) p = udp_packet u p
packet_of (Echo e) p = echo_packet e p
packet_of (Piece q) p = piece_packet q p

-- its length, for a payload of n bytes
abbrev pub size_of : Request → ℕ → ℕ
size_of (Tcp t) n = 40 + n
size_of (Udp u) n = 28 + n
size_of (Echo e) n = 28 + n
size_of (Piece q) n = piece_size q n

-- Refusals 1 and 3: n bytes behind head bytes, at most `most` of them, and room for so many.
abbrev pub sized_answer : ℕ → ℕ → ℕ → ℕ → Answer ℕ
sized_answer most head n room = cond (nat_lt most n) (refused 1) (fitting (head + n) room)

-- Document 02, T-09: "The builder refuses a datagram with no checksum asked for. .. Refusals: 22, first of the building order for UDP."
abbrev pub datagram_answer : UdpDatagram → ℕ → ℕ → Answer ℕ
datagram_answer u n room = cond u.csum (sized_answer most_udp 28 n room) (refused 22)

-- Number 2: "piece offset above 8,191"
abbrev pub is_bad_offset : ℕ → Bool
is_bad_offset off = nat_lt most_offset off

-- Refusals 1, 2 and 3.
abbrev pub fragment_answer : IpPiece → ℕ → ℕ → Answer ℕ
fragment_answer q n room =
    cond (nat_lt most_ip n) (refused 1) (cond (is_bad_offset q.off) (refused 2) (fitting (piece_size q n) room))

-- the answer, for a payload of n bytes and room for so many
abbrev pub answer_of : Request → ℕ → ℕ → Answer ℕ
answer_of (Tcp t) n room = sized_answer most_tcp 40 n room
answer_of (Udp u) n room = datagram_answer u n room
answer_of (Echo e) n room = sized_answer most_udp 28 n room
answer_of (Piece q) n room = fragment_answer q n room

-- A call's whole promise: for a request, a payload p and a buffer o before, the one answer and the one buffer after.
abbrev pub Answered : Request → List ℕ → List ℕ → Result ℕ Refusal → List ℕ → Type 0
Answered q p o r o' = Wrote says (answer_of q (length p) (length o)) (packet_of q p) o r o'

-- "the length is the total length written": a length that is answered is the number in the packet's field of its total length, bytes 2 and 3.
abbrev pub BuiltTotal : Type 0
BuiltTotal =
    (q : Request) (p o o' : List ℕ) (r : Result ℕ Refusal) (n : ℕ) → Answered q p o r o' → says r ≡ gives n
    → value 0 (take 2 (drop 2 (packet_of q p))) ≡ n
