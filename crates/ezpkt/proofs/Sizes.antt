-- How long the packets are.
use Rattle.std.proofs.Common.{◌≡◌, ℕ, ◌+◌, List, length, arith, length-append}
use lib.Seq.{length-slice}
use Rattle.pkt.proofs.Headers.{ip_length, tcp_length, udp_length, echo_length}
use Rattle.ezpkt.specs.Build.{tcp_packet, udp_packet, echo_packet, piece_packet, start_of, end_of, packet_of, size_of}
use Rattle.ezpkt.specs.declared.build.TcpSegment.{TcpSegment}
use Rattle.ezpkt.specs.declared.build.UdpDatagram.{UdpDatagram}
use Rattle.ezpkt.specs.declared.build.IcmpEcho.{IcmpEcho}
use Rattle.ezpkt.specs.declared.build.IpPiece.{IpPiece}
use Rattle.ezpkt.specs.declared.build.Request.{Request}
use Rattle.ezpkt.specs.declared.build.Request.TheVariants.{Tcp, Udp, Echo, Piece}

pub tcp_size : (t : TcpSegment) (p : List ℕ) → length (tcp_packet t p) ≡ 40 + length p
unfolding tcp_packet
tcp_size t p = simp (length-append, ip_length, tcp_length) (omega arith)

udp_size : (u : UdpDatagram) (p : List ℕ) → length (udp_packet u p) ≡ 28 + length p
unfolding udp_packet
udp_size u p = simp (length-append, ip_length, udp_length) (omega arith)

echo_size : (e : IcmpEcho) (p : List ℕ) → length (echo_packet e p) ≡ 28 + length p
unfolding echo_packet
echo_size e p = simp (length-append, ip_length, echo_length) (omega arith)

piece_size_lem : (q : IpPiece) (p : List ℕ) → length (piece_packet q p) ≡ size_of (Piece q) (length p)
unfolding piece_packet
piece_size_lem q p =
    let e = length-slice (start_of q (length p)) (end_of q (length p)) p (omega arith) in
    simp (length-append, ip_length, e)

-- A packet is as long as its size says.
pub size_is : (q : Request) (p : List ℕ) → length (packet_of q p) ≡ size_of q (length p)
size_is (Tcp t) p = tcp_size t p
size_is (Udp u) p = udp_size u p
size_is (Echo e) p = echo_size e p
size_is (Piece q) p = piece_size_lem q p
