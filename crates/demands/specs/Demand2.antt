-- Demand 2, as far as it is proved: "headers, lengths and checksums are proved to be those of RFC 791, 768, 792, 9293 and 1071". (That packets
-- and flow state equal the Rust's is shown by running: ./run vectors.)
use Rattle.std.specs.Prelude.{List, ◌++◌, ℕ, ◌+◌, length, take, drop}
use Rattle.pkt.specs.Fields.{Bytes}
use Rattle.pkt.specs.Rfc1071.{Verifies}
use Rattle.pkt.specs.Rfc768.{pseudo}
use Rattle.ezpkt.specs.Build.{packet_of}
use Rattle.ezpkt.specs.declared.build.Request.{Request}
use Rattle.ezpkt.specs.declared.build.Request.TheVariants.{Tcp, Udp, Echo}
use Rattle.ezpkt.specs.declared.build.TcpSegment.{TcpSegment}
use Rattle.ezpkt.specs.declared.build.UdpDatagram.{UdpDatagram}
use Rattle.ezpkt.specs.declared.build.IcmpEcho.{IcmpEcho}
use Rattle.demands.specs.Outputs.{BuiltAsOwed}

-- what stands behind the IPv4 header of a request's packet
abbrev pub transport_of : Request → List ℕ → List ℕ
transport_of q p = drop 20 (packet_of q p)

pub record Demand2 : Type 0 where
  -- "headers, lengths": what a call left is the packet whose headers `packet_of` takes from the RFCs, as long as its total length says, and the
  -- check answers what is owed.
  pub built : BuiltAsOwed
  -- "checksums": the IPv4 header verifies, RFC 791, 3.1;
  pub ip_sum : (q : Request) (p : List ℕ) → Verifies (take 20 (packet_of q p))
  -- a TCP segment behind its pseudo header, RFC 9293, 3.1;
  pub tcp_sum : (t : TcpSegment) (p : List ℕ) → Bytes p → Verifies (pseudo t.saddr t.daddr 6 (20 + length p) ++ transport_of (Tcp t) p)
  -- a UDP datagram behind its pseudo header, RFC 768 (one for which no checksum is asked is not built: document 02, T-09);
  pub udp_sum : (u : UdpDatagram) (p : List ℕ) → Bytes p → Verifies (pseudo u.saddr u.daddr 17 (8 + length p) ++ transport_of (Udp u) p)
  -- an ICMP echo, RFC 792.
  pub echo_sum : (e : IcmpEcho) (p : List ℕ) → Bytes p → Verifies (transport_of (Echo e) p)
