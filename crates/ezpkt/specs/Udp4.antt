-- Datagrams of a flow: document 01, 'Bytes of a header', the UDP choices.
use Rattle.std.specs.Prelude.{ℕ, Option, Some, None}
use Rattle.ezpkt.specs.Build.{unmarked}
use Rattle.ezpkt.specs.declared.SocketAddrV4.{SocketAddrV4}
use Rattle.ezpkt.specs.declared.Marks.{Marks}
use Rattle.ezpkt.specs.declared.build.UdpDatagram.{UdpDatagram}
use Rattle.ezpkt.specs.declared.udp4.UdpFlow.{UdpFlow}
use Rattle.ezpkt.specs.declared.udp4.Choices.{Choices}

abbrev pub new_udp_flow : SocketAddrV4 → SocketAddrV4 → UdpFlow
new_udp_flow cl sv = record { cl = cl; sv = sv; marks = unmarked }

abbrev pub udp_marked : UdpFlow → Marks → UdpFlow
udp_marked f m = record { cl = f.cl; sv = f.sv; marks = m }

-- the source address: the flow's, or the one chosen
abbrev pub source_of : ℕ → Option ℕ → ℕ
source_of own None = own
source_of own (Some ip) = ip

-- from one end to the other, with the flow's marks and the choices of srcip, frag_off and checksum; the checksum is over the source chosen
abbrev pub dgram_of : Marks → SocketAddrV4 → SocketAddrV4 → Choices → UdpDatagram
dgram_of m from to x =
    record {
      saddr = source_of from.ip x.srcip;
      daddr = to.ip;
      sport = from.port;
      dport = to.port;
      frag_off = x.frag_off;
      csum = x.csum;
      marks = m;
    }
