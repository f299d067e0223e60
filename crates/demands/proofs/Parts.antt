-- What is built is a header with its data part, as long as the header says.
use mathlib.Core.Path.{◌≡◌, refl}
use mathlib.Core.List.{List, ◌++◌}
use Prim.Native.Nat.{ℕ, ◌+◌, ◌-◌, ◌≤◌, ◌<◌}
use native.Mathlib.Omega.{arith}
use lib.ListN.{length}
use lib.Seq.{slice, length-slice}
use Rattle.pkt.specs.Rfc791.{ip_header}
use Rattle.pkt.specs.Rfc768.{udp_header, udp_checksum}
use Rattle.pkt.specs.Rfc9293.{tcp_header, tcp_checksum}
use Rattle.pkt.specs.Rfc792.{echo_header, echo_checksum, icmp_new, echo_new}
use Rattle.ezpkt.specs.Build.{flow_ip, tcp_hdr_of, tcp_packet, udp_hdr_of, udp_packet, echo_type, echo_packet, start_of, end_of, more_follow, piece_ip, piece_packet, packet_of}
use Rattle.ezpkt.specs.declared.Marks.{Marks}
use Rattle.ezpkt.specs.declared.build.TcpSegment.{TcpSegment}
use Rattle.ezpkt.specs.declared.build.UdpDatagram.{UdpDatagram}
use Rattle.ezpkt.specs.declared.build.IcmpEcho.{IcmpEcho}
use Rattle.ezpkt.specs.declared.build.IpPiece.{IpPiece}
use Rattle.ezpkt.specs.declared.build.Request.{Request}
use Rattle.ezpkt.specs.declared.build.Request.TheVariants.{Tcp, Udp, Echo, Piece}
use Rattle.ezpkt.proofs.Deciding.{sized_fits, datagram_fits, piece_fits}
use Rattle.inspect.specs.Encoded.{IpFit}
use Rattle.mending.proofs.Encoded.{tcp_size, udp_size, echo_size}
use Rattle.demands.specs.Ranges.{Fitting, Between, Marked, InRange}
use Rattle.demands.specs.Mending.{Asked}
use Rattle.demands.specs.Options.{Parts}
use Rattle.demands.proofs.Pieces.{piece_fit}

pub flow_fit : (m : Marks) (p size frag s d : ℕ) → p < 256 → size < 65536 → frag < 65536 → Between s d → Marked m → IpFit (flow_ip m p size frag s d)
flow_fit m p size frag s d hp hn hf hb hm =
    record {
      tos = hm.0;
      total = hn;
      id = omega arith;
      frag = hf;
      ttl = hm.1;
      protocol = hp;
      saddr = hb.0;
      daddr = hb.1;
    }

abbrev pub tcp_parts : (t : TcpSegment) (p : List ℕ) → InRange (Tcp t) → length p ≤ 65495 → Parts
tcp_parts t p range few =
    record {
      header = flow_ip t.marks 6 (40 + length p) t.frag_off t.saddr t.daddr;
      part = tcp_header (tcp_hdr_of t) (tcp_checksum t.saddr t.daddr (tcp_hdr_of t) p) ++ p;
      fits = flow_fit t.marks 6 (40 + length p) t.frag_off t.saddr t.daddr (omega arith) (omega arith) range.0 range.1 range.2;
      total = omega (arith, tcp_size p (tcp_checksum t.saddr t.daddr (tcp_hdr_of t) p) (tcp_hdr_of t));
    }

abbrev pub udp_parts : (u : UdpDatagram) (p : List ℕ) → InRange (Udp u) → length p ≤ 65507 → Parts
udp_parts u p range few =
    record {
      header = flow_ip u.marks 17 (28 + length p) u.frag_off u.saddr u.daddr;
      part = udp_header (udp_hdr_of u (length p)) (udp_checksum u.saddr u.daddr (udp_hdr_of u (length p)) p) ++ p;
      fits = flow_fit u.marks 17 (28 + length p) u.frag_off u.saddr u.daddr (omega arith) (omega arith) range.0 range.1 range.2;
      total = omega (arith, udp_size p (udp_checksum u.saddr u.daddr (udp_hdr_of u (length p)) p) (udp_hdr_of u (length p)));
    }

abbrev pub echo_parts : (e : IcmpEcho) (p : List ℕ) → InRange (Echo e) → length p ≤ 65507 → Parts
echo_parts e p range few =
    record {
      header = flow_ip e.marks 1 (28 + length p) 0 e.saddr e.daddr;
      part = echo_header (icmp_new (echo_type e.reply)) (echo_new e.seq) (echo_checksum (icmp_new (echo_type e.reply)) (echo_new e.seq) p) ++ p;
      fits = flow_fit e.marks 1 (28 + length p) 0 e.saddr e.daddr (omega arith) (omega arith) (omega arith) range.0 range.1;
      total =
          omega (
            arith,
            echo_size p (echo_checksum (icmp_new (echo_type e.reply)) (echo_new e.seq) p) (icmp_new (echo_type e.reply)) (echo_new e.seq),
          );
    }

abbrev pub piece_parts : (q : IpPiece) (p : List ℕ) → Fitting q.template → q.off ≤ 8191 → length p ≤ 65515 → Parts
piece_parts q p fits off few =
    record {
      header = piece_ip q (20 + (end_of q (length p) - start_of q (length p))) (more_follow q (length p));
      part = slice (start_of q (length p)) (end_of q (length p)) p;
      fits = piece_fit q (20 + (end_of q (length p) - start_of q (length p))) (more_follow q (length p)) fits off (omega arith);
      total = omega (arith, length-slice (start_of q (length p)) (end_of q (length p)) p (omega arith));
    }

pub parts_of_lem : (q : Request) (p : List ℕ) → Asked q p → (x : Parts) × (packet_of q p ≡ ip_header x.header ++ x.part)
unfolding tcp_packet udp_packet echo_packet piece_packet
parts_of_lem (Tcp t) p a = (tcp_parts t p a.range (sized_fits 65495 40 (length p) a.room a.size a.taken).few, refl)
parts_of_lem (Udp u) p a = (udp_parts u p a.range (datagram_fits u (length p) a.room a.size a.taken).few, refl)
parts_of_lem (Echo e) p a = (echo_parts e p a.range (sized_fits 65507 28 (length p) a.room a.size a.taken).few, refl)
parts_of_lem (Piece q) p a =
    let f = piece_fits q (length p) a.room a.size a.taken in
    (piece_parts q p a.range f.0 f.1.few, refl)
