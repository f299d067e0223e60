-- The two bytes of a header, and the flows that keep them.
use mathlib.Core.Path.{◌≡◌, refl, ap, ap₂, ◌∙◌}
use mathlib.Core.List.{List, [], ◌∷◌, ◌++◌}
use Prim.Native.Nat.{ℕ, ◌+◌}
use lib.ListN.{length}
use Rattle.pkt.specs.Rfc1071.{checksum}
use Rattle.pkt.specs.Rfc791.{ip_bytes, ip_header}
use Rattle.pkt.specs.Rfc768.{udp_header, udp_checksum}
use Rattle.pkt.specs.Rfc9293.{tcp_header, tcp_checksum}
use Rattle.pkt.specs.Rfc792.{echo_header, echo_checksum, icmp_new, echo_new}
use Rattle.pkt.specs.declared.ipv4.ip_hdr.{ip_hdr}
use Rattle.ezpkt.specs.Build.{unmarked, flow_ip, tcp_hdr_of, udp_hdr_of, echo_type, tcp_packet, udp_packet, echo_packet, piece_packet, packet_of, answer_of}
use Rattle.ezpkt.specs.declared.Marks.{Marks}
use Rattle.ezpkt.specs.declared.build.Request.{Request}
use Rattle.ezpkt.specs.declared.build.Request.TheVariants.{Tcp, Udp, Echo, Piece}
use Rattle.tcp4.specs.Tcp4.{Emit, segment_of, advance, after_one, after_all, sent_bytes}
use Rattle.tcp4.specs.declared.TcpFlow.{TcpFlow}
use Rattle.tcp4.specs.declared.Side.{Side}
use Rattle.tcp4.specs.declared.Side.TheVariants.{Client, Server}
use Rattle.mending.specs.Sums.{renewed}
use Rattle.demands.specs.Outputs.{request_of}
use Rattle.demands.specs.Marks.{packet_before, sent_before, marks_of, remarked, with_marks, MarksCarried, MarksKept}

-- a header with another TOS and TTL
abbrev marked : Marks → ip_hdr → ip_hdr
marked m h =
    record {
      tos = m.tos;
      tot_len = h.tot_len;
      id = h.id;
      frag_off = h.frag_off;
      ttl = m.ttl;
      protocol = h.protocol;
      saddr = h.saddr;
      daddr = h.daddr;
    }

header_marked : (h : ip_hdr) (m : Marks) (l : List ℕ) → ip_header (marked m h) ++ l ≡ with_marks m (checksum (ip_bytes (marked m h) 0)) (ip_header h ++ l)
unfolding ip_header ip_bytes renewed
header_marked h m l = refl

before : (q : Request) (p : List ℕ) → marks_of q ≡ unmarked → packet_of q p ≡ packet_before q p
unfolding packet_before tcp_packet udp_packet echo_packet
before (Tcp t) p e =
    ap (λ (m : Marks). ip_header (flow_ip m 6 (40 + length p) t.frag_off t.saddr t.daddr) ++ (tcp_header (tcp_hdr_of t) (tcp_checksum t.saddr t.daddr (tcp_hdr_of t) p) ++ p)) e
before (Udp u) p e =
    ap (λ (m : Marks). ip_header (flow_ip m 17 (28 + length p) u.frag_off u.saddr u.daddr) ++ (udp_header (udp_hdr_of u (length p)) (udp_checksum u.saddr u.daddr (udp_hdr_of u (length p)) p) ++ p)) e
before (Echo x) p e =
    ap (λ (m : Marks). ip_header (flow_ip m 1 (28 + length p) 0 x.saddr x.daddr) ++ (echo_header (icmp_new (echo_type x.reply)) (echo_new x.seq) (echo_checksum (icmp_new (echo_type x.reply)) (echo_new x.seq) p) ++ p)) e
before (Piece q) p e = refl

others : (q : Request) (m : Marks) (p : List ℕ) → (c : ℕ) × (packet_of (remarked m q) p ≡ with_marks m c (packet_of q p))
unfolding tcp_packet udp_packet echo_packet piece_packet
others (Tcp t) m p = (_, header_marked _ m _)
others (Udp u) m p = (_, header_marked _ m _)
others (Echo e) m p = (_, header_marked _ m _)
others (Piece q) m p = (_, header_marked _ m _)

same_answer : (q : Request) (m : Marks) (n room : ℕ) → answer_of (remarked m q) n room ≡ answer_of q n room
same_answer (Tcp t) m n room = refl
same_answer (Udp u) m n room = refl
same_answer (Echo e) m n room = refl
same_answer (Piece q) m n room = refl

segment_marks : (f : TcpFlow) (s : Side) (flags frag : ℕ) → (segment_of f s flags frag).marks ≡ f.marks
segment_marks f Client flags frag = refl
segment_marks f Server flags frag = refl

moved_marks : (s : Side) (k : ℕ) (f : TcpFlow) → (advance s k f).marks ≡ f.marks
moved_marks Client k f = refl
moved_marks Server k f = refl

sent_marks : (f : TcpFlow) (es : List Emit) → (after_all f es).marks ≡ f.marks
sent_marks f [] = refl
sent_marks f (e ∷ es) = sent_marks (after_one f e) es ∙ moved_marks e.side _ f

all_before : (f : TcpFlow) (es : List Emit) → f.marks ≡ unmarked → sent_bytes f es ≡ sent_before f es
unfolding sent_before
all_before f [] u = refl
all_before f (e ∷ es) u =
    ap₂ ◌++◌ (before (request_of f e) e.body (segment_marks f e.side e.flags e.frag ∙ u)) (all_before (after_one f e) es (moved_marks e.side _ f ∙ u))

-- Document 02, T-12.
pub marks_carried : MarksCarried
marks_carried = record { as_before = before; sent_as_before = all_before; others = others; answers = same_answer }

pub marks_kept : MarksKept
marks_kept =
    record {
      segment = segment_marks;
      sending = sent_marks;
      moving = moved_marks;
      heading = λ f s dlen csum. moved_marks s dlen f;
      popping = λ f c s. refl;
      pushing = λ f c s. refl;
      echoing = λ f. refl;
      replying = λ f. refl;
      feeding = λ f off len. (refl, refl, refl);
    }
