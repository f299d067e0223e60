-- Document 02, T-12: "Every TCP, UDP and ICMP flow record gets both, and every packet it builds carries them."
use Rattle.std.specs.Prelude.{◌≡◌, List, [], ◌∷◌, ◌++◌, ℕ, ◌+◌, ◌%◌, length, set}
use Rattle.pkt.specs.Rfc791.{ip_header, ip_sum_at}
use Rattle.pkt.specs.Rfc768.{udp_header, udp_checksum}
use Rattle.pkt.specs.Rfc9293.{tcp_header, tcp_checksum}
use Rattle.pkt.specs.Rfc792.{echo_header, echo_checksum, icmp_new, echo_new}
use Rattle.pkt.specs.declared.ipv4.ip_hdr.{ip_hdr}
use Rattle.ezpkt.specs.Build.{unmarked, tcp_hdr_of, udp_hdr_of, echo_type, piece_packet, packet_of, answer_of}
use Rattle.ezpkt.specs.Icmp4.{pinged, ponged}
use Rattle.ezpkt.specs.declared.Marks.{Marks}
use Rattle.ezpkt.specs.declared.build.Request.{Request}
use Rattle.ezpkt.specs.declared.build.Request.TheVariants.{Tcp, Udp, Echo, Piece}
use Rattle.ezpkt.specs.declared.icmp4.IcmpFlow.{IcmpFlow}
use Rattle.tcp4.specs.Tcp4.{Emit, segment_of, advance, after_one, after_all, sent_bytes, headed, popped, pushed}
use Rattle.tcp4.specs.declared.TcpFlow.{TcpFlow}
use Rattle.tcp4.specs.declared.Side.{Side}
use Rattle.tcp4.specs.declared.Seq.{Seq}
use Rattle.feed.specs.Feed.{next_feed, frame_dgram, template_of}
use Rattle.feed.specs.declared.Feed.{Feed}
use Rattle.mending.specs.Sums.{renewed}
use Rattle.demands.specs.Outputs.{request_of}

-- ---- "With TOS 0 and TTL 64 all packets equal the Rust's as before"

-- the IPv4 header of a packet with no template as it was before: TOS 0, identification 0, TTL 64
abbrev pub plain_ip : ℕ → ℕ → ℕ → ℕ → ℕ → ip_hdr
plain_ip p size frag s d = record { tos = 0; tot_len = size; id = 0; frag_off = frag; ttl = 64; protocol = p; saddr = s; daddr = d }

-- the packet of a request as it was before; a piece has its template's
unfoldable pub packet_before : Request → List ℕ → List ℕ
packet_before (Tcp t) p =
    ip_header (plain_ip 6 (40 + length p) t.frag_off t.saddr t.daddr)
    ++ (tcp_header (tcp_hdr_of t) (tcp_checksum t.saddr t.daddr (tcp_hdr_of t) p) ++ p)
packet_before (Udp u) p =
    ip_header (plain_ip 17 (28 + length p) u.frag_off u.saddr u.daddr)
    ++ (udp_header (udp_hdr_of u (length p)) (udp_checksum u.saddr u.daddr (udp_hdr_of u (length p)) p) ++ p)
packet_before (Echo e) p =
    ip_header (plain_ip 1 (28 + length p) 0 e.saddr e.daddr)
    ++ (echo_header (icmp_new (echo_type e.reply)) (echo_new e.seq) (echo_checksum (icmp_new (echo_type e.reply)) (echo_new e.seq) p) ++ p)
packet_before (Piece q) p = piece_packet q p

-- what a TCP flow sends, as it was before
unfoldable pub sent_before : TcpFlow → List Emit → List ℕ
sent_before f [] = []
sent_before f (e ∷ es) = packet_before (request_of f e) e.body ++ sent_before (after_one f e) es

-- the TOS and the TTL of a request
abbrev pub marks_of : Request → Marks
marks_of (Tcp t) = t.marks
marks_of (Udp u) = u.marks
marks_of (Echo e) = e.marks
marks_of (Piece q) = record { tos = q.template.tos; ttl = q.template.ttl }

-- ---- others

-- the same request with others
abbrev pub remarked : Marks → Request → Request
remarked m (Tcp t) =
    Tcp
    (record {
      saddr = t.saddr;
      daddr = t.daddr;
      sport = t.sport;
      dport = t.dport;
      seq = t.seq;
      ack = t.ack;
      flags = t.flags;
      frag_off = t.frag_off;
      marks = m;
    })
remarked m (Udp u) =
    Udp (record { saddr = u.saddr; daddr = u.daddr; sport = u.sport; dport = u.dport; frag_off = u.frag_off; csum = u.csum; marks = m })
remarked m (Echo e) = Echo (record { saddr = e.saddr; daddr = e.daddr; reply = e.reply; seq = e.seq; marks = m })
remarked m (Piece q) =
    Piece
    (record {
      template =
          record {
            tos = m.tos;
            id = q.template.id;
            df = q.template.df;
            evil = q.template.evil;
            ttl = m.ttl;
            protocol = q.template.protocol;
            saddr = q.template.saddr;
            daddr = q.template.daddr;
          };
      off = q.off;
      len = q.len;
    })

-- RFC 791, 3.1: the type of service is the header's byte 1, and the time to live its byte 8.
abbrev pub tos_at : ℕ
tos_at = 1

abbrev pub ttl_at : ℕ
ttl_at = 8

-- a packet with these two bytes and another number for its header's checksum, and nothing else changed
abbrev pub with_marks : Marks → ℕ → List ℕ → List ℕ
with_marks m c l = set (set (renewed ip_sum_at c l) tos_at (m.tos % 256)) ttl_at (m.ttl % 256)

pub record MarksCarried : Type 0 where
  -- With 0 and 64 the packet is the one of before, and so is all that a flow sends.
  pub as_before : (q : Request) (p : List ℕ) → (marks_of q ≡ unmarked) → packet_of q p ≡ packet_before q p
  pub sent_as_before : (f : TcpFlow) (es : List Emit) → f.marks ≡ unmarked → sent_bytes f es ≡ sent_before f es
  -- With any others only these two bytes and the header checksum differ; that it verifies is demand 2's `ip_sum`.
  pub others : (q : Request) (m : Marks) (p : List ℕ) → (c : ℕ) × (packet_of (remarked m q) p ≡ with_marks m c (packet_of q p))
  -- "No new refusals."
  pub answers : (q : Request) (m : Marks) (n room : ℕ) → answer_of (remarked m q) n room ≡ answer_of q n room

-- What a flow builds carries the flow's, and every call leaves them.
pub record MarksKept : Type 0 where
  pub segment : (f : TcpFlow) (s : Side) (flags frag : ℕ) → (segment_of f s flags frag).marks ≡ f.marks
  pub sending : (f : TcpFlow) (es : List Emit) → (after_all f es).marks ≡ f.marks
  pub moving : (s : Side) (k : ℕ) (f : TcpFlow) → (advance s k f).marks ≡ f.marks
  pub heading : (f : TcpFlow) (s : Side) (dlen csum : ℕ) → (headed f s dlen csum).flow.marks ≡ f.marks
  -- "Saving and setting sequence state leaves both as they are."
  pub popping : (f : TcpFlow) (c s : Seq) → (popped f c s).marks ≡ f.marks
  pub pushing : (f : TcpFlow) (c s : Seq) → (pushed f c s).flow.marks ≡ f.marks
  pub echoing : (f : IcmpFlow) → (pinged f).marks ≡ f.marks
  pub replying : (f : IcmpFlow) → (ponged f).marks ≡ f.marks
  -- The lap feed's datagrams and their pieces carry the feed's, and each frame leaves them.
  pub feeding : (f : Feed) (off len : ℕ)
      → ((frame_dgram f).marks ≡ f.marks) × (marks_of (Piece (record { template = template_of f; off = off; len = len })) ≡ f.marks) × ((next_feed f).marks ≡ f.marks)
