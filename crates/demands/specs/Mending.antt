-- Document 02, T-08, of packets that this library writes: "Old test captures carry wrong checksums after addresses were blanked."
use Rattle.std.specs.Prelude.{◌≡◌, false, ℕ, length, take, drop, Ok}
use mathlib.Core.List.{List, [], ◌++◌, map, Memᴰ}
use Rattle.pkt.specs.Answers.{gives}
use Rattle.pkt.specs.Fields.{be, Bytes}
use Rattle.ezpkt.specs.Build.{packet_of, answer_of}
use Rattle.ezpkt.specs.declared.build.Request.{Request}
use Rattle.ezpkt.specs.declared.build.Request.TheVariants.{Tcp, Udp, Echo, Piece}
use Rattle.pcap.specs.Pcap.{Stamped, capture_bytes}
use Rattle.pcap.specs.Runs.{AllTakable, Takable}
use Rattle.feed.specs.declared.Feed.{Feed}
use Rattle.feed.specs.Feed.{frame_packets}
use Rattle.mending.specs.Sums.{sums_in, mend_packet}
use Rattle.mending.specs.Packets.{AllRight}
use Rattle.mending.specs.Mend.{mend, changes, counts, Mends}
use Rattle.demands.specs.Ranges.{Between, InRange}
use Rattle.demands.specs.Checked.{reserved_field, piece_field}
use Rattle.demands.specs.Laps.{FrameFed}

-- a packet as `build` was asked for it and took it: a request, its payload, and that there was room
pub record Asked (q : Request) (p : List ℕ) : Type 0 where
  pub range : InRange q
  pub bytes : Bytes p
  pub room : ℕ
  pub size : ℕ
  pub taken : answer_of q (length p) room ≡ gives size

-- a TCP segment, a UDP datagram or an echo; pieces are what `fragment` cuts
abbrev pub Transport : Request → Type 0
Transport (Tcp t) = Unit {0}
Transport (Udp u) = Unit {0}
Transport (Echo e) = Unit {0}
Transport (Piece q) = ⊥

-- .. whole, and with the reserved bit clear: the check would not refuse it by 13 or 18
abbrev pub Whole : Request → Type 0
Whole (Tcp t) = (reserved_field t.frag_off ≡ false) × (piece_field t.frag_off ≡ false)
Whole (Udp u) = (reserved_field u.frag_off ≡ false) × (piece_field u.frag_off ≡ false)
Whole (Echo e) = Unit {0}
Whole (Piece q) = ⊥

-- a packet with other addresses in its header, bytes 12 to 15 and 16 to 19, and nothing else changed
abbrev pub readdressed : ℕ → ℕ → List ℕ → List ℕ
readdressed s d p = take 12 p ++ (be 4 s ++ (be 4 d ++ drop 20 p))

-- the same request between other addresses
abbrev pub between : ℕ → ℕ → Request → Request
between s d (Tcp t) =
    Tcp
    (record {
      saddr = s;
      daddr = d;
      sport = t.sport;
      dport = t.dport;
      seq = t.seq;
      ack = t.ack;
      flags = t.flags;
      frag_off = t.frag_off;
      marks = t.marks;
    })
between s d (Udp u) = Udp (record { saddr = s; daddr = d; sport = u.sport; dport = u.dport; frag_off = u.frag_off; csum = u.csum; marks = u.marks })
between s d (Echo e) = Echo (record { saddr = s; daddr = d; reply = e.reply; seq = e.seq; marks = e.marks })
between s d (Piece q) = Piece q

-- a packet of a capture: its time, what was asked for, and the addresses that were put in place of its own
pub record Blanked : Type 0 where
  pub sec : ℕ
  pub usec : ℕ
  pub request : Request
  pub payload : List ℕ
  pub source : ℕ
  pub destination : ℕ

-- as it stands in the capture, and as it would have been written with the new addresses
abbrev pub damaged : Blanked → Stamped
damaged x = record { sec = x.sec; usec = x.usec; packet = readdressed x.source x.destination (packet_of x.request x.payload) }

abbrev pub rewritten : Blanked → Stamped
rewritten x = record { sec = x.sec; usec = x.usec; packet = packet_of (between x.source x.destination x.request) x.payload }

-- each was built, whole, and may stand in a capture
pub record Mendable (x : Blanked) : Type 0 where
  pub asked : Asked x.request x.payload
  pub whole : Whole x.request
  pub addresses : Between x.source x.destination
  pub takable : Takable (damaged x)

pub record MendsBuilt : Type 0 where
  -- A packet that was built for TCP, UDP or ICMP, whole or not, has nothing to mend: each of its fields holds the number that belongs there.
  pub built : (q : Request) (p : List ℕ) → Asked q p → Transport q → AllRight (sums_in (packet_of q p))
  -- Nor has a packet of the lap feed.
  pub fed : (f : Feed) (b s' : List ℕ) → FrameFed f b s' → (p : List ℕ) → Memᴰ p (frame_packets f b) → AllRight (sums_in p)
  -- So a capture of such packets has nothing to mend,
  pub captured : (ss : List Stamped) → AllTakable ss → ((s : Stamped) → Memᴰ s ss → Bytes s.packet × AllRight (sums_in s.packet))
      → (changes (capture_bytes ss) ≡ []) × (mend (capture_bytes ss) ≡ capture_bytes ss)
  -- A whole packet whose addresses alone were changed is mended to the one that is built with the new addresses,
  pub moved : (q : Request) (p : List ℕ) (s d : ℕ) → Asked q p → Whole q → Between s d → mend_packet (readdressed s d (packet_of q p)) ≡ packet_of (between s d q) p
  -- and a capture of such packets to the one that would have been written with them.
  pub rewrites : (xs : List Blanked) → ((x : Blanked) → Memᴰ x xs → Mendable x) → mend (capture_bytes (map damaged xs)) ≡ capture_bytes (map rewritten xs)
  -- So does the call.
  pub calls : (xs : List Blanked) (o o' : List ℕ) (e e' : List (List ℕ)) (n k : ℕ) → ((x : Blanked) → Memᴰ x xs → Mendable x)
      → Mends (capture_bytes (map damaged xs)) o e (Ok (counts n k)) o' e' → take n o' ≡ capture_bytes (map rewritten xs)
