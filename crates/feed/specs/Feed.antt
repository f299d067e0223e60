-- Document 02, T-05: the lap feed. What a frame is answered, and every lent byte after it.
use Rattle.std.specs.Prelude.{◌≡◌, ℕ, ◌+◌, ◌*◌, ◌%◌, ◌≤◌, Bool, true, false, cond, ◌||◌, List, ◌++◌, map, length, nat_lt, Result}
use mathlib.Core.List.{Memᴰ}
use Rattle.pkt.specs.Answers.{Answer, refused, gives, says, mapped, most_udp}
use Rattle.pkt.specs.declared.refusal.Refusal.{Refusal}
use Rattle.pkt.specs.Written.{leaves}
use Rattle.pkt.specs.Rfc768.{udp_header, udp_checksum}
use Rattle.ezpkt.specs.Build.{unmarked, udp_hdr_of, udp_packet}
use Rattle.ezpkt.specs.declared.Marks.{Marks}
use Rattle.ezpkt.specs.declared.SocketAddrV4.{SocketAddrV4}
use Rattle.ezpkt.specs.declared.ip4.Template.{Template}
use Rattle.ezpkt.specs.declared.build.UdpDatagram.{UdpDatagram}
use Rattle.pcap.specs.Pcap.{Stamped, records_bytes}
use Rattle.pcap.specs.Answers.{most_micros}
use Rattle.feed.specs.declared.Feed.{Feed}
use Rattle.feed.specs.declared.Written.{Written}
use Rattle.planner.specs.Cutting.{piece_count}
use Rattle.feed.specs.Cutting.{cut_for}

-- "It takes a car's address and port, the core's, a link size .., numbers the datagrams by identification from 0"
abbrev pub new_feed : SocketAddrV4 → SocketAddrV4 → ℕ → Feed
new_feed car core link = record { car = car; core = core; link = link; id = 0; marks = unmarked }

-- Document 02, T-12: every packet of a frame carries the feed's TOS and TTL
abbrev pub feed_marked : Feed → Marks → Feed
feed_marked f m = record { car = f.car; core = f.core; link = f.link; id = f.id; marks = m }

-- ".. modulo 65,536"
abbrev pub next_feed : Feed → Feed
next_feed f = record { car = f.car; core = f.core; link = f.link; id = (f.id + 1) % 65536; marks = f.marks }

-- "24 for a link size outside the range": "28 to 65,535"
abbrev pub least_link : ℕ
least_link = 28

abbrev pub most_link : ℕ
most_link = 65535

abbrev pub bad_link : ℕ → Bool
bad_link m = nat_lt m least_link || nat_lt most_link m

-- the datagram from car to core, "checksum over the whole, before cutting"
abbrev pub frame_dgram : Feed → UdpDatagram
frame_dgram f =
    record {
      saddr = f.car.ip;
      daddr = f.core.ip;
      sport = f.car.port;
      dport = f.core.port;
      frag_off = 0;
      csum = true;
      marks = f.marks;
    }

-- what is cut: its UDP header, and the telemetry b behind it
unfoldable pub payload_of : Feed → List ℕ → List ℕ
payload_of f b = udp_header (udp_hdr_of (frame_dgram f) (length b)) (udp_checksum f.car.ip f.core.ip (udp_hdr_of (frame_dgram f) (length b)) b) ++ b

-- what every piece says in its header: TOS and TTL, the identification, no DF and no reserved bit, UDP
abbrev pub template_of : Feed → Template
template_of f =
    record {
      tos = f.marks.tos;
      id = f.id;
      df = false;
      evil = false;
      ttl = f.marks.ttl;
      protocol = 17;
      saddr = f.car.ip;
      daddr = f.core.ip;
    }

-- the packets of a frame, and its records, "all .. at the time its caller gives"
abbrev pub frame_packets : Feed → List ℕ → List (List ℕ)
frame_packets f b = cut_for (template_of f) (payload_of f b) f.link

abbrev pub stamped_at : ℕ → ℕ → List ℕ → Stamped
stamped_at sec usec p = record { sec = sec; usec = usec; packet = p }

abbrev pub frame_records : Feed → List ℕ → ℕ → ℕ → List Stamped
frame_records f b sec usec = map (stamped_at sec usec) (frame_packets f b)

-- how many pieces n bytes of telemetry take, and how many bytes their records: 16 and 20 before each, and the datagram
abbrev pub pieces_for : ℕ → ℕ → ℕ
pieces_for m n = piece_count (8 + n) m

abbrev pub frame_size : ℕ → ℕ → ℕ
frame_size m n = 36 * pieces_for m n + (8 + n)

-- "Refusals: 1, 24 .., 17, 3.": for n bytes of telemetry, a scratch buffer of `scratch` bytes and an output of `out`
abbrev pub feed_answer : ℕ → ℕ → ℕ → ℕ → ℕ → Answer ℕ
feed_answer m n usec scratch out =
    cond (nat_lt most_udp n) (refused 1)
    (cond (bad_link m) (refused 24)
    (cond (nat_lt most_micros usec) (refused 17)
    (cond (nat_lt scratch (28 + n) || nat_lt out (frame_size m n)) (refused 3) (gives (frame_size m n)))))

-- what a frame answers: the feed after it, how many bytes were written, and how many pieces
abbrev pub written_for : Feed → ℕ → ℕ → Written
written_for f n size = record { feed = next_feed f; bytes = size; pieces = pieces_for f.link n }

-- "A refused frame uses no identification and writes nothing." s and o are the scratch buffer and the output before, s' and o' after; an accepted frame
-- leaves its datagram in the scratch buffer.
pub record Feeds (f : Feed) (b : List ℕ) (sec usec : ℕ) (s o : List ℕ) (r : Result Written Refusal) (s' o' : List ℕ) : Type 0 where
  pub answer : says r ≡ mapped (written_for f (length b)) (feed_answer f.link (length b) usec (length s) (length o))
  pub output_is : o' ≡ leaves (feed_answer f.link (length b) usec (length s) (length o)) (records_bytes (frame_records f b sec usec)) o
  pub scratch_is : s' ≡ leaves (feed_answer f.link (length b) usec (length s) (length o)) (udp_packet (frame_dgram f) b) s

-- What the numbers of that promise stand for, where nothing is refused:
pub record FrameFits (f : Feed) (b : List ℕ) : Type 0 where
  -- there are as many packets as are answered,
  pub pieces : length (frame_packets f b) ≡ pieces_for f.link (length b)
  -- their records have as many bytes as are answered and number 3 asks for,
  pub bytes : (sec usec : ℕ) → length (records_bytes (frame_records f b sec usec)) ≡ frame_size f.link (length b)
  -- and each packet fits the link.
  pub fit : (p : List ℕ) → Memᴰ p (frame_packets f b) → length p ≤ f.link
