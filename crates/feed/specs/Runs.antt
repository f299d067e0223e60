-- A lap by calls one after the other, and what is read of it. Document 02, T-05: it takes "telemetry frames one by one .. and writes a capture".
use Rattle.std.specs.Prelude.{◌≡◌, ℕ, suc, ◌%◌, ◌^◌, ◌<◌, List, [], ◌∷◌, ◌++◌, length, take, Ok, Err}
use Rattle.pkt.specs.declared.refusal.Refusal.{Refusal}
use Rattle.ezpkt.specs.declared.SocketAddrV4.{SocketAddrV4}
use Rattle.pcap.specs.Pcap.{Stamped}
use Rattle.pcap.specs.Answers.{HeaderWritten}
use Rattle.pcap.specs.Read.{read_file, captured}
use Rattle.ezpkt.specs.declared.Marks.{Marks}
use Rattle.feed.specs.declared.Feed.{Feed}
use Rattle.feed.specs.declared.Written.{Written}
use Rattle.feed.specs.Feed.{new_feed, feed_marked, frame_records, Feeds}

-- "numbers the datagrams by identification from 0 modulo 65,536": the feed before its frame number i
abbrev pub feed_at : SocketAddrV4 → SocketAddrV4 → ℕ → Marks → ℕ → Feed
feed_at car core link m i = record { car = car; core = core; link = link; id = i % 65536; marks = m }

-- the records of frames, each its telemetry with a time, the first of them frame number i
unfoldable pub lap_from : SocketAddrV4 → SocketAddrV4 → ℕ → Marks → ℕ → List Stamped → List Stamped
lap_from car core link m i [] = []
lap_from car core link m i (x ∷ xs) = frame_records (feed_at car core link m i) x.packet x.sec x.usec ++ lap_from car core link m (suc i) xs

abbrev pub lap_records : SocketAddrV4 → SocketAddrV4 → ℕ → Marks → List Stamped → List Stamped
lap_records car core link m xs = lap_from car core link m 0 xs

-- Calls of `frame` one after the other, the first with the feed f, each other with the one that the last accepted call left: xs are the frames that
-- were accepted, g is the feed after them, and c what they wrote, one behind the other. A refused call may stand anywhere between them.
pub data FramesWritten : Feed → List Stamped → Feed → List ℕ → Type 0 where
  none : (f : Feed) → FramesWritten f [] f []
  accepted : (f : Feed) (x : Stamped) (xs : List Stamped) (g : Feed) (c s o s' o' : List ℕ) (w : Written) → x.sec < 2 ^ 32
      → Feeds f x.packet x.sec x.usec s o (Ok w) s' o' → FramesWritten w.feed xs g c
      → FramesWritten f (x ∷ xs) g (take w.bytes o' ++ c)
  refused : (f : Feed) (x : Stamped) (xs : List Stamped) (g : Feed) (c s o s' o' : List ℕ) (e : Refusal)
      → Feeds f x.packet x.sec x.usec s o (Err e) s' o' → FramesWritten f xs g c
      → FramesWritten f xs g c

-- A lap's bytes l: what an accepted call of `begin` wrote, and behind it what those calls did.
pub data LapWritten (f : Feed) (xs : List Stamped) (g : Feed) : List ℕ → Type 0 where
  behind_header : (c o o' : List ℕ) (k : ℕ) → HeaderWritten o (Ok k) o' → FramesWritten f xs g c → LapWritten f xs g (take k o' ++ c)

-- Of any number of frames of a new feed, whatever its TOS and TTL:
pub record ReadsLap : Type 0 where
  -- read by the published layout, the capture has exactly the records of the accepted frames, each frame's packets at its time in rising order,
  pub reads : (car core : SocketAddrV4) (link : ℕ) (m : Marks) (xs : List Stamped) (g : Feed) (l : List ℕ) → LapWritten (feed_marked (new_feed car core link) m) xs g l
      → read_file l ≡ captured (lap_records car core link m xs)
  -- and each accepted frame used one identification, no other did.
  pub numbers : (car core : SocketAddrV4) (link : ℕ) (m : Marks) (xs : List Stamped) (g : Feed) (l : List ℕ) → LapWritten (feed_marked (new_feed car core link) m) xs g l
      → g ≡ feed_at car core link m (length xs)
