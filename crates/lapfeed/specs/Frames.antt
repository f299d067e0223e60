-- The frames of the program: when each goes out, and what is written of it.
use Rattle.std.specs.Prelude.{ℕ, ◌+◌, ◌*◌, ◌/◌, ◌%◌, ◌≤◌, ◌<◌, ◌≡◌, Option, Some, None, List, length}
use Rattle.pkt.specs.Answers.{most_udp}
use Rattle.pkt.specs.Written.{written}
use Rattle.pcap.specs.Pcap.{records_bytes}
use Rattle.feed.specs.declared.Feed.{Feed}
use Rattle.feed.specs.declared.Written.{Written}
use Rattle.feed.specs.Feed.{least_link, most_link, next_feed, written_for, frame_size, frame_records}
use Rattle.lapfeed.specs.declared.setup.Setup.{Setup}

-- "240 a second from time 0": the second and the microsecond of frame i, counted from 0
abbrev pub second_of : ℕ → ℕ
second_of i = i / 240

abbrev pub micro_of : ℕ → ℕ
micro_of i = i % 240 * 1000000 / 240

-- as many frames as have a second of 32 bits
abbrev pub most_frames : ℕ
most_frames = 240 * 4294967296

-- the bytes of the records of the largest frame on the smallest link: 8,190 pieces
abbrev pub most_records : ℕ
most_records = 36 * 8190 + (8 + most_udp)

-- Frame i may go out: its identification is its number, and words and buffers are such that a frame of `size` bytes is not refused.
pub record Ready (f : Feed) (i size scratch out : ℕ) : Type 0 where
  pub timed : i < most_frames
  pub numbered : f.id ≡ i % 65536
  pub least : least_link ≤ f.link
  pub most : f.link ≤ most_link
  pub few : size ≤ most_udp
  pub scratch_room : 28 + size ≤ scratch
  pub out_room : most_records ≤ out

-- What is written of frame i with the bytes b, into the output o: its records at its time. Nothing is refused.
pub record Put (f : Feed) (i : ℕ) (b o : List ℕ) (r : Written) (o' : List ℕ) : Type 0 where
  pub answer : r ≡ written_for f (length b) (frame_size f.link (length b))
  pub within : r.bytes ≤ most_records
  pub after : o' ≡ written (records_bytes (frame_records f b (second_of i) (micro_of i))) o

-- where there is more to come, the feed is the one after this frame
abbrev pub Follows : Feed → Option Feed → Type 0
Follows f (Some g) = g ≡ next_feed f
Follows f None = Unit {0}

-- what good words ask for
pub record SetUp (s : Setup) : Type 0 where
  pub from_zero : s.feed.id ≡ 0
  pub least : least_link ≤ s.feed.link
  pub most : s.feed.link ≤ most_link
  pub few : s.size ≤ most_udp
