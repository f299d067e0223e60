-- What the steps of a frame ask; inner contracts alone cite it.
use Rattle.std.specs.Prelude.{ℕ, ◌+◌, ◌-◌, ◌*◌, ◌≤◌, List, map}
use Rattle.pkt.specs.Answers.{most_ip, most_offset}
use Rattle.ezpkt.specs.Build.{fragment_size}
use Rattle.ezpkt.specs.declared.ip4.Template.{Template}
use Rattle.pcap.specs.Pcap.{records_bytes}
use Rattle.feed.specs.Cutting.{pieces_from}
use Rattle.feed.specs.Feed.{stamped_at}

-- how long the record of a piece (off, len) of n bytes is
unfoldable pub record_long : ℕ → ℕ → ℕ → ℕ
record_long off len n = 16 + fragment_size off len n

-- such a piece, and room for its record
pub record PieceAsks (off len n out : ℕ) : Type 0 where
  pub few : n ≤ most_ip
  pub low : off ≤ most_offset
  pub has_room : record_long off len n ≤ out

-- so many pieces of n bytes with b blocks in a full one, and room for their records
pub record AllAsks (b count n out : ℕ) : Type 0 where
  pub few : n ≤ most_ip
  pub some : 1 ≤ b
  pub most : b ≤ 8189
  pub some_piece : 1 ≤ count
  pub within : (count - 1) * (8 * b) ≤ n
  pub has_room : 36 * count + n ≤ out

-- the records of pieces
abbrev pub records_from : Template → List ℕ → ℕ → ℕ → ℕ → ℕ → ℕ → List ℕ
records_from t d b count off sec usec = records_bytes (map (stamped_at sec usec) (pieces_from t d b count off))
