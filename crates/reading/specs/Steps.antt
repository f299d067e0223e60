-- What steps owe the definition of reading in `pcap`.
use Rattle.std.specs.Prelude.{◌≡◌, ℕ, suc, ◌^◌, ◌<◌, ◌≤◌, true, false, List, [], length, take, drop, Some, None}
use Rattle.pkt.specs.Answers.{refused_whole, refused_at, gives_all}
use Rattle.pcap.specs.Pcap.{file_header}
use Rattle.pcap.specs.Read.{Recorded, Records, whole, broken_after, in_front, records_of}
use Rattle.reading.specs.Reading.{starts_with, header_size, open_at, packet_at, step_at, more_at, past_at, count_past}
use Rattle.reading.specs.declared.Spot.{Spot}

-- the record that a step found, with its packet's bytes
abbrev pub recorded_at : List ℕ → Spot → Recorded
recorded_at l s = record { stamped = record { sec = s.sec; usec = s.usec; packet = packet_at l s }; original = s.original }

-- The records that steps give, from a place behind k records on, each at the place behind the one before: up to the end, or to the first that is
-- broken, whose number comes with 25.
pub data Steps (l : List ℕ) : ℕ → ℕ → Records → Type 0 where
  ends : (at k : ℕ) → step_at l at k ≡ gives_all None → Steps l at k (whole [])
  breaks : (at k : ℕ) → step_at l at k ≡ refused_at 25 k → Steps l at k (broken_after [])
  goes : (at k : ℕ) (s : Spot) (rs : Records) → step_at l at k ≡ gives_all (Some s) → s.number ≡ k → Steps l (past_at l at) (suc k) rs
      → Steps l at k (in_front (recorded_at l s) rs)

pub record StepsRead : Type 0 where
  -- A capture is opened at its first record exactly if its first 24 bytes are document 01's; a shorter one is not.
  pub opens : (l : List ℕ) → starts_with file_header l ≡ true → take header_size l ≡ file_header
  pub opens_all : (l : List ℕ) → take header_size l ≡ file_header → starts_with file_header l ≡ true
  -- Where it is not, each step there answers 23, and stays.
  pub unopened : (l : List ℕ) → starts_with file_header l ≡ false → (k : ℕ) → (step_at l (open_at l) k ≡ refused_whole 23) × (past_at l (open_at l) ≡ open_at l)
  -- Where it is, the steps give the records that are read behind the header,
  pub reads : (l : List ℕ) → starts_with file_header l ≡ true → Steps l (open_at l) 0 (records_of (drop header_size l))
  -- and no others.
  pub reads_only : (l : List ℕ) (at k : ℕ) (rs rs' : Records) → Steps l at k rs → Steps l at k rs' → rs ≡ rs'
  -- A reader's count does not come to 2 ^ 64: where no more records than bytes lie before a place, the next count is one more, and so it is there.
  pub counts : (l : List ℕ) (at k : ℕ) → length l < 2 ^ 64 → k ≤ at → more_at l at ≡ true → (count_past l at k ≡ suc k) × (suc k ≤ past_at l at)
