-- One record of an export: what inner functions promise.
use Rattle.std.specs.Prelude.{ℕ, ◌+◌, ◌/◌, ◌%◌, ◌^◌, ◌≤◌, ◌≡◌, cond, List, [], ◌++◌, length, ltb, Some, None}
use Rattle.pkt.specs.Answers.{ListAnswer, refused_whole, refused_at, gives_all, most_bytes}
use Rattle.pkt.specs.Written.{zeros}
use Rattle.pcap.specs.Answers.{most_micros}
use Rattle.pcap.specs.Pcap.{le}
use Rattle.pcap.specs.Read.{Recorded}
use Rattle.reading.specs.Reading.{Next}
use Rattle.reading.specs.Steps.{recorded_at}
use Rattle.reading.specs.Ends.{records_answer}
use Rattle.reading.specs.declared.Spot.{Spot}
use Rattle.exporting.specs.Pcapng.{micros_of, padding, packet_block}
use Rattle.exporting.specs.Export.{room_for}

-- the bytes of an enhanced packet block with n bytes of data
unfoldable pub block_size : ℕ → ℕ
block_size n = 32 + (n + padding n)

-- the bytes of the two blocks before it
abbrev pub head_size : ℕ
head_size = 48

-- an answer, unless a time's microseconds are above 999,999
abbrev pub timely : ℕ → ℕ → ListAnswer ℕ → ListAnswer ℕ
timely k usec a = cond (ltb most_micros usec) (refused_at 17 k) a

-- the answer with one record more, the k-th, of these microseconds and n bytes, where it was a for those before
abbrev pub with_record : ListAnswer ℕ → ℕ → ℕ → ℕ → ℕ → ListAnswer ℕ
with_record (refused_at x i) k usec n room = refused_at x i
with_record (refused_whole x) k usec n room = timely k usec (refused_whole x)
with_record (gives_all size) k usec n room = timely k usec (room_for (size + block_size n) room)

-- .. where a step found it
abbrev pub with_step : ListAnswer ℕ → ListAnswer Next → ℕ → ListAnswer ℕ
with_step a (gives_all (Some s)) room = with_record a s.number s.usec s.len room
with_step a (gives_all None) room = a
with_step a (refused_whole x) room = a
with_step a (refused_at x k) room = a

-- the answer where a step finds no further record
abbrev pub ended_by : ListAnswer Next → ListAnswer ℕ → ListAnswer ℕ
ended_by (refused_whole x) a = refused_whole x
ended_by (refused_at x k) a = refused_at x k
ended_by (gives_all n) a = a

-- the record of these parts
abbrev pub record_with : ℕ → ℕ → ℕ → List ℕ → Recorded
record_with sec usec original d = record { stamped = record { sec = sec; usec = usec; packet = d }; original = original }

-- a packet's block up to its data, and behind it: of three zeros as many as pad the data, and the block's size
unfoldable pub packet_head : ℕ → ℕ → ℕ → ℕ → ℕ → List ℕ
packet_head sec usec n original size =
    le 4 6 ++ (le 4 size ++ (le 4 0 ++ (le 4 (micros_of sec usec / 2 ^ 32) ++ (le 4 (micros_of sec usec % 2 ^ 32) ++ (le 4 n ++ le 4 original)))))

unfoldable pub packet_tail : ℕ → List ℕ
packet_tail size = zeros 3 ++ le 4 size

-- the block of the record that a step found
abbrev pub step_block : List ℕ → ListAnswer Next → List ℕ
step_block l (gives_all (Some s)) = packet_block (recorded_at l s)
step_block l (gives_all None) = []
step_block l (refused_whole x) = []
step_block l (refused_at x k) = []

-- what is asked of a step that found a record: at most 65,535 bytes,
abbrev pub StepShort : ListAnswer Next → Type 0
StepShort (gives_all (Some s)) = s.len ≤ most_bytes
StepShort (gives_all None) = Unit {0}
StepShort (refused_whole x) = Unit {0}
StepShort (refused_at x k) = Unit {0}

-- and where its block is written, that the record stands within the capture, and room
pub record BlockAsks (l : List ℕ) (s : Spot) (room : ℕ) : Type 0 where
  pub within : s.start + s.len ≤ length l
  pub short : s.len ≤ most_bytes
  pub fits : block_size s.len ≤ room

abbrev pub StepAsks : List ℕ → ListAnswer Next → ℕ → Type 0
StepAsks l (gives_all (Some s)) room = BlockAsks l s room
StepAsks l (gives_all None) room = Unit {0}
StepAsks l (refused_whole x) room = Unit {0}
StepAsks l (refused_at x k) room = Unit {0}

-- what is asked where some bytes of a capture's records, their blocks or the whole file, are written: the records are whole, and there is room
pub record WriteAsks (bytes : List Recorded → List ℕ) (l o : List ℕ) : Type 0 where
  pub records : List Recorded
  pub read : records_answer l ≡ gives_all records
  pub fits : length (bytes records) ≤ length o
