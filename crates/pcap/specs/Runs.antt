-- A capture by calls one after the other, and what is read of it: document 01, "Captures follow the published classic pcap layout".
use Rattle.std.specs.Prelude.{ℕ, ◌+◌, ◌^◌, ◌≤◌, ◌<◌, ◌≡◌, List, [], ◌∷◌, ◌++◌, length, take, drop, Result}
use Rattle.pkt.specs.Answers.{gives, most_bytes, says}
use Rattle.pkt.specs.Written.{written}
use Rattle.pkt.specs.declared.refusal.Refusal.{Refusal}
use Rattle.pcap.specs.Pcap.{Stamped, capture_bytes}
use Rattle.pcap.specs.Answers.{most_micros, HeaderWritten, RecordWritten}
use Rattle.pcap.specs.Read.{read_file, captured}

-- the packets that a call takes: at most 65,535 bytes, microseconds up to 999,999; seconds are of 32 bits
pub record Takable (s : Stamped) : Type 0 where
  pub seconds : s.sec < 2 ^ 32
  pub micros : s.usec ≤ most_micros
  pub short : length s.packet ≤ most_bytes

-- every one of them
unfoldable pub AllTakable : List Stamped → Type 0
AllTakable [] = Unit {0}
AllTakable (s ∷ ss) = Takable s × AllTakable ss

-- Accepted calls of write_record, one for each packet: the first is lent the output from place n on, each other from where the one before it
-- ended. The output before them is o; after them it is o', and the last ended at m.
pub data RecordsWritten : List Stamped → ℕ → List ℕ → ℕ → List ℕ → Type 0 where
  none : (n : ℕ) (o : List ℕ) → RecordsWritten [] n o n o
  next : (s : Stamped) (ss : List Stamped) (n : ℕ) (o : List ℕ) (r : Result ℕ Refusal) (k : ℕ) (part : List ℕ) (m : ℕ) (o' : List ℕ) → s.sec < 2 ^ 32
      → RecordWritten s.sec s.usec s.packet (drop n o) r part → says r ≡ gives k
      → RecordsWritten ss (n + k) (take n o ++ part) m o' → RecordsWritten (s ∷ ss) n o m o'

-- An accepted call of write_header on the output o, and calls of write_record behind it.
pub data CaptureWritten : List Stamped → List ℕ → ℕ → List ℕ → Type 0 where
  behind_header : (ss : List Stamped) (o : List ℕ) (r : Result ℕ Refusal) (k : ℕ) (o₁ : List ℕ) (m : ℕ) (o' : List ℕ) → HeaderWritten o r o₁
      → says r ≡ gives k
      → RecordsWritten ss k o₁ m o' → CaptureWritten ss o m o'

-- Such calls leave the capture of these packets, up to where the last ended, and the rest of the output as it was.
pub record LeavesCapture (ss : List Stamped) (o : List ℕ) (m : ℕ) (o' : List ℕ) : Type 0 where
  pub end : m ≡ length (capture_bytes ss)
  pub bytes : o' ≡ written (capture_bytes ss) o

abbrev pub WritesCapture : Type 0
WritesCapture = (ss : List Stamped) (o : List ℕ) (m : ℕ) (o' : List ℕ) → CaptureWritten ss o m o' → LeavesCapture ss o m o'

-- A capture, read by the published layout, has the version, snap length and link type that it should, and the times and packets that went in.
abbrev pub ReadsCapture : Type 0
ReadsCapture = (ss : List Stamped) → AllTakable ss → read_file (capture_bytes ss) ≡ captured ss

-- So has what the calls wrote.
abbrev pub ReadsWritten : Type 0
ReadsWritten = (ss : List Stamped) (o : List ℕ) (m : ℕ) (o' : List ℕ) → CaptureWritten ss o m o' → read_file (take m o') ≡ captured ss
