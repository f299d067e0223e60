-- What the calls answer, and what they leave in the lent output.
use Rattle.std.specs.Prelude.{ℕ, ◌+◌, cond, List, length, ltb, Result}
use Rattle.pkt.specs.Answers.{Answer, refused, fitting, most_bytes, says}
use Rattle.pkt.specs.Written.{Wrote}
use Rattle.pkt.specs.declared.refusal.Refusal.{Refusal}
use Rattle.pcap.specs.Pcap.{file_header, record_bytes}

-- Number 17: "microseconds above 999,999"
abbrev pub most_micros : ℕ
most_micros = 999999

-- Document 01, "Capture 1, 17, 3": the answer for a packet of n bytes, a time's microseconds, and an output of room bytes
abbrev pub record_answer : ℕ → ℕ → ℕ → Answer ℕ
record_answer n usec room = cond (ltb most_bytes n) (refused 1) (cond (ltb most_micros usec) (refused 17) (fitting (16 + n) room))

-- the file header into the output o
abbrev pub HeaderWritten : List ℕ → Result ℕ Refusal → List ℕ → Type 0
HeaderWritten o r o' = Wrote says (fitting 24 (length o)) file_header o r o'

-- a record of the packet d into the output o
abbrev pub RecordWritten : ℕ → ℕ → List ℕ → List ℕ → Result ℕ Refusal → List ℕ → Type 0
RecordWritten sec usec d o r o' = Wrote says (record_answer (length d) usec (length o)) (record_bytes sec usec d) o r o'
