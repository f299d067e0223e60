-- Where steps lead, and what a whole capture is answered.
use Rattle.std.specs.Prelude.{◌≡◌, ℕ, zero, suc, cond, List, length, drop, None}
use Rattle.pkt.specs.Answers.{ListAnswer, refused_whole, refused_at, gives_all}
use Rattle.pcap.specs.Pcap.{file_header}
use Rattle.pcap.specs.Read.{Recorded, Records, whole, broken_after, records_of}
use Rattle.reading.specs.Reading.{starts_with, header_size, open_at, Next, step_at, more_at, past_at}

-- the records where they are whole, or 25 with the number of the first that is not
abbrev pub all_of : Records → ListAnswer (List Recorded)
all_of (whole rs) = gives_all rs
all_of (broken_after rs) = refused_at 25 (length rs)

-- "Refusals: 23 if the capture header is not document 01's, 25 with the record number if a record is cut short or above 65,535 bytes": else all
-- the records of a capture
abbrev pub records_answer : List ℕ → ListAnswer (List Recorded)
records_answer l = cond (starts_with file_header l) (all_of (records_of (drop header_size l))) (refused_whole 23)

-- the first step that finds no record, from a place behind k records on, as far as there are no more than most
unfoldable pub last_from : ℕ → ℕ → ℕ → List ℕ → ListAnswer Next
last_from zero k at l = step_at l at k
last_from (suc most) k at l = cond (more_at l at) (last_from most (suc k) (past_at l at) l) (step_at l at k)

-- .. from the first record on
abbrev pub last_of : List ℕ → ListAnswer Next
last_of l = last_from (length l) 0 (open_at l) l

-- the same answer, with no more said of the records than that this is their end
abbrev pub to_the_end : ListAnswer (List Recorded) → ListAnswer Next
to_the_end (gives_all rs) = gives_all None
to_the_end (refused_whole n) = refused_whole n
to_the_end (refused_at n k) = refused_at n k

-- Steps lead to the end of a capture that is whole, and else to its refusal.
abbrev pub StepsEnd : Type 0
StepsEnd = (l : List ℕ) → last_of l ≡ to_the_end (records_answer l)
