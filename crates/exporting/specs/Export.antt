-- A classic capture, exported: document 02, T-14.
use Rattle.std.specs.Prelude.{ℕ, suc, cond, List, [], ◌∷◌, length, ltb, Result}
use Rattle.pkt.specs.Answers.{ListAnswer, refused_whole, refused_at, gives_all, plainly, list_says}
use Rattle.pkt.specs.Written.{leaves, Promise}
use Rattle.pcap.specs.Answers.{most_micros}
use Rattle.pcap.specs.Read.{Recorded}
use Rattle.reading.specs.Ends.{records_answer}
use Rattle.exporting.specs.Pcapng.{exported}
use Rattle.pkt.specs.declared.refusal.ListRefusal.{ListRefusal}

-- "then 17 with the record number": an answer, unless the microseconds of a record, of those from the k-th on, are above 999,999: the first such
unfoldable pub unless_late : ℕ → List Recorded → ListAnswer ℕ → ListAnswer ℕ
unless_late k [] a = a
unless_late k (r ∷ rs) a = cond (ltb most_micros r.stamped.usec) (refused_at 17 k) (unless_late (suc k) rs a)

-- "then 3": size bytes into an output of room bytes
abbrev pub room_for : ℕ → ℕ → ListAnswer ℕ
room_for size room = cond (ltb room size) (refused_whole 3) (gives_all size)

-- "Refusals: 23, 25 as in T-08", which is asked of the whole capture, "then 17 with the record number, then 3"
abbrev pub answer_for : ListAnswer (List Recorded) → ℕ → ListAnswer ℕ
answer_for (refused_whole n) room = refused_whole n
answer_for (refused_at n k) room = refused_at n k
answer_for (gives_all rs) room = unless_late 0 rs (room_for (length (exported rs)) room)

abbrev pub export_answer : List ℕ → ℕ → ListAnswer ℕ
export_answer l room = answer_for (records_answer l) room

-- the records of a capture that is not refused
abbrev pub records_given : ListAnswer (List Recorded) → List Recorded
records_given (refused_whole n) = []
records_given (refused_at n k) = []
records_given (gives_all rs) = rs

-- the capture l as pcapng
abbrev pub export_of : List ℕ → List ℕ
export_of l = exported (records_given (records_answer l))

-- The call's whole promise: the one answer, and the pcapng file at the start of the output o; on a refusal nothing is written.
abbrev pub Exports : List ℕ → List ℕ → Result ℕ ListRefusal → List ℕ → Type 0
Exports l o r o' =
    let a : ListAnswer ℕ = export_answer l (length o) in
    Promise list_says a (leaves (plainly a) (export_of l) o) r o'
