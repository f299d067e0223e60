-- Reading a capture step by step: document 02, T-08, "through a reader that holds the lent capture and its place".
use Rattle.std.specs.Prelude.{ℕ, ◌+◌, ◌%◌, ◌^◌, Bool, true, false, cond, not, ◌&&◌, List, [], ◌∷◌, length, take, drop, ◌==◌, nat_lt, Option, Some, None}
use Rattle.pkt.specs.Answers.{ListAnswer, refused_whole, refused_at, gives_all}
use Rattle.pcap.specs.Pcap.{file_header}
use Rattle.pcap.specs.Read.{number, record_at, record_size, is_broken}
use Rattle.reading.specs.declared.Reader.{Reader}
use Rattle.reading.specs.declared.Spot.{Spot}

-- whether l starts with the bytes of h
unfoldable pub starts_with : List ℕ → List ℕ → Bool
starts_with [] l = true
starts_with (x ∷ h) [] = false
starts_with (x ∷ h) (y ∷ l) = y == x && starts_with h l

-- the bytes of the file header
abbrev pub header_size : ℕ
header_size = 24

-- where reading begins: behind the file header, or at 0, where nothing is read, if the capture does not start with document 01's
abbrev pub open_at : List ℕ → ℕ
open_at l = cond (starts_with file_header l) header_size 0

-- what a step finds: a record, or at the end none
abbrev pub Next : Type 0
Next = Option Spot

-- The record that begins at a place of l and has the number k: its time, the length that it had on the wire, and where its packet stands, behind
-- its header of 16 bytes.
abbrev pub spot_at : List ℕ → ℕ → ℕ → Spot
spot_at l at k =
    record {
      number = k;
      sec = (record_at (drop at l)).stamped.sec;
      usec = (record_at (drop at l)).stamped.usec;
      start = at + 16;
      len = number 4 8 (drop at l);
      original = (record_at (drop at l)).original;
    }

-- the packet that a step found in l
abbrev pub packet_at : List ℕ → Spot → List ℕ
packet_at l s = take s.len (drop s.start l)

-- A step at a place of l, behind k records: "23 if the capture header is not document 01's", the end, "25 with the record number if a record is
-- cut short or above 65,535 bytes", or the record.
abbrev pub step_at : List ℕ → ℕ → ℕ → ListAnswer Next
step_at l at k =
    cond (nat_lt at header_size) (refused_whole 23)
    (cond (length (drop at l) == 0) (gives_all None)
    (cond (is_broken (drop at l)) (refused_at 25 k) (gives_all (Some (spot_at l at k)))))

-- whether a whole record stands at a place
abbrev pub more_at : List ℕ → ℕ → Bool
more_at l at = cond (nat_lt at header_size) false (not (is_broken (drop at l)))

-- the place behind the record at a place, or the place itself where none stands
abbrev pub past_at : List ℕ → ℕ → ℕ
past_at l at = cond (more_at l at) (at + record_size (drop at l)) at

-- how many records lie before that place, of 64 bits
abbrev pub count_past : List ℕ → ℕ → ℕ → ℕ
count_past l at k = cond (more_at l at) ((k + 1) % 2 ^ 64) k

-- the reader behind the record at its place
abbrev pub moved : Reader → Reader
moved r =
    record {
      capture = r.capture;
      at = past_at r.capture.now r.at;
      count = count_past r.capture.now r.at r.count;
    }
