-- The packets of a capture end to end, and where each ends: what `flowreport` reports over.
use Rattle.std.specs.Prelude.{ℕ, zero, suc, ◌*◌, ◌≤◌, ◌≡◌, cond, List, [], ◌∷◌, map, length, take, Result}
use Rattle.pkt.specs.Answers.{ListAnswer, refused_whole, refused_at, gives_all, list_says}
use Rattle.pkt.specs.declared.refusal.ListRefusal.{ListRefusal}
use Rattle.pcap.specs.Read.{Recorded}
use Rattle.reading.specs.Reading.{Next, open_at, spot_at, packet_at, more_at, past_at}
use Rattle.reading.specs.Ends.{records_answer, last_of}
use Rattle.reporting.specs.Report.{cut_at, first_wrong}

-- the bytes of the longest capture that is taken
abbrev pub most_bytes : ℕ
most_bytes = 2097152

-- the packets of the records that steps find, from a place behind k records on, as far as there are no more than most
unfoldable pub packets_from : ℕ → ℕ → ℕ → List ℕ → List (List ℕ)
packets_from zero k at l = []
packets_from (suc most) k at l = cond (more_at l at) (packet_at l (spot_at l at k) ∷ packets_from most (suc k) (past_at l at) l) []

-- .. of a capture
abbrev pub packets_of : List ℕ → List (List ℕ)
packets_of l = packets_from (length l) 0 (open_at l) l

-- what is asked: room for each packet, and for each end
pub record GatherAsks (l o e : List ℕ) : Type 0 where
  pub room : length l ≤ length o
  pub places : length l ≤ 16 * length e

-- what is answered after the last step, for k packets
abbrev pub counted : ListAnswer Next → ℕ → ListAnswer ℕ
counted (gives_all a) k = gives_all k
counted (refused_whole n) k = refused_whole n
counted (refused_at n i) k = refused_at n i

-- What was gathered: the output, cut at the ends, is the packets, and the ends are right; and the last step is the first that found no record.
pub record Gathers (l : List ℕ) (r : Result ℕ ListRefusal) (o e : List ℕ) : Type 0 where
  pub packets : ℕ
  pub within : packets ≤ length e
  pub cut : cut_at 0 (take packets e) o ≡ packets_of l
  pub right : first_wrong 0 (length o) (take packets e) ≡ packets
  pub last : list_says r ≡ counted (last_of l) packets

-- These packets are those of the capture's records, where it is not refused.
abbrev pub PacketsRead : Type 0
PacketsRead = (l : List ℕ) (rs : List Recorded) → records_answer l ≡ gives_all rs → packets_of l ≡ map (λ r. r.stamped.packet) rs
