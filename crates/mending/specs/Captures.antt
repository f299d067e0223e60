-- What mending owes a capture: document 02, T-08, "All other bytes stay" and "Mending twice lists nothing the second time".
use Rattle.std.specs.Prelude.{ℕ, ◌+◌, ◌<◌, ◌≤◌, ◌≡◌, true, List, [], ◌∷◌, map, length, get_or, take, drop, Result, Ok}
use Rattle.pkt.specs.Answers.{gives}
use Rattle.pkt.specs.Fields.{Bytes}
use Rattle.pkt.specs.declared.refusal.ListRefusal.{ListRefusal}
use Rattle.pcap.specs.Pcap.{file_header}
use Rattle.pcap.specs.Read.{Recorded, Records, whole, broken_after, records_of}
use Rattle.inspect.specs.declared.check.Whole.{Whole}
use Rattle.inspect.specs.Header.{field_at}
use Rattle.inspect.specs.Check.{check_answer, examine_answer}
use Rattle.reading.specs.Reading.{starts_with, header_size}
use Rattle.mending.specs.Sums.{mend_packet}
use Rattle.mending.specs.Packets.{verdict_for}
use Rattle.mending.specs.Mend.{Listed, sums_of, mend, changes, counts, Mends}
use Rattle.mending.specs.declared.Counts.{Counts}

-- the place i is one of the two of a field
abbrev pub Covers : Listed → ℕ → Type 0
Covers s i = (s.at ≤ i) × (i < s.at + 2)

-- no field whose number changes, and which is listed for that, has the place i
unfoldable pub Unlisted : List Listed → ℕ → Type 0
Unlisted [] i = Unit {0}
Unlisted (s ∷ ss) i = ((s.old ≡ s.new → ⊥) → Covers s i → ⊥) × Unlisted ss i

-- each field holds the old number in l, and the new one in l'
unfoldable pub AllHold : List Listed → List ℕ → List ℕ → Type 0
AllHold [] l l' = Unit {0}
AllHold (s ∷ ss) l l' = (field_at l s.at 2 ≡ s.old) × (field_at l' s.at 2 ≡ s.new) × AllHold ss l l'

-- a record with its packet mended
abbrev pub mend_record : Recorded → Recorded
mend_record r =
    record {
      stamped = record { sec = r.stamped.sec; usec = r.stamped.usec; packet = mend_packet r.stamped.packet };
      original = r.original;
    }

abbrev pub mend_records : Records → Records
mend_records (whole rs) = whole (map mend_record rs)
mend_records (broken_after rs) = broken_after (map mend_record rs)

-- The check calls each of these packets good, or good without checksum, that it would call so if 7 and 15 were never given.
unfoldable pub AllGood : List Recorded → Type 0
AllGood [] = Unit {0}
AllGood (r ∷ rs) =
    ((w : Whole) → examine_answer r.stamped.packet ≡ gives w → check_answer r.stamped.packet ≡ gives (verdict_for w.kind)) × AllGood rs

pub record CapturesMended : Type 0 where
  pub bytes : (l : List ℕ) → Bytes l → Bytes (mend l)
  pub size : (l : List ℕ) → length (mend l) ≡ length l
  -- The mended capture differs from the lent one in the listed fields alone,
  pub alone : (l : List ℕ) (i : ℕ) → Bytes l → Unlisted (sums_of l) i → get_or (mend l) i 0 ≡ get_or l i 0
  -- and in these as the list says.
  pub hold : (l : List ℕ) → Bytes l → AllHold (sums_of l) l (mend l)
  -- Read, it has the records of the lent one, their packets mended.
  pub opens : (l : List ℕ) → starts_with file_header (mend l) ≡ starts_with file_header l
  pub reads : (l : List ℕ) → Bytes l → starts_with file_header l ≡ true
      → records_of (drop header_size (mend l)) ≡ mend_records (records_of (drop header_size l))
  -- Every packet of it that qualifies is called good, or good without checksum.
  pub good_then : (l : List ℕ) (rs : List Recorded) → Bytes l → starts_with file_header l ≡ true
      → records_of (drop header_size (mend l)) ≡ whole rs → AllGood rs
  -- Mended twice, nothing is listed the second time, and no byte changes.
  pub none_twice : (l : List ℕ) → Bytes l → changes (mend l) ≡ []
  pub twice : (l : List ℕ) → Bytes l → mend (mend l) ≡ mend l

-- The same of two calls, the second of what the first wrote: it lists nothing, and writes the same bytes again.
abbrev pub MendsTwice : Type 0
MendsTwice =
    (l o o' o₂ o₂' : List ℕ) (e e' e₂ e₂' : List (List ℕ)) (n k : ℕ) (r : Result Counts ListRefusal) → Bytes l → Mends l o e (Ok (counts n k)) o' e'
    → Mends (take n o') o₂ e₂ r o₂' e₂' → n ≤ length o₂
    → (r ≡ Ok (counts n 0)) × (take n o₂' ≡ take n o') × (e₂' ≡ e₂)
