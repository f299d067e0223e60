-- What is read back: document 02, T-14, "Reading the blocks back gives the same times and packets, and this is proved over any number of records."
use Rattle.std.specs.Prelude.{ℕ, ◌^◌, ◌≤◌, ◌<◌, ◌≡◌, List, [], ◌∷◌, map, length, take, Ok}
use Rattle.pkt.specs.Answers.{gives_all, most_bytes}
use Rattle.pkt.specs.Fields.{Bytes}
use Rattle.pcap.specs.Answers.{most_micros}
use Rattle.pcap.specs.Read.{Recorded}
use Rattle.reading.specs.Ends.{records_answer}
use Rattle.exporting.specs.Pcapng.{micros, exported}
use Rattle.exporting.specs.Read.{Item, section, interface, packet, items_of, records_back}
use Rattle.exporting.specs.Export.{Exports}

-- a record as a capture has it, with a time that is one: seconds and original length of 32 bits, microseconds up to 999,999, at most 65,535 bytes
pub record Timed (r : Recorded) : Type 0 where
  pub seconds : r.stamped.sec < 2 ^ 32
  pub micros : r.stamped.usec ≤ most_micros
  pub original : r.original < 2 ^ 32
  pub short : length r.stamped.packet ≤ most_bytes

unfoldable pub AllTimed : List Recorded → Type 0
AllTimed [] = Unit {0}
AllTimed (r ∷ rs) = Timed r × AllTimed rs

-- the block of a record, as it is to be read: of interface 0, with both lengths, and with no options
abbrev pub as_packet : Recorded → Item
as_packet r = packet 0 (micros r) (length r.stamped.packet) r.original r.stamped.packet []

-- "one section header block (version 1.0, length unknown), one interface block of link type 101 and snap length 65,535, and one enhanced packet block
-- for each record", none with options
abbrev pub as_items : List Recorded → List Item
as_items rs = section 0x1a2b_3c4d 1 0 0xffff_ffff_ffff_ffff [] ∷ interface 101 65535 [] ∷ map as_packet rs

-- What the call wrote: the records of the capture are read back, times, packets and both lengths, and the size is what it answered.
pub record Back (l o' : List ℕ) (n : ℕ) : Type 0 where
  pub records : List Recorded
  pub read : records_answer l ≡ gives_all records
  pub items : items_of (take n o') ≡ as_items records
  pub back : records_back (items_of (take n o')) ≡ records
  pub size : n ≡ length (exported records)

pub record ReadsBack : Type 0 where
  -- The blocks of any number of records are read back,
  pub items : (rs : List Recorded) → AllTimed rs → items_of (exported rs) ≡ as_items rs
  -- and so are the records.
  pub records : (rs : List Recorded) → AllTimed rs → records_back (items_of (exported rs)) ≡ rs
  -- So with what a call wrote, of any capture.
  pub calls : (l o o' : List ℕ) (n : ℕ) → Bytes l → Exports l o (Ok n) o' → Back l o' n
