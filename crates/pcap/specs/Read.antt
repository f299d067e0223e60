-- Reading a capture file: libpcap's pcap-savefile page, little-endian.
use Rattle.std.specs.Prelude.{ℕ, zero, suc, ◌+◌, ◌*◌, Bool, ◌||◌, cond, List, [], ◌∷◌, map, length, take, drop, ltb, eqb}
use Rattle.pkt.specs.Answers.{most_bytes}
use Rattle.pcap.specs.Pcap.{Stamped}

-- the number that bytes stand for, the first the lowest
unfoldable pub le_value : List ℕ → ℕ
le_value [] = 0
le_value (b ∷ bs) = b + 256 * le_value bs

-- the number in the k bytes from place i on
unfoldable pub number : ℕ → ℕ → List ℕ → ℕ
number k i l = le_value (take k (drop i l))

-- a record as it is read: the packet with its time, and the length that it had on the wire
pub record Recorded : Type 0 where
  pub stamped : Stamped
  pub original : ℕ

-- the record that begins where l does
unfoldable pub record_at : List ℕ → Recorded
record_at l =
    record {
      stamped = record { sec = number 4 0 l; usec = number 4 4 l; packet = take (number 4 8 l) (drop 16 l) };
      original = number 4 12 l;
    }

-- how many bytes it takes: those of its header, and those that it names
unfoldable pub record_size : List ℕ → ℕ
record_size l = 16 + number 4 8 l

-- A record is broken if its header is cut short, if it names more than 65,535 bytes, or if its bytes are cut short.
unfoldable pub is_broken : List ℕ → Bool
is_broken l = ltb (length l) 16 || (ltb most_bytes (number 4 8 l) || ltb (length l) (record_size l))

-- the records of some bytes: all of them, or those before the first that is broken, whose number, counted from 0, is how many they are
pub data Records : Type 0 where
  whole : List Recorded → Records
  broken_after : List Recorded → Records

-- a record, and behind it others
abbrev pub in_front : Recorded → Records → Records
in_front r (whole rs) = whole (r ∷ rs)
in_front r (broken_after rs) = broken_after (r ∷ rs)

-- the records of l, each at the end of the one before, as far as there are fewer than most
unfoldable pub records_in : ℕ → List ℕ → Records
records_in zero l = broken_after []
records_in (suc most) l =
    cond (eqb (length l) 0) (whole [])
    (cond (is_broken l) (broken_after [])
    (in_front (record_at l) (records_in most (drop (record_size l) l))))

-- all of them: a record takes 16 bytes or more, so there are no more records than bytes
abbrev pub records_of : List ℕ → Records
records_of l = records_in (suc (length l)) l

-- a file as it is read: the fields of its header, and its records
pub record File : Type 0 where
  pub magic : ℕ
  pub major : ℕ
  pub minor : ℕ
  pub reserved : List ℕ
  pub snap : ℕ
  pub link : ℕ
  pub records : Records

-- The file header's fields at their places, and the records in what follows its 24 bytes: none, and broken, where l is shorter than that.
unfoldable pub read_file : List ℕ → File
read_file l =
    record {
      magic = number 4 0 l;
      major = number 2 4 l;
      minor = number 2 6 l;
      reserved = number 4 8 l ∷ number 4 12 l ∷ [];
      snap = number 4 16 l;
      link = number 4 20 l;
      records = cond (ltb (length l) 24) (broken_after []) (records_of (drop 24 l));
    }

-- a packet that was captured whole, as it is read
unfoldable pub wholly : Stamped → Recorded
wholly r = record { stamped = r; original = length r.packet }

-- the file that is to be read where the packets rs went in: version 2.4, snap length 65,535, link type 101
unfoldable pub captured : List Stamped → File
captured rs =
    record {
      magic = 0xa1b2_c3d4;
      major = 2;
      minor = 4;
      reserved = 0 ∷ 0 ∷ [];
      snap = 65535;
      link = 101;
      records = whole (map wholly rs);
    }
