-- The classic capture file: libpcap's pcap-savefile page, little-endian, with microseconds.
use Rattle.std.specs.Prelude.{ℕ, zero, suc, ◌/◌, ◌%◌, List, [], ◌∷◌, ◌++◌, length}

-- x in k bytes, little-endian: the low byte first, and what is above it in the k - 1 bytes behind
abbrev pub le : ℕ → ℕ → List ℕ
le zero x = []
le (suc k) x = x % 256 ∷ le k (x / 256)

-- The file header: magic number (4), major version (2), minor version (2), reserved (4), reserved (4), snap length (4), link type (4)
unfoldable pub file_header : List ℕ
file_header = le 4 0xa1b2_c3d4 ++ (le 2 2 ++ (le 2 4 ++ (le 4 0 ++ (le 4 0 ++ (le 4 65535 ++ le 4 101)))))

-- A packet's header: seconds (4), microseconds (4), captured length (4), original length (4); a packet of n bytes is captured whole
unfoldable pub record_header : ℕ → ℕ → ℕ → List ℕ
record_header sec usec n = le 4 sec ++ (le 4 usec ++ (le 4 n ++ le 4 n))

-- A record: the packet's header, and behind it the packet
unfoldable pub record_bytes : ℕ → ℕ → List ℕ → List ℕ
record_bytes sec usec d = record_header sec usec (length d) ++ d

-- a packet with its time
pub record Stamped : Type 0 where
  pub sec : ℕ
  pub usec : ℕ
  pub packet : List ℕ

-- records one behind the other
unfoldable pub records_bytes : List Stamped → List ℕ
records_bytes [] = []
records_bytes (r ∷ rs) = record_bytes r.sec r.usec r.packet ++ records_bytes rs

-- a whole capture: the file header, and the records behind it
unfoldable pub capture_bytes : List Stamped → List ℕ
capture_bytes rs = file_header ++ records_bytes rs
