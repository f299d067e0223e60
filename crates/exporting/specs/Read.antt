-- Reading a pcapng file, little-endian: the published layout (draft-ietf-opsawg-pcapng). Nothing here rests on how one is written.
use Rattle.std.specs.Prelude.{ℕ, zero, suc, ◌+◌, ◌*◌, ◌-◌, ◌/◌, ◌%◌, Bool, not, ◌||◌, cond, List, [], ◌∷◌, length, take, drop, ltb, eqb}
use Rattle.pcap.specs.Read.{number, Recorded}

-- the block total length of the block that begins where l does: all of its bytes
abbrev pub total_of : List ℕ → ℕ
total_of l = number 4 4 l

-- A block is broken if it has not the 12 bytes of its type and its two lengths, if its length is below 12, no multiple of 4 or more than there is, or
-- if the length at its end is another.
unfoldable pub block_broken : List ℕ → Bool
block_broken l =
    ltb (length l) 12 || (ltb (total_of l) 12 || (not (eqb (total_of l % 4) 0)
    || (ltb (length l) (total_of l) || not (eqb (number 4 (total_of l - 4) l) (total_of l)))))

-- What a block says, by its type. What stands behind its fixed fields is its options.
pub data Item : Type 0 where
  -- byte-order magic, major and minor version, section length, options
  section : ℕ → ℕ → ℕ → ℕ → List ℕ → Item
  -- link type, snap length, options
  interface : ℕ → ℕ → List ℕ → Item
  -- interface, time, captured length, original length, packet data, options
  packet : ℕ → ℕ → ℕ → ℕ → List ℕ → List ℕ → Item
  -- another type, and its body
  other : ℕ → List ℕ → Item
  -- no block
  broken : Item

-- n, rounded up to whole words of four bytes
abbrev pub padded : ℕ → ℕ
padded n = (n + 3) / 4 * 4

-- the body b of an enhanced packet block: interface (4), the time's high word (4) and low word (4), captured length (4), original length (4), the data,
-- which is padded to whole words, and the options
abbrev pub packet_item : List ℕ → Item
packet_item b =
    packet (number 4 0 b) (number 4 4 b * 4294967296 + number 4 8 b) (number 4 12 b) (number 4 16 b) (take (number 4 12 b) (drop 20 b))
    (drop (20 + padded (number 4 12 b)) b)

-- the body b of a block of a type
unfoldable pub item_of : ℕ → List ℕ → Item
item_of kind b =
    cond (eqb kind 0x0a0d_0d0a) (section (number 4 0 b) (number 2 4 b) (number 2 6 b) (number 8 8 b) (drop 16 b))
    (cond (eqb kind 1) (interface (number 2 0 b) (number 4 4 b) (drop 8 b))
    (cond (eqb kind 6) (packet_item b) (other kind b)))

-- the block that begins where l does: its body stands between its type and first length, and its last length
abbrev pub item_at : List ℕ → Item
item_at l = item_of (number 4 0 l) (take (total_of l - 12) (drop 8 l))

-- what the blocks of l say, each at the end of the one before, as far as there are fewer than most
unfoldable pub items_in : ℕ → List ℕ → List Item
items_in zero l = broken ∷ []
items_in (suc most) l =
    cond (eqb (length l) 0) []
    (cond (block_broken l) (broken ∷ []) (item_at l ∷ items_in most (drop (total_of l) l)))

-- all of them: a block takes 12 bytes or more, so there are no more blocks than bytes
abbrev pub items_of : List ℕ → List Item
items_of l = items_in (suc (length l)) l

-- 'if_tsresol': "If this option is not present, a resolution of 10^-6 is assumed"
abbrev pub resolution : ℕ
resolution = 1000000

-- the records of the packets among these, with times of that resolution
unfoldable pub records_back : List Item → List Recorded
records_back [] = []
records_back (packet i t c o d x ∷ is) =
    record { stamped = record { sec = t / resolution; usec = t % resolution; packet = d }; original = o } ∷ records_back is
records_back (section m v w n x ∷ is) = records_back is
records_back (interface k s x ∷ is) = records_back is
records_back (other k b ∷ is) = records_back is
records_back (broken ∷ is) = records_back is
