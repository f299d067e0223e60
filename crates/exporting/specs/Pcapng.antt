-- The pcapng file as it is written, little-endian: the published layout (draft-ietf-opsawg-pcapng, 'PCAP Next Generation Capture File Format').
use Rattle.std.specs.Prelude.{ℕ, ◌+◌, ◌*◌, ◌-◌, ◌/◌, ◌%◌, ◌^◌, List, [], ◌∷◌, ◌++◌, length}
use Rattle.pkt.specs.Written.{zeros}
use Rattle.pcap.specs.Pcap.{le}
use Rattle.pcap.specs.Read.{Recorded}

-- 'General Block Structure': block type (4), block total length (4), the body, and the block total length again (4)
unfoldable pub block : ℕ → List ℕ → List ℕ
block kind body = le 4 kind ++ (le 4 (12 + length body) ++ (body ++ le 4 (12 + length body)))

-- 'Section Header Block': byte-order magic (4), major version (2), minor version (2), section length (8). "version 1.0, length unknown": all ones
unfoldable pub section_block : List ℕ
section_block = block 0x0a0d_0d0a (le 4 0x1a2b_3c4d ++ (le 2 1 ++ (le 2 0 ++ le 8 0xffff_ffff_ffff_ffff)))

-- 'Interface Description Block': link type (2), reserved (2), snap length (4). "of link type 101 and snap length 65,535"; no options
unfoldable pub interface_block : List ℕ
interface_block = block 1 (le 2 101 ++ (le 2 0 ++ le 4 65535))

-- "microsecond times as a 64-bit count"
abbrev pub per_second : ℕ
per_second = 1000000

abbrev pub micros_of : ℕ → ℕ → ℕ
micros_of sec usec = sec * per_second + usec

abbrev pub micros : Recorded → ℕ
micros r = micros_of r.stamped.sec r.stamped.usec

-- "padded with zeros to four bytes": so many behind n bytes
unfoldable pub padding : ℕ → ℕ
padding n = (4 - n % 4) % 4

-- 'Enhanced Packet Block': interface (4), the time "in two words, high first" (4 and 4), captured length (4), original length (4), "both lengths as in
-- the record", the packet's data and its padding; "no options"
unfoldable pub packet_block : Recorded → List ℕ
packet_block r =
    block 6
    (le 4 0 ++ (le 4 (micros r / 2 ^ 32) ++ (le 4 (micros r % 2 ^ 32) ++ (le 4 (length r.stamped.packet) ++ (le 4 r.original
    ++ (r.stamped.packet ++ zeros (padding (length r.stamped.packet))))))))

-- "one enhanced packet block for each record"
unfoldable pub packet_blocks : List Recorded → List ℕ
packet_blocks [] = []
packet_blocks (r ∷ rs) = packet_block r ++ packet_blocks rs

-- "one section header block .., one interface block .., and one enhanced packet block for each record"
unfoldable pub exported : List Recorded → List ℕ
exported rs = section_block ++ (interface_block ++ packet_blocks rs)
