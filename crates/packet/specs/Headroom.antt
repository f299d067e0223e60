-- A packet with headroom in a buffer: document 01's record (headroom, end), and the parts of a packet.
use Rattle.std.specs.Prelude.{ℕ, ◌+◌, ◌-◌, Bool, ◌&&◌, List, ◌++◌, length, take, drop, leb, eqb}
use Rattle.packet.specs.declared.Packet.{Packet}
use Rattle.packet.specs.declared.PktSlice.{PktSlice}

-- Refusal 16: no end may be above this
abbrev pub most_end : ℕ
most_end = 1048576

-- Refusal 16 is not given for the record p over a buffer of n bytes: headroom at most end, end at most the buffer and 1,048,576
unfoldable pub valid : Packet → ℕ → Bool
valid p n = leb p.headroom p.end && (leb p.end n && leb p.end most_end)

abbrev pub len_of : Packet → ℕ
len_of p = p.end - p.headroom

abbrev pub packet : ℕ → ℕ → Packet
packet h e = record { headroom = h; end = e }

abbrev pub part : ℕ → ℕ → PktSlice
part i k = record { off = i; len = k }

-- a part is within the packet: it starts at the headroom or later, and ends at the end or before
unfoldable pub within : Packet → PktSlice → Bool
within p s = leb p.headroom s.off && leb (s.off + s.len) p.end

-- a part can be returned to the headroom: it starts where the packet does, and is no longer than it
unfoldable pub leads : Packet → PktSlice → Bool
leads p s = eqb s.off p.headroom && leb s.len (len_of p)

-- the bytes of a part of the buffer b
abbrev pub bytes_at : PktSlice → List ℕ → List ℕ
bytes_at s b = take s.len (drop s.off b)

-- the part that is the whole packet: never the headroom
abbrev pub whole_of : Packet → PktSlice
whole_of p = part p.headroom (len_of p)

-- the buffer b with the bytes d from place i on, and the rest as it was
unfoldable pub placed : ℕ → List ℕ → List ℕ → List ℕ
placed i d b = take i b ++ (d ++ drop (i + length d) b)
