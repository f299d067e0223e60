-- The hex dump: document 01, "Hex dump and capture". Characters stand as their ASCII numbers.
use Rattle.std.specs.Prelude.{ℕ, zero, suc, ◌+◌, ◌-◌, ◌*◌, ◌/◌, ◌%◌, cond, ◌&&◌, List, [], ◌∷◌, ◌++◌, map, length, take, drop, replicate, ltb, leb}
use Rattle.packet.specs.Headroom.{bytes_at, whole_of}
use Rattle.packet.specs.declared.Packet.{Packet}

abbrev pub space : ℕ
space = 0x20

abbrev pub newline : ℕ
newline = 0x0a

-- `|`
abbrev pub bar : ℕ
bar = 0x7c

-- `.`
abbrev pub stop : ℕ
stop = 0x2e

-- the digit of a number below 16: `0` to `9`, then `a` to `f`
abbrev pub digit_of : ℕ → ℕ
digit_of d = cond (ltb d 10) (0x30 + d) (0x61 + (d - 10))

-- x in k digits to a base, the highest first
unfoldable pub numeral : ℕ → ℕ → ℕ → List ℕ
numeral base zero x = []
numeral base (suc k) x = numeral base k (x / base) ++ (digit_of (x % base) ∷ [])

-- how many decimal digits x has: one below 10, and else one more than a tenth of it has; most is at least x
unfoldable pub digits_in : ℕ → ℕ → ℕ
digits_in zero x = 1
digits_in (suc most) x = cond (ltb x 10) 1 (suc (digits_in most (x / 10)))

-- how many decimal digits x has
unfoldable pub digits_of : ℕ → ℕ
digits_of x = digits_in x x

-- "the length in decimal"
unfoldable pub decimal : ℕ → List ℕ
decimal x = numeral 10 (digits_of x) x

-- "` byte packet:`, newline"
abbrev pub title : List ℕ
title =
    space ∷ 0x62 ∷ 0x79 ∷ 0x74 ∷ 0x65 ∷ space ∷ 0x70 ∷ 0x61 ∷ 0x63 ∷ 0x6b ∷ 0x65 ∷ 0x74 ∷ 0x3a ∷ newline ∷ []

-- "` xx` for each byte"
unfoldable pub hexes : List ℕ → List ℕ
hexes [] = []
hexes (b ∷ l) = space ∷ (numeral 16 2 b ++ hexes l)

-- "the characters 0x21 to 0x7e or `.`"
abbrev pub shown_of : ℕ → ℕ
shown_of b = cond (leb 0x21 b && leb b 0x7e) b stop

-- a line: "position in 5 hex digits", "` |`, ` xx` for each byte, three spaces for each missing one"; every
-- position is below 0x100000, since no end is above it, so 5 digits hold it
unfoldable pub left : ℕ → List ℕ → List ℕ
left pos l = numeral 16 5 pos ++ ((space ∷ bar ∷ []) ++ (hexes l ++ replicate (3 * (16 - length l)) space))

-- and "a space, the characters 0x21 to 0x7e or `.`, newline"
unfoldable pub right : List ℕ → List ℕ
right l = (space ∷ []) ++ (map shown_of l ++ (newline ∷ []))

-- a whole line
unfoldable pub line : ℕ → List ℕ → List ℕ
line pos l = left pos l ++ right l

-- "lines of up to 16 bytes": k of them, the first byte of l at the place pos of the buffer
unfoldable pub lines : ℕ → ℕ → List ℕ → List ℕ
lines zero pos l = []
lines (suc k) pos l = line pos (take 16 l) ++ lines k (pos + 16) (drop 16 l)

-- the dump of the bytes l, the first of which stands at the place pos of the buffer
unfoldable pub dump_bytes : ℕ → List ℕ → List ℕ
dump_bytes pos l = decimal (length l) ++ (title ++ lines ((length l + 15) / 16) pos l)

-- the dump of a packet in the buffer b: "position in 5 hex digits counted from the buffer's start, headroom included"
abbrev pub dump_of : Packet → List ℕ → List ℕ
dump_of p b = dump_bytes p.headroom (bytes_at (whole_of p) b)
