-- The Internet checksum, from RFC 1071.
use Rattle.std.specs.Prelude.{◌≡◌, ℕ, ◌+◌, ◌-◌, ◌*◌, ◌/◌, ◌%◌, Bool, List, [], ◌∷◌, ◌==◌}

-- 1, (1): adjacent octets are paired to form 16-bit integers, the first of a pair the high one. 1, [2]: with an odd count the last octet
-- is the high one of a pair whose low one is 0.
unfoldable pub words : List ℕ → List ℕ
words [] = []
words (a ∷ []) = (a * 256) ∷ []
words (a ∷ b ∷ r) = (a * 256 + b) ∷ words r

-- 1: one's complement addition, by an end around carry: what overflows at the top is added at the bottom.
unfoldable pub plus : ℕ → ℕ → ℕ
plus a b = (a + b) % 65536 + (a + b) / 65536

-- 1, (1): the one's complement sum of these 16-bit integers
unfoldable pub sum : List ℕ → ℕ
sum [] = 0
sum (w ∷ ws) = plus w (sum ws)

-- 1, (2): the one's complement of this sum
unfoldable pub checksum : List ℕ → ℕ
checksum l = 65535 - sum (words l)

-- 1, (3): the sum over the same octets, the checksum's field included, is all 1 bits; and whether it is
abbrev pub Verifies : List ℕ → Type 0
Verifies l = sum (words l) ≡ 65535

abbrev pub verifies : List ℕ → Bool
verifies l = sum (words l) == 65535
