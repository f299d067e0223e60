-- The map of an assembly: "block k is bit k mod 8 of byte k/8, lowest bit first" (document 01, "Assembly").
use Rattle.std.specs.Prelude.{Bool, true, ◌&&◌, List, ℕ, zero, suc, ◌/◌, ◌%◌, ◌^◌, get_or, set, eqb}
use Rattle.std.specs.Int.Bits.{bit_or}

-- block k of the map: 1 if it is marked, else 0
unfoldable pub block_bit : List ℕ → ℕ → ℕ
block_bit m k = get_or m (k / 8) 0 / 2 ^ (k % 8) % 2

-- the map with block k marked
unfoldable pub set_bit : List ℕ → ℕ → List ℕ
set_bit m k = set m (k / 8) (bit_or (get_or m (k / 8) 0) (2 ^ (k % 8)))

-- the map with n blocks marked, block k the first of them
unfoldable pub mark : List ℕ → ℕ → ℕ → List ℕ
mark m k zero = m
mark m k (suc n) = mark (set_bit m k) (suc k) n

-- whether the first n blocks are marked
unfoldable pub marked : List ℕ → ℕ → Bool
marked m zero = true
marked m (suc n) = eqb (block_bit m n) 1 && marked m n
