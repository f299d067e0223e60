-- Document 02, T-05: "cuts each UDP datagram .. into the fewest pieces, each but the last as full as blocks allow"; T-07: "Our planner cuts as T-05 does, each
-- length in the fewest blocks".
use Rattle.std.specs.Prelude.{ℕ, zero, suc, ◌+◌, ◌-◌, ◌*◌, ◌/◌, ◌<◌, List, [], ◌∷◌}
use Rattle.pieces.specs.declared.BlockRequest.{BlockRequest}

-- the bytes that a packet carries on a link of m bytes, and how many whole blocks of 8 they have
abbrev pub link_room : ℕ → ℕ
link_room m = m - 20

abbrev pub blocks_in : ℕ → ℕ
blocks_in m = link_room m / 8

-- how many blocks n bytes take, the last perhaps not whole
abbrev pub blocks_of : ℕ → ℕ
blocks_of n = (n + 7) / 8

-- how many full pieces carry what the last one cannot
abbrev pub full_above : ℕ → ℕ → ℕ
full_above above full = (above + (full - 1)) / full

-- How many pieces n bytes take on a link of m bytes: "each but the last" carries whole blocks, and the last all that the link allows. (Where no block
-- fits it is 1: a number divided by 0 is 0. Whether there is a plan at all is asked apart.)
unfoldable pub piece_count : ℕ → ℕ → ℕ
piece_count n m = 1 + full_above (n - link_room m) (8 * blocks_in m)

-- "the fewest": with one piece less, each but the last full and the last as long as the link allows, bytes of n are left over
pub record Fewest (n m : ℕ) : Type 0 where
  pub fewer_leave : 1 < piece_count n m → (piece_count n m - 2) * (8 * blocks_in m) + link_room m < n

-- the length in blocks of the piece at block off of n bytes, with so many pieces behind it and b blocks in a full one
abbrev pub length_at : ℕ → ℕ → ℕ → ℕ → ℕ
length_at b zero off n = blocks_of (n - 8 * off)
length_at b (suc behind) off n = b

-- so many requests of n bytes from block off on, b blocks in a full one, in rising order
unfoldable pub requests_from : ℕ → ℕ → ℕ → ℕ → List BlockRequest
requests_from n b zero off = []
requests_from n b (suc behind) off = record { off = off; len = length_at b behind off n } ∷ requests_from n b behind (off + b)

-- all of n bytes, on a link of m
abbrev pub planned : ℕ → ℕ → List BlockRequest
planned n m = requests_from n (blocks_in m) (piece_count n m) 0
