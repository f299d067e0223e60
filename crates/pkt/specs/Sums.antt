-- What the inner sums say. No public contract cites these.
use Rattle.std.specs.Prelude.{ℕ, zero, suc, ◌+◌, ◌*◌, ◌%◌, List, [], ◌∷◌, slice_index}

-- the plain sum of the 16-bit words
unfoldable pub total : List ℕ → ℕ
total [] = 0
total (a ∷ []) = a * 256
total (a ∷ b ∷ r) = a * 256 + b + total r

-- the 16-bit number that a plain sum folds to: 0 is 0, and any other the one of 1 to 65,535 that differs from it by a multiple of 65,535
unfoldable pub canon : ℕ → ℕ
canon zero = zero
canon (suc n) = suc (n % 65535)

-- the plain sum of the first four words
abbrev pub four_words : List ℕ → ℕ
four_words l =
    slice_index l 0 * 256 + slice_index l 1 + (slice_index l 2 * 256 + slice_index l 3)
    + (slice_index l 4 * 256 + slice_index l 5 + (slice_index l 6 * 256 + slice_index l 7))
