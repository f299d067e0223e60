-- Pieces cut from one payload (document 01, "Pieces").
use Rattle.std.specs.Prelude.{◌≡◌, not, ℕ, ◌+◌, ◌*◌, ◌≤◌, ◌<◌, min, length, eqb}
use mathlib.Core.List.{List, [], ◌∷◌, Memᴰ}
use Rattle.std.proofs.Math.Seq.{slice}
use Rattle.assembly.specs.Piece.{Piece, Holds}

-- "For a payload of n bytes, a request (off, len) in blocks carries bytes min(8·off, n) up to, not including, min(8·off + 8·len, n).
-- MF is set exactly if that end is not n .. The offset field is off even past the end."
unfoldable pub requested : List ℕ → ℕ → ℕ → Piece
requested d off len =
    record {
      off = off;
      mf = not (eqb (min (8 * off + 8 * len) (length d)) (length d));
      body = slice (min (8 * off) (length d)) (min (8 * off + 8 * len) (length d)) d;
    }

-- p was built from d, and not asked for past its end
pub record Part (d : List ℕ) (p : Piece) : Type 0 where
  pub off : ℕ
  pub len : ℕ
  pub within : 8 * off ≤ length d
  pub built : p ≡ requested d off len

-- together the pieces hold every place below n
unfoldable pub Covers : List Piece → ℕ → Type 0
Covers ps n = (k : ℕ) → k < n → (p : Piece) × Memᴰ p ps × Holds p k

-- the payload of document 01's examples: "n = 20"
abbrev pub twenty : List ℕ
twenty = 1 ∷ 2 ∷ 3 ∷ 4 ∷ 5 ∷ 6 ∷ 7 ∷ 8 ∷ 9 ∷ 10 ∷ 11 ∷ 12 ∷ 13 ∷ 14 ∷ 15 ∷ 16 ∷ 17 ∷ 18 ∷ 19 ∷ 20 ∷ []
