-- A piece, and when two pieces contradict each other (document 01, "Assembly").
use Rattle.std.specs.Prelude.{◌≡◌, ◌≢◌, Bool, true, false, ℕ, ◌+◌, ◌*◌, ◌-◌, ◌%◌, ◌≤◌, ◌<◌, length, get_or}
use mathlib.Core.List.{List, Memᴰ}

-- a piece: its offset in blocks of 8 bytes, its MF bit and its data
pub record Piece : Type 0 where
  pub off : ℕ
  pub mf : Bool
  pub body : List ℕ

-- the place of its first byte
abbrev pub start : Piece → ℕ
start p = 8 * p.off

-- "The end of a piece is 8·offset + its data length."
abbrev pub end : Piece → ℕ
end p = 8 * p.off + length p.body

-- the piece holds a byte at place k
pub record Holds (p : Piece) (k : ℕ) : Type 0 where
  pub from : start p ≤ k
  pub till : k < end p

-- the byte that it holds there
abbrev pub byte_at : Piece → ℕ → ℕ
byte_at p k = get_or p.body (k - start p) 0

-- "Two accepted pieces contradict each other if they hold different bytes at one place, or both have MF clear and their ends differ,
-- or one has MF set and its end is at or above the end of one with MF clear." (The last may hold of either one.)
pub data Contradict (p q : Piece) : Type 0 where
  differ : (k : ℕ) → Holds p k → Holds q k → byte_at p k ≢ byte_at q k → Contradict p q
  two_ends : p.mf ≡ false → q.mf ≡ false → end p ≢ end q → Contradict p q
  more_after : p.mf ≡ true → q.mf ≡ false → end q ≤ end p → Contradict p q
  after_more : p.mf ≡ false → q.mf ≡ true → end p ≤ end q → Contradict p q

-- neither refused by 9, "MF set and data length no multiple of 8", nor by 10, "end above 65,515": C is the payload buffer's size
pub record Acceptable (C : ℕ) (p : Piece) : Type 0 where
  pub whole : p.mf ≡ true → length p.body % 8 ≡ 0
  pub fits : end p ≤ C

-- two of ps contradict each other
pub record Contradictory (ps : List Piece) : Type 0 where
  pub one : Piece
  pub other : Piece
  pub one_in : Memᴰ one ps
  pub other_in : Memᴰ other ps
  pub clash : Contradict one other

-- the same pieces, "in any order and with any repeats" (demand 3)
pub record Same (ps qs : List Piece) : Type 0 where
  pub to : (p : Piece) → Memᴰ p ps → Memᴰ p qs
  pub from : (p : Piece) → Memᴰ p qs → Memᴰ p ps
