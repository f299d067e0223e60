-- Bytes, numbers in them, the highest first, and a header as the list of its fields.
use Rattle.std.specs.Prelude.{◌≡◌, ℕ, zero, suc, ◌+◌, ◌*◌, ◌/◌, ◌%◌, ◌^◌, ◌<◌, List, [], ◌∷◌, ◌++◌, take, drop, slice_index}

-- each of a list is a byte
abbrev pub Bytes : List ℕ → Type 0
Bytes l = (i : ℕ) → slice_index l i < 256

-- x in k bytes, big-endian: the low byte last, and what is above it in the k - 1 bytes before
abbrev pub be : ℕ → ℕ → List ℕ
be zero x = []
be (suc k) x = be k (x / 256) ++ (x % 256 ∷ [])

-- A field: its width in bytes and its number.
pub record Field : Type 0 where
  pub width : ℕ
  pub number : ℕ

abbrev pub field : ℕ → ℕ → Field
field k x = record { width = k; number = x }

-- fields one after the other
abbrev pub fields : List Field → List ℕ
fields [] = []
fields (f ∷ fs) = be f.width f.number ++ fields fs

-- the number that bytes stand for, the first the highest, behind those that acc stands for
unfoldable pub value : ℕ → List ℕ → ℕ
value acc [] = acc
value acc (b ∷ bs) = value (acc * 256 + b) bs

-- how many bytes fields take
unfoldable pub widths : List Field → ℕ
widths [] = 0
widths (f ∷ fs) = f.width + widths fs

-- "One shared fact covers header fields of every width": the bytes at a field's place, behind those of the fields xs, stand for its number,
-- as far as its width holds it.
abbrev pub ReadBack : Type 0
ReadBack =
    (xs : List Field) (f : Field) (bs : List Field) (rest : List ℕ)
    → value 0 (take f.width (drop (widths xs) (fields (xs ++ f ∷ bs) ++ rest))) ≡ f.number % 256 ^ f.width
