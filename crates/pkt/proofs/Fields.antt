-- Laws of numbers in bytes, each over the width.
use Rattle.std.proofs.Common.{w32, ◌≡◌, ℕ, zero, suc, ◌+◌, ◌*◌, ◌/◌, ◌%◌, ◌^◌, ◌<◌, List, [], ◌∷◌, ◌++◌, length, sym, refl, ap, ◌∙◌, ap₂, append_assoc, pow-suc, arith, length-append, take_at, drop_at}
use native.Mathlib.Nat.{one-le-pow}
use lib.Arith.{mod-mul}
use Rattle.std.specs.Int.{to_be_bytes}
use Rattle.pkt.specs.Fields.{be, value, Field, fields, Bytes, widths, ReadBack}
use Rattle.pkt.proofs.Bytes.{bytes_nil, bytes_cons, bytes_append}

-- The library's bytes of a number are these.
pub be_four : (x : ℕ) → to_be_bytes w32 x ≡ be 4 x
be_four x =
    let two : x / 256 / 256 ≡ x / 65536 = omega arith in
    let three : x / 65536 / 256 ≡ x / 16777216 = omega arith in
    rw (two, three) refl

pub be_length : (k x : ℕ) → length (be k x) ≡ k
be_length zero x = refl
be_length (suc k) x = length-append (be k (x / 256)) (x % 256 ∷ []) ∙ rw (be_length k (x / 256)) (omega arith)

pub be_bytes : (k x : ℕ) → Bytes (be k x)
be_bytes zero x = bytes_nil
be_bytes (suc k) x =
    let h : x % 256 < 256 = omega arith in
    bytes_append (be k (x / 256)) (x % 256 ∷ []) (be_bytes k (x / 256)) (bytes_cons (x % 256) [] h bytes_nil)

pub fields_bytes : (fs : List Field) → Bytes (fields fs)
fields_bytes [] = bytes_nil
fields_bytes (f ∷ fs) = bytes_append (be f.width f.number) (fields fs) (be_bytes f.width f.number) (fields_bytes fs)

pub fields_length : (fs : List Field) → length (fields fs) ≡ widths fs
unfolding widths
fields_length [] = refl
fields_length (f ∷ fs) =
    length-append (be f.width f.number) (fields fs)
    ∙ ap₂ (λ (a b : ℕ). a + b) (be_length f.width f.number) (fields_length fs)

fields_append : (xs bs : List Field) → fields (xs ++ bs) ≡ fields xs ++ fields bs
fields_append [] bs = refl
fields_append (a ∷ xs) bs =
    ap (λ (l : List ℕ). be a.width a.number ++ l) (fields_append xs bs)
    ∙ sym (append_assoc (be a.width a.number) (fields xs) (fields bs))

value_snoc : (a : ℕ) (l : List ℕ) (b : ℕ) → value a (l ++ (b ∷ [])) ≡ value a l * 256 + b
unfolding value
value_snoc a [] b = refl
value_snoc a (x ∷ l) b = value_snoc (a * 256 + x) l b

-- One law for every width: what the bytes stand for is the number, as far as the width holds it.
pub be_value : (k x : ℕ) → value 0 (be k x) ≡ x % 256 ^ k
unfolding value
be_value zero x = omega arith
be_value (suc k) x =
    value_snoc 0 (be k (x / 256)) (x % 256)
    ∙ rw (be_value k (x / 256)) (sym (mod-mul x {m = 256 ^ k} {c = 256} (one-le-pow k 256 (omega arith)) (omega arith)))
    ∙ ap (λ (m : ℕ). x % m) (sym (pow-suc 256 k))

-- One law for every field of every header: the bytes at its place stand for its number, as far as its width holds it.
pub field_at_lem : ReadBack
field_at_lem xs f bs rest =
    rw (
      fields_append,
      append_assoc,
      drop_at (fields xs) _ (widths xs) (fields_length xs),
      append_assoc,
      take_at (be f.width f.number) _ f.width (be_length f.width f.number),
    )
    (be_value f.width f.number)
