-- A part of a payload that is lent, as the library's slice.
use Rattle.std.proofs.Common.{◌≡◌, ℕ, zero, suc, ◌-◌, List, [], ◌∷◌, take, drop, refl, arith}
use lib.Seq.{slice, take-nil}

pub lent_slice : (s e : ℕ) (d : List ℕ) → take (e - s) (drop s d) ≡ slice s e d
lent_slice zero e d = let z : e - 0 ≡ e = omega arith in rw z refl
lent_slice (suc s) zero d = let z : 0 - suc s ≡ 0 = omega arith in rw z refl
lent_slice (suc s) (suc e) [] = take-nil (suc e - suc s)
lent_slice (suc s) (suc e) (x ∷ d) = let z : suc e - suc s ≡ e - s = omega arith in rw z (lent_slice s e d)
