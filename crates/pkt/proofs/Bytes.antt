-- Lists of bytes.
use Rattle.std.proofs.Common.{ℕ, zero, suc, ◌<◌, List, [], ◌∷◌, ◌++◌, arith}
use Rattle.pkt.specs.Fields.{Bytes}

pub bytes_nil : Bytes []
bytes_nil i = omega arith

pub bytes_cons : (a : ℕ) (l : List ℕ) → a < 256 → Bytes l → Bytes (a ∷ l)
bytes_cons a l h t zero = h
bytes_cons a l h t (suc i) = t i

pub bytes_append : (a b : List ℕ) → Bytes a → Bytes b → Bytes (a ++ b)
bytes_append [] b h t i = t i
bytes_append (x ∷ a) b h t zero = h 0
bytes_append (x ∷ a) b h t (suc i) = bytes_append a b (λ j. h (suc j)) t i
