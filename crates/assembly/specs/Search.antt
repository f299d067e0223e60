-- What the inner search for a contradicting byte says. No public contract cites these.
use Rattle.std.specs.Prelude.{Bool, false, not, ◌||◌, cond, List, [], ◌∷◌, ℕ, suc, ◌*◌, ◌-◌, ◌/◌, ◌%◌, get_or, eqb}

-- whether a byte of the data differs from the byte at its place: what is asked of a block whose bit is set
unfoldable pub unlike : List ℕ → ℕ → List ℕ → Bool
unlike d k [] = false
unlike d k (x ∷ xs) = not (eqb (get_or d k 0) x) || unlike d (suc k) xs

-- how many bytes of the data the search goes on from block k: to the next byte of the map where k's is 0, else a block
unfoldable pub onward : List ℕ → ℕ → ℕ
onward m k = cond (eqb (get_or m (k / 8) 0) 0) (8 * (8 - k % 8)) 8
