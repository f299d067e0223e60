-- What is left of a list of requests at i.
use mathlib.Core.Path.{◌≡◌, refl}
use mathlib.Core.List.{List, [], ◌∷◌}
use Prim.Native.Nat.{ℕ, zero, suc, ◌<◌, ◌≤◌}
use native.Mathlib.Nat.{not-suc-le-zero, le_of_suc-le-suc}
use lib.ListN.{length, drop}
use Rattle.pieces.specs.declared.BlockRequest.{BlockRequest}
use Rattle.pieces.specs.OneByOne.{request_at}

-- what is left of a list at i: the request there and the rest, or nothing
pub unroll : (ys : List BlockRequest) (i : ℕ) → i < length ys → drop i ys ≡ request_at ys i ∷ drop (suc i) ys
unroll [] i h = absurd (not-suc-le-zero h)
unroll (x ∷ xs) zero h = refl
unroll (x ∷ xs) (suc i) h = unroll xs i (le_of_suc-le-suc h)

pub all_gone : (ys : List BlockRequest) (i : ℕ) → length ys ≤ i → drop i ys ≡ []
all_gone [] zero h = refl
all_gone [] (suc i) h = refl
all_gone (x ∷ xs) zero h = absurd (not-suc-le-zero h)
all_gone (x ∷ xs) (suc i) h = all_gone xs i (le_of_suc-le-suc h)
