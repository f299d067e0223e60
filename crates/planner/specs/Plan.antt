-- Document 02, T-07: "For payload length n (0 to 65,515) and link size m, a plan is a non-empty list of block requests, none past the payload's end, that
-- carries each byte exactly once in rising order, each packet at most m bytes, only the last with MF clear."
use Rattle.std.specs.Prelude.{ℕ, zero, suc, ◌-◌, ◌*◌, ◌≤◌, ◌<◌, ◌≡◌, Bool, length, eqb}
use mathlib.Core.List.{List, [], ◌∷◌, ◌++◌, Memᴰ}
use Rattle.ezpkt.specs.Build.{start_at, end_at}
use Rattle.pieces.specs.Fragments.{size_for}
use Rattle.pieces.specs.OneByOne.{request_at}
use Rattle.pieces.specs.declared.BlockRequest.{BlockRequest}

-- the places s, s + 1, and so on, k of them
unfoldable pub places_from : ℕ → ℕ → List ℕ
places_from s zero = []
places_from s (suc k) = s ∷ places_from (suc s) k

-- Document 01, 'Pieces', "carries bytes min(8·off, n) up to, not including, min(8·off + 8·len, n)": the places of the bytes that a request carries of
-- n, and those of all requests of a list, one behind the other
abbrev pub places_of : ℕ → BlockRequest → List ℕ
places_of n r = places_from (start_at r.off n) (end_at r.off r.len n - start_at r.off n)

unfoldable pub places_in : ℕ → List BlockRequest → List ℕ
places_in n [] = []
places_in n (r ∷ rs) = places_of n r ++ places_in n rs

-- "MF is set exactly if that end is not n"
abbrev pub mf_clear : ℕ → BlockRequest → Bool
mf_clear n r = eqb (end_at r.off r.len n) n

pub record Plan (n m : ℕ) (l : List BlockRequest) : Type 0 where
  -- "a non-empty list of block requests,
  pub some : 0 < length l
  -- none past the payload's end,
  pub none_past : (r : BlockRequest) → Memᴰ r l → 8 * r.off ≤ n
  -- that carries each byte exactly once in rising order,
  pub carries : places_in n l ≡ places_from 0 n
  -- each packet at most m bytes,
  pub short : (r : BlockRequest) → Memᴰ r l → size_for n r ≤ m
  -- only the last with MF clear."
  pub last_clear : (i : ℕ) → i < length l → mf_clear n (request_at l i) ≡ eqb (suc i) (length l)
