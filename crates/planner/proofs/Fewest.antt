-- No plan has fewer pieces than the planner's, and there is none where the planner refuses.
use mathlib.Core.Path.{◌≡◌, refl, ap}
use mathlib.Core.Bool.{true, or-true}
use mathlib.Core.List.{List}
use Prim.Native.Nat.{ℕ, suc, ◌+◌, ◌-◌, ◌*◌, ◌≤◌, ◌<◌}
use native.Mathlib.Nat.{suc-mul}
use native.Mathlib.Decide.{dec_le}
use native.Mathlib.Omega.{arith}
use lib.ListN.{length}
use lib.Dec.{leb}
use borrow.Author.Tests.{le-leb}
use Rattle.pieces.specs.declared.BlockRequest.{BlockRequest}
use Rattle.planner.specs.Cutting.{link_room, blocks_in, piece_count}
use Rattle.planner.specs.Answers.{can_plan}
use Rattle.planner.proofs.Counting.{count_least}
use Rattle.planner.proofs.Onward.{end_for, Leads, nothing, between, Stands, Onward, ends, goes}

-- the last request carries at most what the link allows,
last_most : (n m next : ℕ) (r : BlockRequest) → Stands n m r next n → n ≤ next + link_room m
last_most n m next r s = go s.leads
  where
    go : Leads n r next n → n ≤ next + link_room m
    go (nothing none e) = omega arith
    go (between some is till) = omega (arith, s.short)

-- and one before others at most the whole blocks of it;
full_most : (n m next after : ℕ) (r : BlockRequest) → Stands n m r next after → end_for n r < n → after ≤ next + 8 * blocks_in m
full_most n m next after r s more = go s.leads
  where
    go : Leads n r next after → after ≤ next + 8 * blocks_in m
    go (nothing none e) = omega arith
    go (between some is till) = omega (arith, s.short)

-- so the bytes from a place on are at most those of a last one and of as many full ones as there are requests before it
onward_most : {n m next : ℕ} {l : List BlockRequest} → Onward n m next l → (k : ℕ) × (length l ≡ suc k) × (n ≤ next + k * (8 * blocks_in m) + link_room m)
onward_most {n} {m} {next} (ends {r = r} s e) = (0, refl, omega (arith, last_most n m next r s))
onward_most {n} {m} {next} (goes {after = after} {r = r} s e o) =
    let (k, c, w) = onward_most o in
    (suc k, ap suc c, omega (arith, full_most n m next after r s e, suc-mul k (8 * blocks_in m)))

-- a packet has 20 bytes at the least
onward_room : {n m next : ℕ} {l : List BlockRequest} → Onward n m next l → 20 ≤ m
onward_room (ends s e) = omega (arith, s.short)
onward_room (goes s e o) = omega (arith, s.short)

module _ (n m : ℕ) (l : List BlockRequest) (o : Onward n m 0 l) where
  pub onward_fewest : piece_count n m ≤ length l
  onward_fewest = let (k, c, w) = onward_most o in omega (arith, count_least n m k (omega arith))

  pub onward_can : can_plan n m ≡ true
  onward_can = go (dec_le 28 m)
    where
      some : leb 20 m ≡ true
      some = le-leb 20 m (onward_room o)

      go : Dec (28 ≤ m) → can_plan n m ≡ true
      go (yes h) = simp (some, le-leb 28 m h, or-true)
      go (no h) =
          let (k, c, w) = onward_most o in
          let z : 8 * blocks_in m ≡ 0 = omega arith in
          simp (some, le-leb n (m - 20) (omega (arith, ap (λ (x : ℕ). k * x) z)))
