-- What the planner writes leads on from place 0 to the end, in as many requests as it answers, each length in the fewest blocks.
use mathlib.Core.Path.{◌≡◌, refl, ap}
use mathlib.Core.Logic.{◌⊎◌, inl, inr}
use mathlib.Core.Bool.{true}
use mathlib.Core.List.Memᴰ
use mathlib.Core.List.{Memᴰ}
use Prim.Native.Nat.{ℕ, zero, suc, ◌+◌, ◌-◌, ◌*◌, ◌≤◌, ◌<◌}
use native.Mathlib.Nat.{suc-mul}
use native.Mathlib.Decide.{dec_le, dec_lt}
use native.Mathlib.Omega.{arith}
use lib.ListN.{length}
use lib.Dec.{leb}
use borrow.Author.Tests.{leb-true}
use Rattle.pkt.proofs.Choice.{and_both, or_cases}
use Rattle.pieces.specs.declared.BlockRequest.{BlockRequest}
use Rattle.planner.specs.Cutting.{link_room, blocks_in, blocks_of, piece_count, length_at, requests_from, planned}
use Rattle.planner.specs.Answers.{can_plan}
use Rattle.planner.proofs.Counting.{count_small, count_some, count_covers, count_fewest}
use Rattle.planner.proofs.Onward.{start_for, end_for, Leads, nothing, between, Onward, ends, goes}

-- as many as asked for
pub requests_many : (n b k off : ℕ) → length (requests_from n b k off) ≡ k
unfolding requests_from
requests_many n b zero off = refl
requests_many n b (suc k) off = ap suc (requests_many n b k (off + b))

-- the request at block off, with so many behind it
abbrev request_for : ℕ → ℕ → ℕ → ℕ → BlockRequest
request_for n b behind off = record { off = off; len = length_at b behind off n }

-- k full pieces of b blocks from block off on, and a last one, carry the rest of n bytes on a link of m; without one of the full ones they would not
record Cuts (n m b k off : ℕ) : Type 0 where
  header : 20 ≤ m
  full : 8 * b ≤ link_room m
  within : 8 * off ≤ n
  covers : n ≤ 8 * off + k * (8 * b) + link_room m
  needs : (j : ℕ) → k ≡ suc j → 8 * off + j * (8 * b) + link_room m < n

-- the first ends within the payload, and those behind it carry the rest in the same way
cuts_behind : (n m b k off : ℕ) → Cuts n m b (suc k) off → (8 * (off + b) < n) × Cuts n m b k (off + b)
cuts_behind n m b k off c =
    let left = c.needs k refl in
    let w : 8 * (off + b) < n = omega (arith, c.full) in (
      w,
      record {
        header = c.header;
        full = c.full;
        within = omega arith;
        covers = omega (arith, c.covers, suc-mul k (8 * b));
        needs = λ j e. omega (arith, left, ap (λ (x : ℕ). x * (8 * b)) e, suc-mul j (8 * b));
      },
    )

-- a request leads from its start to its end
leads_on : (n next after : ℕ) (r : BlockRequest) → start_for n r ≡ next → end_for n r ≡ after → next ≤ after → Leads n r next after
leads_on n next after r s e h = go (dec_lt (start_for n r) (end_for n r))
  where
    go : Dec (start_for n r < end_for n r) → Leads n r next after
    go (yes some) = between some s e
    go (no none) = nothing (omega arith) (omega arith)

requests_onward : (n m b k off : ℕ) → Cuts n m b k off → Onward n m (8 * off) (requests_from n b (suc k) off)
unfolding requests_from
requests_onward n m b zero off c =
    let r = request_for n b 0 off in
    let s : start_for n r ≡ 8 * off = omega (arith, c.within) in
    let e : end_for n r ≡ n = omega (arith, c.within) in
    ends {r = r} (record { within = c.within; short = omega (arith, c.header, c.covers); leads = leads_on n (8 * off) n r s e c.within }) e
requests_onward n m b (suc k) off c =
    let (more, behind) = cuts_behind n m b k off c in
    let r = request_for n b (suc k) off in
    let s : start_for n r ≡ 8 * off = omega (arith, c.within) in
    let e : end_for n r ≡ 8 * (off + b) = omega arith in
    goes {r = r}
    (record { within = c.within; short = omega (arith, c.header, c.full); leads = leads_on n (8 * off) (8 * (off + b)) r s e (omega arith) })
    (omega arith)
    (requests_onward n m b k (off + b) behind)

requests_lengths : (n m b k off : ℕ) → Cuts n m b k off → (r : BlockRequest) → Memᴰ r (requests_from n b (suc k) off)
    → r.len ≡ blocks_of (end_for n r - start_for n r)
unfolding requests_from
requests_lengths n m b zero off c r r-in =
    let e : blocks_of (n - 8 * off) ≡ blocks_of (end_for n (request_for n b 0 off) - start_for n (request_for n b 0 off)) = omega (arith, c.within) in
    rw (Memᴰ.eq_of_singleton r-in) e
requests_lengths n m b (suc k) off c r r-in =
    let (more, behind) = cuts_behind n m b k off c in
    go more (Memᴰ.cases_cons r-in) (requests_lengths n m b k (off + b) behind r)
  where
    go : 8 * (off + b) < n → (r ≡ request_for n b (suc k) off) ⊎ Memᴰ r (requests_from n b (suc k) (off + b))
        → (Memᴰ r (requests_from n b (suc k) (off + b)) → r.len ≡ blocks_of (end_for n r - start_for n r)) → r.len ≡ blocks_of (end_for n r - start_for n r)
    go more (inl e) later = rw e (omega arith)
    go more (inr r-in) later = later r-in

-- ---- all of n bytes

module _ (n m : ℕ) (can : can_plan n m ≡ true) where
  room_for : 20 ≤ m
  room_for = leb-true 20 m (and_both (leb 20 m) _ can).0

  counted : piece_count n m ≡ suc (piece_count n m - 1)
  counted = omega (arith, count_some n m)

  cuts : Cuts n m (blocks_in m) (piece_count n m - 1) 0
  cuts = go (dec_le 28 m) (or_cases (leb n (m - 20)) (leb 28 m) (and_both (leb 20 m) _ can).1)
    where
      go : Dec (28 ≤ m) → (leb n (m - 20) ≡ true) ⊎ (leb 28 m ≡ true) → Cuts n m (blocks_in m) (piece_count n m - 1) 0
      go (yes h) w =
          record {
            header = room_for;
            full = omega arith;
            within = omega arith;
            covers = omega (arith, count_covers n m h);
            needs =
                λ j e.
                let z : piece_count n m - 2 ≡ j = omega arith in
                omega (arith, ap (λ (x : ℕ). x * (8 * blocks_in m)) z, (count_fewest n m h).fewer_leave (omega arith));
          }
      go (no h) (inl few) =
          record {
            header = room_for;
            full = omega arith;
            within = omega arith;
            covers = omega (arith, leb-true n (m - 20) few);
            needs = λ j e. absurd (omega (arith, count_small n m (omega arith)));
          }
      go (no h) (inr h') = absurd (h (leb-true 28 m h'))

  pub planned_onward : Onward n m 0 (planned n m)
  planned_onward = rw counted (requests_onward n m (blocks_in m) (piece_count n m - 1) 0 cuts)

  pub planned_lengths : (r : BlockRequest) → Memᴰ r (planned n m) → r.len ≡ blocks_of (end_for n r - start_for n r)
  planned_lengths r r-in = requests_lengths n m (blocks_in m) (piece_count n m - 1) 0 cuts r (rw counted at r-in)
