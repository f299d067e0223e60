-- The numbers of a cutting, as the code computes them.
use mathlib.Core.Path.{◌≡◌, sym, ap, ◌∙◌}
use Prim.Native.Nat.{ℕ, ◌+◌, ◌-◌, ◌*◌, ◌/◌, ◌≤◌, ◌<◌}
use native.Mathlib.Nat.{suc-mul, div-eq_of_lt-le}
use native.Mathlib.Numerals.{add-one}
use Rattle.std.specs.Int.{div_ceil}
use Rattle.std.proofs.lemmas.Grind.{div_ceil_times}
use native.Mathlib.Omega.{arith}
use Rattle.planner.proofs.Counting.{count_small}
use Rattle.planner.specs.Cutting.{link_room, blocks_in, piece_count}

-- a link with no room for a block
pub count_bare : (n m room : ℕ) → room ≡ m - 20 → room / 8 * 8 ≡ 0 → 1 ≡ piece_count n m
count_bare n m room r bare = count_small n m (omega arith)

-- a quotient rounded up
ceil_is : (x f : ℕ) → 0 < f → (x + (f - 1)) / f ≡ div_ceil x f
ceil_is x f some = go (div_ceil x f) (div_ceil_times x f some).0 (div_ceil_times x f some).1
  where
    go : (q : ℕ) → x ≤ q * f → q * f < x + f → (x + (f - 1)) / f ≡ q
    go q l u =
        let e : (q + 1) * f ≡ q * f + f = rw add-one (suc-mul q f) in
        div-eq_of_lt-le {k = q} f {m = x + (f - 1)} (omega arith) (omega (arith, e))

pub count_is : (n m room above full q : ℕ) → room ≡ m - 20 → above ≡ n - room → full ≡ room / 8 * 8 → 0 < full → q ≡ div_ceil above full
    → 1 + q ≡ piece_count n m
unfolding piece_count
count_is n m room above full q r a f some d =
    let h : full ≡ 8 * blocks_in m = omega arith in
    let g : above ≡ n - link_room m = omega arith in
    ap (λ (k : ℕ). 1 + k) (d ∙ sym (ceil_is above full some))
    ∙ ap (λ (k : ℕ). 1 + (above + (k - 1)) / k) h
    ∙ ap (λ (k : ℕ). 1 + (k + (8 * blocks_in m - 1)) / (8 * blocks_in m)) g
