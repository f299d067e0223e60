-- Bytes stored in a buffer: a fill, a copy, and what stands at each place after them.
use mathlib.Core.Path.{◌≡◌, refl, sym, ◌∙◌}
use mathlib.Core.List.{List, [], ◌∷◌, append-nil, append_assoc}
use Prim.Native.Nat.{ℕ, suc, ◌+◌, ◌-◌, ◌≤◌, ◌<◌}
use native.Mathlib.Decide.{ℕ_discrete}
use native.Mathlib.Omega.{arith}
use lib.ListN.{length, get_or, set, take, drop, replicate, length-set, length-drop, length-replicate}
use lib.Seq.{sets, sets-eq, length-take-le, get_or-set_same, get_or-set_other, drop-drop}
use borrow.Rule.Slice.PartMut.{mid_of, put_mid}
use Rattle.pkt.proofs.Parts.{mid_tail, mid_length, post_tail}
use Rattle.pkt.proofs.Written.{copy_written}
use Rattle.pkt.specs.Written.{written}

-- ---- bytes stored one after the other
pub get_d_sets_out : (l : List ℕ) (i : ℕ) (vs : List ℕ) (j : ℕ) → (i ≤ j → i + length vs ≤ j) → get_or (sets l i vs) j 0 ≡ get_or l j 0
get_d_sets_out l i [] j out = refl
get_d_sets_out l i (v ∷ vs) j out =
    get_d_sets_out (set l i v) (suc i) vs j (λ h. omega (arith, out (omega arith)))
    ∙ get_or-set_other l i j v 0 (λ e. omega (arith, out (omega arith)))

pub get_d_sets_in : (l : List ℕ) (i : ℕ) (vs : List ℕ) (j : ℕ) → i + length vs ≤ length l → i ≤ j → j < i + length vs → get_or (sets l i vs) j 0 ≡ get_or vs (j - i) 0
get_d_sets_in l i [] j fits lo hi = absurd (omega arith)
get_d_sets_in l i (v ∷ vs) j fits lo hi =
    go (λ h. get_d_sets_in (set l i v) (suc i) vs j (rw length-set (omega arith)) h (omega arith)) (ℕ_discrete j i)
  where
    go : (suc i ≤ j → get_or (sets (set l i v) (suc i) vs) j 0 ≡ get_or vs (j - suc i) 0) → Dec (j ≡ i)
        → get_or (sets (set l i v) (suc i) vs) j 0 ≡ get_or (v ∷ vs) (j - i) 0
    go below (yes q) =
        let z : i - i ≡ 0 = omega arith in
        rw (q, z) (get_d_sets_out (set l i v) (suc i) vs i (λ h. absurd (omega arith)) ∙ get_or-set_same l i v 0 (omega arith))
    go below (no ne) = let z : j - i ≡ suc (j - suc i) = omega arith in rw z (below (omega arith))

-- ---- a fill of the part from `at` up to, not including, `to`
pub filled : (l e : List ℕ) (at to v : ℕ) → at ≤ to → to ≤ length l
    → e ≡ replicate (length (mid_of at (to - at) l)) v
    → put_mid at (to - at) l e ≡ sets l at (replicate (to - at) v)
filled l e at to v h k q =
    let n : length (mid_of at (to - at) l) ≡ to - at = length-take-le (to - at) (drop at l) (omega (arith, length-drop at l)) in
    let m : length (replicate (to - at) v) ≡ to - at = length-replicate (to - at) v in
    rw (q, n, drop-drop)
    (sym (sets-eq (replicate (to - at) v) l at (omega arith) ∙ rw m (append_assoc (take at l) (replicate (to - at) v) (drop (at + (to - at)) l))))

-- ---- a copy onto `&mut d[at..]`
pub copied : (d xs e : List ℕ) (at : ℕ) → at + length xs ≤ length d
    → e ≡ written (take (length (mid_of at (length d - at) d)) xs) (mid_of at (length d - at) d)
    → put_mid at (length d - at) d e ≡ sets d at xs
unfolding written
copied d xs e at h q =
    rw (q, copy_written xs (mid_of at (length d - at) d) (omega (arith, mid_length at d)), mid_tail at d, post_tail at d, append-nil, drop-drop)
    (sym (sets-eq xs d at h ∙ append_assoc (take at d) xs (drop (at + length xs) d)))
