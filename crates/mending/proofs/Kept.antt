-- What a packet keeps when the number of a checksum is put into it.
use mathlib.Core.Path.{◌≡◌, ap, ◌∙◌}
use mathlib.Core.Logic.{◌⊎◌, inl, inr}
use Prim.Native.Nat.{ℕ, ◌+◌, ◌-◌, ◌≤◌}
use native.Mathlib.Omega.{arith}
use mathlib.Core.List.{List}
use lib.ListN.{take, drop}
use Rattle.inspect.specs.Header.{field_at, header_of, not_ipv4, frame_answer, data_of}
use Rattle.inspect.specs.declared.header.IpRead.{IpRead}
use Rattle.mending.specs.Sums.{renewed}
use Rattle.mending.proofs.Renewed.{renewed_length, take_within, drop_behind, drop_within, field_before, field_behind, field_take, field_drop}

-- The place is the header's own, or behind the header: then what the header says is kept.
module _ (i x : ℕ) (l : List ℕ) (place : (i ≡ 10) ⊎ (20 ≤ i)) where
  least : 10 ≤ i
  least = go place
    where
      go : (i ≡ 10) ⊎ (20 ≤ i) → 10 ≤ i
      go (inl e) = omega arith
      go (inr h) = omega arith

  low : (at k : ℕ) → at + k ≤ 10 → field_at (renewed i x l) at k ≡ field_at l at k
  low at k h = field_before at k i x l (omega (arith, least))

  high : (at k : ℕ) → 12 ≤ at → at + k ≤ 20 → field_at (renewed i x l) at k ≡ field_at l at k
  high at k h t = go place
    where
      go : (i ≡ 10) ⊎ (20 ≤ i) → field_at (renewed i x l) at k ≡ field_at l at k
      go (inl e) = field_behind at k i x l (omega arith)
      go (inr e) = field_before at k i x l (omega arith)

  header_kept : header_of (renewed i x l) ≡ header_of l
  unfolding header_of
  header_kept =
      simp (
        low 0 1 (omega arith),
        low 1 1 (omega arith),
        low 2 2 (omega arith),
        low 4 2 (omega arith),
        low 6 2 (omega arith),
        low 8 1 (omega arith),
        low 9 1 (omega arith),
        high 12 4 (omega arith) (omega arith),
        high 16 4 (omega arith) (omega arith),
      )

  pub frame_kept : frame_answer (renewed i x l) ≡ frame_answer l
  unfolding frame_answer not_ipv4
  frame_kept = simp (renewed_length i x l, low 0 1 (omega arith), header_kept)

-- ---- the data part

module _ (h : IpRead) (i x : ℕ) (l : List ℕ) where
  -- A place in the header is none of its.
  pub data_kept : i + 2 ≤ h.start → data_of h (renewed i x l) ≡ data_of h l
  data_kept e = ap (take (h.end - h.start)) (drop_behind h.start i x l e)

  -- Behind the header it is the place in the part.
  pub data_renewed : i + 2 ≤ h.end - h.start → data_of h (renewed (h.start + i) x l) ≡ renewed i x (data_of h l)
  data_renewed e =
      ap (take (h.end - h.start)) (drop_within h.start i x l) ∙ take_within (h.end - h.start) i x (drop h.start l) e

pub data_field : (h : IpRead) (i k : ℕ) (l : List ℕ) → i + k ≤ h.end - h.start → field_at (data_of h l) i k ≡ field_at l (h.start + i) k
data_field h i k l e = field_take i k (h.end - h.start) (drop h.start l) e ∙ field_drop i k h.start l
