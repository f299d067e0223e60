-- Numbers that are put into a packet within a longer list change that packet alone, since its fields stand within it.
use mathlib.Core.Path.{◌≡◌, refl, sym, ap, ◌∙◌}
use Prim.Native.Nat.{ℕ, suc, ◌+◌, ◌/◌, ◌%◌, ◌≤◌}
use native.Mathlib.Omega.{arith}
use mathlib.Core.List.{List, [], ◌∷◌, ◌++◌}
use lib.ListN.{length, get_or, take, set}
use lib.Seq.{get_or-set_other}
use Rattle.pkt.specs.Fields.{Bytes}
use Rattle.mending.specs.Sums.{renewed, put_fields}
use Rattle.mending.specs.Packets.{AllWithin}
use Rattle.mending.specs.Mend.{Listed, listed, put_sums}
use Rattle.mending.specs.Captures.{Covers}
use Rattle.mending.specs.declared.sums.SumField.{SumField}
use Rattle.mending.proofs.Renewed.{renewed_length, renewed_bytes, renewed_behind, renewed_front, take_before}

-- ---- one number

-- put into the packet p behind a
renewed_amid : (a p r : List ℕ) (start i x : ℕ) → length a ≡ start → i + 2 ≤ length p → renewed (start + i) x (a ++ (p ++ r)) ≡ a ++ (renewed i x p ++ r)
renewed_amid a p r start i x e h =
    ap (λ (n : ℕ). renewed (n + i) x (a ++ (p ++ r))) (sym e)
    ∙ renewed_behind a (p ++ r) i x
    ∙ ap (λ (m : List ℕ). a ++ m) (renewed_front p r i x h)

-- A place that it does not have holds what it held.
renewed_other : (s : Listed) (i : ℕ) (o : List ℕ) → (Covers s i → ⊥) → get_or (renewed s.at s.new o) i 0 ≡ get_or o i 0
unfolding renewed
renewed_other s i o h =
    get_or-set_other (set o s.at (s.new / 256 % 256)) (s.at + 1) i (s.new % 256) 0 (λ e. h (omega arith, omega arith))
    ∙ get_or-set_other o s.at i (s.new / 256 % 256) 0 (λ e. h (omega arith, omega arith))

-- ---- the fields of a packet

within_same : (fs : List SumField) (p q : List ℕ) → length q ≡ length p → AllWithin fs p → AllWithin fs q
unfolding AllWithin
within_same [] p q e w = tt
within_same (f ∷ fs) p q e (h, few, w) = (omega arith, few, within_same fs p q e w)

pub put_listed : (k which start : ℕ) (fs : List SumField) (a p r : List ℕ) → length a ≡ start → AllWithin fs p
    → put_sums (listed k which start fs) (a ++ (p ++ r)) ≡ a ++ (put_fields fs p ++ r)
unfolding put_sums put_fields AllWithin
put_listed k which start [] a p r e w = refl
put_listed k which start (f ∷ fs) a p r e (h, few, w) =
    let q : List ℕ = renewed f.at f.new p in
    ap (put_sums (listed k (suc which) start fs)) (renewed_amid a p r start f.at f.new e h)
    ∙ put_listed k (suc which) start fs a q r e (within_same fs p q (renewed_length f.at f.new p) w)

-- ---- the fields of a capture

pub put_append : (ss ts : List Listed) (o : List ℕ) → put_sums (ss ++ ts) o ≡ put_sums ts (put_sums ss o)
unfolding put_sums
put_append [] ts o = refl
put_append (s ∷ ss) ts o = put_append ss ts (renewed s.at s.new o)

pub put_length : (ss : List Listed) (o : List ℕ) → length (put_sums ss o) ≡ length o
unfolding put_sums
put_length [] o = refl
put_length (s ∷ ss) o = put_length ss (renewed s.at s.new o) ∙ renewed_length s.at s.new o

pub put_bytes : (ss : List Listed) (o : List ℕ) → Bytes o → Bytes (put_sums ss o)
unfolding put_sums
put_bytes [] o b = b
put_bytes (s ∷ ss) o b = put_bytes ss (renewed s.at s.new o) (renewed_bytes s.at s.new o b)

-- each of them stands at the place n or behind it
unfoldable pub AllFrom : ℕ → List Listed → Type 0
AllFrom n [] = Unit {0}
AllFrom n (s ∷ ss) = (n ≤ s.at) × AllFrom n ss

pub put_front : (n : ℕ) (ss : List Listed) (o : List ℕ) → AllFrom n ss → take n (put_sums ss o) ≡ take n o
unfolding put_sums AllFrom
put_front n [] o h = refl
put_front n (s ∷ ss) o (h, t) = put_front n ss (renewed s.at s.new o) t ∙ take_before n s.at s.new o h

-- none of them has the place i
unfoldable pub Missed : List Listed → ℕ → Type 0
Missed [] i = Unit {0}
Missed (s ∷ ss) i = (Covers s i → ⊥) × Missed ss i

pub put_missed : (ss : List Listed) (i : ℕ) (o : List ℕ) → Missed ss i → get_or (put_sums ss o) i 0 ≡ get_or o i 0
unfolding put_sums Missed
put_missed [] i o h = refl
put_missed (s ∷ ss) i o (h, t) = put_missed ss i (renewed s.at s.new o) t ∙ renewed_other s i o h
