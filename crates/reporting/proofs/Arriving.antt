-- How a segment arrives, by how far its number lies ahead of the one that is expected; it is counted as expected, early or late, or not.
use Rattle.std.proofs.Common.{◌≡◌, ℕ, zero, suc, ◌-◌, ◌≤◌, cond, ltb, pos, negsuc, sym, refl, ap, ◌∙◌, arith, eq-eqb, ne_eqb}
use Rattle.pkt.proofs.Choice.{pick_yes, pick_no}
use Rattle.reporting.specs.Sides.{cycle, half_cycle, ahead, arrival_by, arrival_of, as_expected, as_early, as_late}
use Rattle.reporting.specs.declared.Tally.{Tally}
use Rattle.reporting.specs.declared.Segment.{Segment}
use Rattle.reporting.specs.declared.Arrival.{Arrival}
use Rattle.reporting.specs.declared.Arrival.TheVariants.{Expected, Early, Late}

-- by the distance, where a side has a segment already
abbrev by_gap : ℕ → Arrival
by_gap n = arrival_by (cond (ltb n half_cycle) (pos n) (negsuc (cycle - 1 - n)))

gap_none : (n : ℕ) → n ≡ 0 → Expected ≡ by_gap n
gap_none zero e = refl
gap_none (suc n) e = absurd (omega arith)

behind_first : (t : Tally) (s : Segment) (a : Arrival) → (t.segments ≡ 0 → ⊥) → a ≡ by_gap (ahead t.next s.seq) → a ≡ arrival_of t s
behind_first t s a h e = e ∙ sym (pick_no Expected (by_gap (ahead t.next s.seq)) (ne_eqb _ _ h))

-- the first segment
pub arrives_first : (t : Tally) (s : Segment) → t.segments ≡ 0 → Expected ≡ arrival_of t s
arrives_first t s h = sym (pick_yes Expected (by_gap (ahead t.next s.seq)) (eq-eqb _ _ h))

-- another: distance zero
pub arrives_expected : (t : Tally) (s : Segment) (n : ℕ) → (t.segments ≡ 0 → ⊥) → n ≡ ahead t.next s.seq → n ≡ 0 → Expected ≡ arrival_of t s
arrives_expected t s n h e z = behind_first t s Expected h (gap_none n z ∙ ap by_gap e)

-- ---- one is counted, or none

pub expected_most : (a : Arrival) → as_expected a ≤ 1
expected_most Expected = omega arith
expected_most Early = omega arith
expected_most Late = omega arith

pub early_most : (a : Arrival) → as_early a ≤ 1
early_most Expected = omega arith
early_most Early = omega arith
early_most Late = omega arith

pub late_most : (a : Arrival) → as_late a ≤ 1
late_most Expected = omega arith
late_most Early = omega arith
late_most Late = omega arith
