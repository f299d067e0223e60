-- What the numbers of a report add up to, and what the distance is.
use Rattle.std.specs.Prelude.{◌≡◌, ℕ, suc, ◌+◌, ◌%◌, ◌<◌, Bool, true, false, ◌||◌, List, ◌∷◌, length, ℤ, pos, negsuc, nat_lt, slice_index, Ok, Err}
use Rattle.pkt.specs.Fields.{Bytes}
use Rattle.pkt.specs.Refusal.{number_of}
use Rattle.pkt.specs.declared.refusal.Refusal.{Refusal}
use Rattle.pkt.specs.declared.refusal.ListRefusal.TheVariants.{At}
use Rattle.ezpkt.specs.declared.SocketAddrV4.{SocketAddrV4}
use Rattle.reporting.specs.Sides.{cycle, half_cycle, distance, Few}
use Rattle.reporting.specs.Report.{report_of, Reports}
use Rattle.reporting.specs.declared.Tally.{Tally}
use Rattle.reporting.specs.declared.Report.{Report}

-- An integer is the signed distance from one number to another: within its bounds, and the first with it added is the second.
pub data Apart (from to : ℕ) : ℤ → Type 0 where
  up : (n : ℕ) → n < half_cycle → (from + n) % cycle ≡ to → Apart from to (pos n)
  down : (n : ℕ) → n < half_cycle → (to + suc n) % cycle ≡ from → Apart from to (negsuc n)

-- expected, early and late together are a side's segments
abbrev pub AllArrive : Tally → Type 0
AllArrive t = t.expected + t.early + t.late ≡ t.segments

-- the end at index i lies below the one before it, the first's being 0, or past n bytes
abbrev pub is_wrong : ℕ → List ℕ → ℕ → Bool
is_wrong n es i = nat_lt (slice_index es i) (slice_index (0 ∷ es) i) || nat_lt n (slice_index es i)

pub record ReportTotals : Type 0 where
  -- "The signed distance": of two numbers of 32 bits it is one, and the only one.
  pub distance_is : (from to : ℕ) → from < cycle → to < cycle → Apart from to (distance from to)
  pub distance_only : (from to : ℕ) (d : ℤ) → from < cycle → to < cycle → Apart from to d → d ≡ distance from to
  -- "all classes together equal the packets given",
  pub classes : (cl sv : SocketAddrV4) (ps : List (List ℕ)) → (r : Report) → r ≡ report_of cl sv ps
      → r.cl.segments + r.sv.segments + r.failed + r.others ≡ length ps
  -- also as the call counts them.
  pub given : (l es : List ℕ) (cl sv : SocketAddrV4) (r : Report) → Reports l es cl sv (Ok r)
      → r.cl.segments + r.sv.segments + r.failed + r.others ≡ length es
  -- Each segment arrives in one way.
  pub arrivals : (cl sv : SocketAddrV4) (ps : List (List ℕ)) → AllArrive (report_of cl sv ps).cl × AllArrive (report_of cl sv ps).sv
  -- No number of a side is above that of the packets, and its bytes are not above 65,535 for each: with 1,000,000 packets none comes to 2 ^ 64.
  pub few : (l es : List ℕ) (cl sv : SocketAddrV4) (r : Report) → Bytes l → Reports l es cl sv (Ok r) → Few (length es) r.cl × Few (length es) r.sv
  -- "25 with the first index": the end there is wrong, and none before it is.
  pub first_index : (l es : List ℕ) (cl sv : SocketAddrV4) (e : Refusal) (i : ℕ) → Reports l es cl sv (Err (At e i))
      → (number_of e ≡ 25) × (i < length es) × (is_wrong (length l) es i ≡ true) × ((j : ℕ) → j < i → is_wrong (length l) es j ≡ false)
