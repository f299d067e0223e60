-- The report: document 02, T-10, "For a lent byte slice and the end of each packet in it, report for each side of one TCP flow in exact numbers".
use Rattle.std.specs.Prelude.{◌≡◌, ℕ, suc, ◌+◌, ◌≤◌, cond, ◌||◌, List, [], ◌∷◌, length, nat_lt, Result}
use Rattle.std.proofs.Math.Seq.{slice}
use Rattle.pkt.specs.Answers.{ListAnswer, refused_whole, refused_at, gives_all, list_says, most_bytes}
use Rattle.pkt.specs.declared.refusal.ListRefusal.{ListRefusal}
use Rattle.ezpkt.specs.declared.SocketAddrV4.{SocketAddrV4}
use Rattle.tcp4.specs.declared.Side.TheVariants.{Client, Server}
use Rattle.reporting.specs.Sides.{no_segments, side_after, Few}
use Rattle.reporting.specs.Packets.{class_of}
use Rattle.reporting.specs.declared.Class.{Class}
use Rattle.reporting.specs.declared.Class.TheVariants.{Failed, Other, Own}
use Rattle.reporting.specs.declared.Report.{Report}

-- bytes cut at the ends es: the first packet begins at place `at`, each other where the one before it ends
unfoldable pub cut_at : ℕ → List ℕ → List ℕ → List (List ℕ)
cut_at at [] l = []
cut_at at (e ∷ es) l = slice at e l ∷ cut_at e es l

-- "the first index whose end lies below the one before or past the bytes", of which there are n; where there is none, how many ends there are. A
-- packet of no bytes is one: its end is the one before.
unfoldable pub first_wrong : ℕ → ℕ → List ℕ → ℕ
first_wrong at n [] = 0
first_wrong at n (e ∷ es) = cond (nat_lt e at || nat_lt n e) 0 (suc (first_wrong e n es))

-- "At most 1,000,000 packets."
abbrev pub most_packets : ℕ
most_packets = 1000000

-- a list that is not refused
pub record InOrder (l es : List ℕ) : Type 0 where
  pub few : length es ≤ most_packets
  pub right : first_wrong 0 (length l) es ≡ length es

-- ---- the report of packets

abbrev pub nothing_yet : Report
nothing_yet = record { cl = no_segments; sv = no_segments; failed = 0; others = 0 }

-- a report after a packet of this class, and after several packets
unfoldable pub report_after : Report → Class → Report
report_after r Failed = record { cl = r.cl; sv = r.sv; failed = r.failed + 1; others = r.others }
report_after r Other = record { cl = r.cl; sv = r.sv; failed = r.failed; others = r.others + 1 }
report_after r (Own Client s) = record { cl = side_after r.cl s; sv = r.sv; failed = r.failed; others = r.others }
report_after r (Own Server s) = record { cl = r.cl; sv = side_after r.sv s; failed = r.failed; others = r.others }

unfoldable pub report_from : SocketAddrV4 → SocketAddrV4 → Report → List (List ℕ) → Report
report_from cl sv r [] = r
report_from cl sv r (p ∷ ps) = report_from cl sv (report_after r (class_of cl sv p)) ps

-- What is asked of a report and the next packet's class: no counter is full.
unfoldable pub HasRoom : Report → Class → Type 0
HasRoom r Failed = r.failed ≤ most_packets
HasRoom r Other = r.others ≤ most_packets
HasRoom r (Own Client s) = (s.size ≤ most_bytes) × Few most_packets r.cl
HasRoom r (Own Server s) = (s.size ≤ most_bytes) × Few most_packets r.sv

-- the report of the flow between cl and sv, over packets in their order
abbrev pub report_of : SocketAddrV4 → SocketAddrV4 → List (List ℕ) → Report
report_of cl sv ps = report_from cl sv nothing_yet ps

-- ---- the call

-- "Refusals: 26 for a longer list, then 25 with the first index whose end lies below the one before or past the bytes."
abbrev pub report_answer : List ℕ → List ℕ → SocketAddrV4 → SocketAddrV4 → ListAnswer Report
report_answer l es cl sv =
    cond (nat_lt most_packets (length es)) (refused_whole 26)
    (cond (nat_lt (first_wrong 0 (length l) es) (length es)) (refused_at 25 (first_wrong 0 (length l) es))
    (gives_all (report_of cl sv (cut_at 0 es l))))

-- the call's whole promise: it writes nothing
abbrev pub Reports : List ℕ → List ℕ → SocketAddrV4 → SocketAddrV4 → Result Report ListRefusal → Type 0
Reports l es cl sv r = list_says r ≡ report_answer l es cl sv
