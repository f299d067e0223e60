-- No number of a report is above that of the packets, so that there is room for the next.
use Rattle.std.proofs.Common.{◌≡◌, ℕ, suc, ◌≤◌, Bool, true, false, cond, eqb, List, length, refl, arith}
use Rattle.pkt.specs.Answers.{most_bytes}
use Rattle.pkt.specs.Fields.{Bytes}
use Rattle.ezpkt.specs.declared.SocketAddrV4.{SocketAddrV4}
use Rattle.tcp4.specs.declared.Side.TheVariants.{Client, Server}
use Rattle.inspect.specs.Header.{header_of, data_of}
use Rattle.inspect.specs.Tcp.{tcp_of}
use Rattle.inspect.specs.declared.header.IpRead.{IpRead}
use Rattle.reporting.specs.Sides.{arrival_of, tallied, side_after, Few}
use Rattle.reporting.specs.Packets.{passes, addressed, goes, segment_in, tcp_class, part_class, class_of}
use Rattle.reporting.specs.Report.{most_packets, nothing_yet, report_after, HasRoom}
use Rattle.reporting.proofs.Arriving.{expected_most, early_most, late_most}
use Rattle.reporting.proofs.Sorting.{part_few}
use Rattle.reporting.specs.declared.Tally.{Tally}
use Rattle.reporting.specs.declared.Segment.{Segment}
use Rattle.reporting.specs.declared.Class.{Class}
use Rattle.reporting.specs.declared.Class.TheVariants.{Failed, Other, Own}
use Rattle.reporting.specs.declared.Report.{Report}

-- ---- the numbers

-- a segment's payload is no more than a packet
abbrev pub Sized : Class → Type 0
Sized Failed = Unit {0}
Sized Other = Unit {0}
Sized (Own w s) = s.size ≤ most_bytes

pub class_sized : (cl sv : SocketAddrV4) (p : List ℕ) → Bytes p → Sized (class_of cl sv p)
unfolding class_of
class_sized cl sv p b = go (passes p) refl
  where
    h : IpRead
    h = header_of p

    of_two : (x y : Bool) (s : Segment) → s.size ≤ most_bytes → Sized (cond x (Own Client s) (cond y (Own Server s) Other))
    of_two true y s n = n
    of_two false true s n = n
    of_two false false s n = tt

    of_part : (x : Bool) → length (data_of h p) ≤ most_bytes → Sized (cond x (tcp_class cl sv h (tcp_of (data_of h p)) (length (data_of h p))) Other)
    of_part true n =
        let t = tcp_of (data_of h p) in
        let from = addressed h.saddr t.sport in
        let to = addressed h.daddr t.dport in
        of_two (goes from to cl sv) (goes from to sv cl) (segment_in t (length (data_of h p))) (omega arith)
    of_part false n = tt

    go : (x : Bool) → passes p ≡ x → Sized (cond x (part_class cl sv h (data_of h p)) Failed)
    go true e = of_part (eqb h.protocol 6) (part_few p b e)
    go false e = tt

-- A segment adds one to each number at most, and a packet's bytes.
few_after : (k : ℕ) (t : Tally) (s : Segment) → Few k t → s.size ≤ most_bytes → Few (suc k) (side_after t s)
unfolding tallied
few_after k t s f n =
    let a = arrival_of t s in
    record {
      segments = omega (arith, f.segments);
      bytes = omega (arith, f.bytes);
      syns = omega (arith, f.syns);
      fins = omega (arith, f.fins);
      expected = omega (arith, f.expected, expected_most a);
      early = omega (arith, f.early, early_most a);
      late = omega (arith, f.late, late_most a);
    }

few_more : (j k : ℕ) (t : Tally) → j ≤ k → Few j t → Few k t
few_more j k t h f =
    record {
      segments = omega (arith, f.segments);
      bytes = omega (arith, f.bytes);
      syns = omega (arith, f.syns);
      fins = omega (arith, f.fins);
      expected = omega (arith, f.expected);
      early = omega (arith, f.early);
      late = omega (arith, f.late);
    }

-- no number of a report is above k
pub record Filled (k : ℕ) (r : Report) : Type 0 where
  pub cl : Few k r.cl
  pub sv : Few k r.sv
  pub failed : r.failed ≤ k
  pub others : r.others ≤ k

pub filled_none : Filled 0 nothing_yet
filled_none = record { cl = none; sv = none; failed = omega arith; others = omega arith }
  where
    none : Few 0 nothing_yet.cl
    none = record { segments = omega arith; bytes = omega arith; syns = omega arith; fins = omega arith; expected = omega arith; early = omega arith; late = omega arith }

pub filled_after : (k : ℕ) (r : Report) (c : Class) → Filled k r → Sized c → Filled (suc k) (report_after r c)
unfolding report_after
filled_after k r Failed f z = record { cl = few_more k _ _ (omega arith) f.cl; sv = few_more k _ _ (omega arith) f.sv; failed = omega (arith, f.failed); others = omega (arith, f.others) }
filled_after k r Other f z = record { cl = few_more k _ _ (omega arith) f.cl; sv = few_more k _ _ (omega arith) f.sv; failed = omega (arith, f.failed); others = omega (arith, f.others) }
filled_after k r (Own Client s) f z = record { cl = few_after k _ s f.cl z; sv = few_more k _ _ (omega arith) f.sv; failed = omega (arith, f.failed); others = omega (arith, f.others) }
filled_after k r (Own Server s) f z = record { cl = few_more k _ _ (omega arith) f.cl; sv = few_after k _ s f.sv z; failed = omega (arith, f.failed); others = omega (arith, f.others) }

-- so there is room
pub filled_room : (k : ℕ) (r : Report) (c : Class) → Filled k r → k ≤ most_packets → Sized c → HasRoom r c
unfolding HasRoom
filled_room k r Failed f h z = omega (arith, f.failed)
filled_room k r Other f h z = omega (arith, f.others)
filled_room k r (Own Client s) f h z = (z, few_more k most_packets _ h f.cl)
filled_room k r (Own Server s) f h z = (z, few_more k most_packets _ h f.sv)
