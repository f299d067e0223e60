-- One packet after the other: the report so far, over the packets that are left, is the whole.
use Rattle.std.proofs.Common.{◌≡◌, ℕ, suc, ◌+◌, ◌-◌, ◌<◌, ◌≤◌, List, length, get_or, take, drop, sym, ap, ◌∙◌, subst, arith}
use Rattle.pkt.specs.Fields.{Bytes}
use Rattle.ezpkt.specs.declared.SocketAddrV4.{SocketAddrV4}
use Rattle.inspect.proofs.Numbers.{take_bytes, drop_bytes}
use Rattle.reporting.specs.Packets.{class_of}
use Rattle.reporting.specs.Report.{cut_at, first_wrong, most_packets, report_after, report_from, report_of, HasRoom}
use Rattle.reporting.proofs.Cutting.{Right, right_ends, cut_here, cut_none}
use Rattle.reporting.proofs.Filling.{Sized, class_sized, Filled, filled_after, filled_room}
use Rattle.reporting.specs.declared.Class.{Class}
use Rattle.reporting.specs.declared.Report.{Report}

-- Behind i packets, of which the last ends at `at`: the ends that are left are right, and no number of the report is above i.
pub record Left (l es : List ℕ) (cl sv : SocketAddrV4) (r : Report) (at i : ℕ) : Type 0 where
  pub within : i ≤ length es
  pub few : length es ≤ most_packets
  pub right : first_wrong at (length l) (drop i es) ≡ length es - i
  pub filled : Filled i r
  pub whole : report_from cl sv r (cut_at at (drop i es) l) ≡ report_of cl sv (cut_at 0 es l)

pub next_right : (l es : List ℕ) (cl sv : SocketAddrV4) (r : Report) (at i : ℕ) → Left l es cl sv r at i → i < length es → Right at (length l) i es
next_right l es cl sv r at i f h = right_ends at (length l) i es h f.right

-- the class of the next packet
next_sized : (l : List ℕ) (a b : SocketAddrV4) (k : Class) (at n : ℕ) → Bytes l → k ≡ class_of a b (take n (drop at l)) → Sized k
next_sized l a b k at n bl e = subst Sized (sym e) (class_sized a b (take n (drop at l)) (take_bytes n (drop at l) (drop_bytes at l bl)))

pub next_room : (l es : List ℕ) (cl sv a b : SocketAddrV4) (r : Report) (at i n : ℕ) (k : Class) → Left l es cl sv r at i → Bytes l → k ≡ class_of a b (take n (drop at l)) → HasRoom r k
next_room l es cl sv a b r at i n k f bl e = filled_room i r k f.filled (omega (arith, f.within, f.few)) (next_sized l a b k at n bl e)

pub turns : (l es : List ℕ) (cl sv : SocketAddrV4) (r : Report) (at i : ℕ) (k : Class) (q : Report) → Left l es cl sv r at i → i < length es → Bytes l
    → k ≡ class_of cl sv (take (get_or es i 0 - at) (drop at l)) → q ≡ report_after r k → Left l es cl sv q (get_or es i 0) (i + 1)
unfolding report_from
turns l es cl sv r at i k q f h b e g =
    let one : suc i ≡ i + 1 = omega arith in
    record {
      within = omega arith;
      few = f.few;
      right = (next_right l es cl sv r at i f h).rest;
      filled = subst (λ (j : ℕ). Filled j q) one (subst (Filled (suc i)) (sym g) (filled_after i r k f.filled (next_sized l cl sv k at (get_or es i 0 - at) b e)));
      whole =
          ap (λ (x : Report). report_from cl sv x (cut_at (get_or es i 0) (drop (i + 1) es) l)) (g ∙ ap (report_after r) e)
          ∙ sym (ap (report_from cl sv r) (cut_here at i es l h)) ∙ f.whole;
    }

pub ends : (l es : List ℕ) (cl sv : SocketAddrV4) (r : Report) (at i : ℕ) → Left l es cl sv r at i → length es ≤ i → r ≡ report_of cl sv (cut_at 0 es l)
unfolding report_from
ends l es cl sv r at i f h = sym (ap (report_from cl sv r) (cut_none at i es l h)) ∙ f.whole
