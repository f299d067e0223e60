-- What a flow sends arrives as expected: the number that a side's report awaits is always the one that the flow sends next.
use mathlib.Core.Path.{◌≡◌, refl, sym, ap, subst, ◌∙◌}
use mathlib.Core.Bool.{Bool, true, false}
use mathlib.Core.List.{List, [], ◌∷◌, ◌++◌, append-nil}
use Prim.Native.Nat.{ℕ, ◌+◌, ◌-◌, ◌%◌, ◌≤◌, ◌<◌}
use native.Mathlib.Omega.{arith}
use lib.ListN.{length}
use lib.Seq.{slice}
use lib.Dec.{eqb}
use lib.IntN.{pos}
use borrow.Author.Tests.{eqb-true, eqb-false}
use Rattle.pkt.specs.Rfc9293.{FIN, SYN}
use Rattle.pkt.specs.declared.ipv4.tcp_hdr.{tcp_hdr}
use Rattle.ezpkt.specs.Build.{tcp_hdr_of}
use Rattle.ezpkt.specs.declared.SocketAddrV4.{SocketAddrV4}
use Rattle.tcp4.specs.Tcp4.{Emit, emit, set_in, consumed, segment_of, after_one}
use Rattle.tcp4.specs.Sequence.{mine}
use Rattle.tcp4.specs.declared.TcpFlow.{TcpFlow}
use Rattle.tcp4.specs.declared.Side.{Side}
use Rattle.tcp4.specs.declared.Side.TheVariants.{Client, Server}
use Rattle.inspect.specs.Check.{check_answer}
use Rattle.reporting.specs.Sides.{cycle, ahead, arrival_by, arrival_of, tallied, side_after}
use Rattle.reporting.specs.Packets.{segment_in, class_of}
use Rattle.reporting.specs.Report.{report_after}
use Rattle.reporting.specs.declared.Tally.{Tally}
use Rattle.reporting.specs.declared.Report.{Report}
use Rattle.reporting.proofs.Arriving.{arrives_first, arrives_expected}
use Rattle.demands.specs.Outputs.{Stands, request_of}
use Rattle.demands.specs.Reporting.{TwoEnds, Passable, side_total, AllExpected, AsSent}
use Rattle.demands.proofs.Reported.{counted, own_counted}

-- ---- one side

-- Where a side has segments already, it awaits the number n.
abbrev pub Awaits : ℕ → Tally → Type 0
Awaits n t = (t.segments ≡ 0 → ⊥) → t.next ≡ n

-- A segment with that number is expected: its distance is 0, or it is the first.
arrives : (t : Tally) (h : tcp_hdr) (n : ℕ) → h.seq < cycle → Awaits h.seq t → tallied t (segment_in h n) (arrival_by (pos 0)) ≡ side_after t (segment_in h n)
arrives t h n few w = ap (tallied t (segment_in h n)) (go (eqb t.segments 0) refl)
  where
    go : (x : Bool) → eqb t.segments 0 ≡ x → arrival_by (pos 0) ≡ arrival_of t (segment_in h n)
    go true e = arrives_first t (segment_in h n) (eqb-true t.segments 0 e)
    go false e =
        let some = eqb-false t.segments 0 e in
        let same : t.next ≡ h.seq = w some in
        let zero : 0 ≡ ahead t.next h.seq = omega arith in
        arrives_expected t (segment_in h n) 0 some zero refl

-- a side's total with one packet more
total_more : (w : Side) (k : Emit → ℕ) (es : List Emit) (e : Emit) → side_total w k (es ++ (e ∷ [])) ≡ side_total w k es + mine w e.side (k e)
total_more w k [] e = omega arith
total_more w k (x ∷ es) e = omega (arith, total_more w k es e)

module _ (w : Side) (es : List Emit) (e : Emit) (t : Tally) (all : AllExpected w es t) where
  -- that is the side's own,
  own_more : (h : tcp_hdr) (n : ℕ) → ((k : ℕ) → mine w e.side k ≡ k) → h.seq < cycle → Awaits h.seq t → n - 20 ≡ length e.body → h.flags ≡ e.flags
      → AllExpected w (es ++ (e ∷ [])) (side_after t (segment_in h n))
  unfolding tallied
  own_more h n is few awaits size flags =
      subst (AllExpected w (es ++ (e ∷ []))) (arrives t h n few awaits)
      (record {
        segments = more (λ x. 1) t.segments 1 all.segments refl;
        bytes = more (λ x. length x.body) t.bytes (n - 20) all.bytes size;
        syns = more (λ x. set_in x.flags SYN) t.syns (set_in h.flags SYN) all.syns (ap (λ (k : ℕ). set_in k SYN) flags);
        fins = more (λ x. set_in x.flags FIN) t.fins (set_in h.flags FIN) all.fins (ap (λ (k : ℕ). set_in k FIN) flags);
        expected = ap (λ (k : ℕ). k + 1) all.expected;
        early = ap (λ (k : ℕ). k + 0) all.early;
        late = ap (λ (k : ℕ). k + 0) all.late;
      })
    where
      more : (k : Emit → ℕ) (x y : ℕ) → x ≡ side_total w k es → y ≡ k e → x + y ≡ side_total w k (es ++ (e ∷ []))
      more k x y p q = omega (arith, total_more w k es e, is (k e), p, q)

  -- and that is the other side's.
  other_more : ((k : ℕ) → mine w e.side k ≡ 0) → AllExpected w (es ++ (e ∷ [])) t
  other_more is =
      record {
        segments = same (λ x. 1) t.segments all.segments;
        bytes = same (λ x. length x.body) t.bytes all.bytes;
        syns = same (λ x. set_in x.flags SYN) t.syns all.syns;
        fins = same (λ x. set_in x.flags FIN) t.fins all.fins;
        expected = all.expected;
        early = all.early;
        late = all.late;
      }
    where
      same : (k : Emit → ℕ) (n : ℕ) → n ≡ side_total w k es → n ≡ side_total w k (es ++ (e ∷ []))
      same k n p = omega (arith, total_more w k es e, is (k e), p)

-- ---- one packet

-- The report r of what was sent up to the flow f, between the ends cl and sv.
pub record Along (cl sv : SocketAddrV4) (f : TcpFlow) (es : List Emit) (r : Report) : Type 0 where
  pub two : TwoEnds f
  pub from : f.cl ≡ cl
  pub to : f.sv ≡ sv
  pub sent : AsSent es r
  pub client : Awaits f.cl_seq r.cl
  pub server : Awaits f.sv_seq r.sv

-- What a side awaits behind a segment of n bytes and its header.
awaits_next : (t : Tally) (h : tcp_hdr) (n : ℕ) → h.seq < cycle → Awaits h.seq t
    → Awaits ((h.seq + consumed h.flags n) % 4294967296) (side_after t (segment_in h (20 + n)))
unfolding tallied
awaits_next t h n few w some =
    let size : 20 + n - 20 ≡ n = omega arith in
    ap (λ (x : Tally). x.next) (sym (arrives t h (20 + n) few w)) ∙ ap (λ (k : ℕ). (h.seq + consumed h.flags k) % cycle) size

one_more : (cl sv : SocketAddrV4) (f : TcpFlow) (es : List Emit) (r : Report) (w : Side) (flags frag : ℕ) (b : List ℕ) → Along cl sv f es r
    → Along cl sv (after_one f (emit w flags frag b)) (es ++ (emit w flags frag b ∷ [])) (counted r w (tcp_hdr_of (segment_of f w flags frag)) (20 + length b))
one_more cl sv f es r Client flags frag b a =
    let e : Emit = emit Client flags frag b in
    let h : tcp_hdr = tcp_hdr_of (segment_of f Client flags frag) in
    let t : TwoEnds f = a.two in
    record {
      two =
          record {
            addresses = t.addresses;
            marked = t.marked;
            cl_port = t.cl_port;
            sv_port = t.sv_port;
            cl_seq = omega arith;
            sv_seq = t.sv_seq;
            two = t.two;
          };
      from = a.from;
      to = a.to;
      sent =
          record {
            client = own_more Client es e r.cl a.sent.client h (20 + length b) (λ k. refl) t.cl_seq a.client (omega arith) refl;
            server = other_more Server es e r.sv a.sent.server (λ k. refl);
            none_failed = a.sent.none_failed;
            no_others = a.sent.no_others;
          };
      client = awaits_next r.cl h (length b) t.cl_seq a.client;
      server = a.server;
    }
one_more cl sv f es r Server flags frag b a =
    let e : Emit = emit Server flags frag b in
    let h : tcp_hdr = tcp_hdr_of (segment_of f Server flags frag) in
    let t : TwoEnds f = a.two in
    record {
      two =
          record {
            addresses = t.addresses;
            marked = t.marked;
            cl_port = t.cl_port;
            sv_port = t.sv_port;
            cl_seq = t.cl_seq;
            sv_seq = omega arith;
            two = t.two;
          };
      from = a.from;
      to = a.to;
      sent =
          record {
            client = other_more Client es e r.cl a.sent.client (λ k. refl);
            server = own_more Server es e r.sv a.sent.server h (20 + length b) (λ k. refl) t.sv_seq a.server (omega arith) refl;
            none_failed = a.sent.none_failed;
            no_others = a.sent.no_others;
          };
      client = a.client;
      server = awaits_next r.sv h (length b) t.sv_seq a.server;
    }

-- the packet that stands in an output from place i to place j
pub stands_more : (cl sv : SocketAddrV4) (f : TcpFlow) (es : List Emit) (r : Report) (e : Emit) (b : List ℕ) (i j : ℕ) → Along cl sv f es r → Passable e
    → length e.body ≤ 65495 → Stands (request_of f e) e.body b i j → Along cl sv (after_one f e) (es ++ (e ∷ [])) (report_after r (class_of cl sv (slice i j b)))
stands_more cl sv f es r e b i j a ok few s =
    let p : List ℕ = slice i j b in
    let checked = ap check_answer (sym s.packet ∙ sym (append-nil p)) ∙ s.checked [] in
    subst (Along cl sv (after_one f e) (es ++ (e ∷ [])))
    (own_counted r f e.side e.flags e.frag e.body a.two ok few checked
    ∙ (λ k. report_after r (class_of (a.from k) (a.to k) (sym s.packet k))))
    (one_more cl sv f es r e.side e.flags e.frag e.body a)
