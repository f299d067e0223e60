-- A packet that a flow sends counts for the side that sends it: the check passes it, and both of its headers are read back.
use mathlib.Core.Path.{◌≡◌, refl, sym, ap, ap₂, ◌∙◌}
use mathlib.Core.Bool.{Bool, true, false, ◌&&◌, cond}
use mathlib.Core.List.{List, [], ◌++◌, append-nil}
use Prim.Native.Nat.{ℕ, ◌+◌, ◌≤◌, ◌<◌}
use native.Mathlib.Omega.{arith}
use lib.ListN.{length}
use lib.Dec.{eqb}
use borrow.Author.Tests.{eq-eqb}
use Rattle.pkt.specs.Rfc1071.{checksum}
use Rattle.pkt.specs.Rfc791.{ip_bytes, ip_header}
use Rattle.pkt.specs.Rfc9293.{tcp_checksum, ACK}
use Rattle.pkt.specs.declared.ipv4.ip_hdr.{ip_hdr}
use Rattle.pkt.specs.declared.ipv4.tcp_hdr.{tcp_hdr}
use Rattle.pkt.proofs.Choice.{pick_no, same_test}
use Rattle.ezpkt.specs.Build.{tcp_hdr_of, tcp_packet}
use Rattle.ezpkt.specs.declared.SocketAddrV4.{SocketAddrV4}
use Rattle.ezpkt.specs.declared.build.TcpSegment.{TcpSegment}
use Rattle.ezpkt.specs.declared.build.Request.TheVariants.{Tcp}
use Rattle.tcp4.specs.Tcp4.{emit, set_in, ack_of, segment_of}
use Rattle.tcp4.specs.declared.TcpFlow.{TcpFlow}
use Rattle.tcp4.specs.declared.Side.{Side}
use Rattle.tcp4.specs.declared.Side.TheVariants.{Client, Server}
use Rattle.inspect.specs.Header.{data_of}
use Rattle.inspect.specs.Check.{check_answer}
use Rattle.inspect.specs.Tcp.{tcp_read_answer}
use Rattle.inspect.specs.Encoded.{read_of, TcpFit}
use Rattle.inspect.proofs.Decoding.{data_is, framed_is}
use Rattle.inspect.proofs.Standing.{tcp_back}
use Rattle.mending.proofs.Encoded.{tcp_size}
use Rattle.reporting.specs.Sides.{side_after}
use Rattle.reporting.specs.Packets.{is_passed, same_end, addressed, goes, sided, segment_in, class_of}
use Rattle.reporting.specs.Report.{report_after}
use Rattle.reporting.specs.declared.Report.{Report}
use Rattle.reporting.proofs.Sorting.{of_client, of_server, passed_own}
use Rattle.demands.specs.Ranges.{InRange}
use Rattle.demands.specs.Checked.{reserved_field, piece_field, check_of}
use Rattle.demands.specs.Reporting.{TwoEnds, Passable}
use Rattle.demands.specs.Options.{Parts}
use Rattle.demands.proofs.Parts.{tcp_parts}

-- ---- a segment between any two ends

-- A packet with no reserved bit that is no piece counts by its ends.
packet_class : (cl sv : SocketAddrV4) (t : TcpSegment) (b : List ℕ) → InRange (Tcp t) → TcpFit (tcp_hdr_of t) → reserved_field t.frag_off ≡ false
    → piece_field t.frag_off ≡ false → length b ≤ 65495 → check_answer (tcp_packet t b) ≡ check_of (Tcp t) b
    → sided cl sv (addressed t.saddr t.sport) (addressed t.daddr t.dport) (segment_in (tcp_hdr_of t) (20 + length b)) ≡ class_of cl sv (tcp_packet t b)
unfolding tcp_packet ip_header read_of
packet_class cl sv t b range fit clear whole few checked =
    let x : Parts = tcp_parts t b range few in
    let h : ip_hdr = x.header in
    let d : List ℕ = x.part in
    let p : List ℕ = ip_header h ++ d in
    let c : ℕ = tcp_checksum t.saddr t.daddr (tcp_hdr_of t) b in
    let part : data_of (read_of h) p ≡ d = simp append-nil at (data_is h (checksum (ip_bytes h 0)) d [] x.total) in
    passed_own cl sv p (read_of h) (tcp_hdr_of t) _
    (ap is_passed (checked ∙ pick_no _ _ clear ∙ pick_no _ _ whole))
    (framed_is h (checksum (ip_bytes h 0)) d x.fits (omega (arith, x.total)) (omega (arith, x.total)))
    refl
    (ap tcp_read_answer part ∙ tcp_back (tcp_hdr_of t) c b fit)
    (ap (λ (k : ℕ). sided cl sv (addressed t.saddr t.sport) (addressed t.daddr t.dport) (segment_in (tcp_hdr_of t) k)) (sym (tcp_size b c (tcp_hdr_of t)) ∙ ap length (sym part)))

-- ---- the two sides of a flow

same_end_lem : (a : SocketAddrV4) → same_end a a ≡ true
same_end_lem a = ap₂ ◌&&◌ (eq-eqb a.ip a.ip refl) (eq-eqb a.port a.port refl)

turned : (a b : SocketAddrV4) → same_end a b ≡ same_end b a
turned a b = ap₂ ◌&&◌ (same_test a.ip b.ip b.ip a.ip sym sym) (same_test a.port b.port b.port a.port sym sym)

there : (a b : SocketAddrV4) → goes a b a b ≡ true
there a b = ap₂ ◌&&◌ (same_end_lem a) (same_end_lem b)

-- Where the ends are two, what the second sends does not come from the first.
not_back : (a b : SocketAddrV4) → same_end a b ≡ false → goes b a a b ≡ false
not_back a b two = ap (λ (x : Bool). x && same_end a b) (turned b a ∙ two)

-- An acknowledged number fits its type.
ack_fits : (flags n : ℕ) → n < 4294967296 → ack_of flags n < 4294967296
ack_fits flags n h = go (eqb (set_in flags ACK) 1)
  where
    go : (x : Bool) → cond x n 0 < 4294967296
    go true = h
    go false = omega arith

-- a report with a segment more of a side: its TCP header, and how many bytes it has with that
abbrev pub counted : Report → Side → tcp_hdr → ℕ → Report
counted r Client h n = record { cl = side_after r.cl (segment_in h n); sv = r.sv; failed = r.failed; others = r.others }
counted r Server h n = record { cl = r.cl; sv = side_after r.sv (segment_in h n); failed = r.failed; others = r.others }

pub own_counted : (r : Report) (f : TcpFlow) (w : Side) (flags frag : ℕ) (b : List ℕ) → TwoEnds f → Passable (emit w flags frag b) → length b ≤ 65495
    → check_answer (tcp_packet (segment_of f w flags frag) b) ≡ check_of (Tcp (segment_of f w flags frag)) b
    → counted r w (tcp_hdr_of (segment_of f w flags frag)) (20 + length b) ≡ report_after r (class_of f.cl f.sv (tcp_packet (segment_of f w flags frag) b))
unfolding report_after
own_counted r f Client flags frag b two ok few checked =
    let t : TcpSegment = segment_of f Client flags frag in
    let fit : TcpFit (tcp_hdr_of t) = record { sport = two.cl_port; dport = two.sv_port; seq = two.cl_seq; ack = ack_fits flags _ two.sv_seq; flags = ok.flags } in
    ap (report_after r)
    (of_client f.cl f.sv f.cl f.sv (segment_in (tcp_hdr_of t) (20 + length b)) _ refl (there f.cl f.sv)
    ∙ packet_class f.cl f.sv t b (ok.frag, two.addresses, two.marked) fit ok.clear ok.whole few checked)
own_counted r f Server flags frag b two ok few checked =
    let t : TcpSegment = segment_of f Server flags frag in
    let fit : TcpFit (tcp_hdr_of t) = record { sport = two.sv_port; dport = two.cl_port; seq = two.sv_seq; ack = ack_fits flags _ two.cl_seq; flags = ok.flags } in
    ap (report_after r)
    (of_server f.cl f.sv f.sv f.cl (segment_in (tcp_hdr_of t) (20 + length b)) _ _ refl (not_back f.cl f.sv two.two) refl (there f.sv f.cl)
    ∙ packet_class f.cl f.sv t b (ok.frag, (two.addresses.1, two.addresses.0), two.marked) fit ok.clear ok.whole few checked)
