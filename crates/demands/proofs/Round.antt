-- Build, cut, assemble, check: the pieces assemble to the payload, and behind a header that names its protocol and addresses it is
-- checked good.
use Rattle.std.specs.Prelude.{Ok}
use mathlib.Core.Path.{◌≡◌, refl, sym, ap, subst, ◌∙◌}
use mathlib.Core.Bool.{Bool, false, not, ◌||◌}
use mathlib.Core.List.{List}
use Prim.Native.Nat.{ℕ, ◌+◌, ◌*◌, ◌≤◌, min}
use native.Mathlib.Omega.{arith}
use lib.ListN.{length, take, drop, length-drop}
use lib.Dec.{eqb}
use borrow.Author.Tests.{eq-eqb}
use Rattle.pkt.specs.Answers.{gives}
use Rattle.pkt.specs.Rfc792.{icmp_new, echo_new}
use Rattle.pkt.specs.Fields.{Bytes}
use Rattle.pkt.proofs.Choice.{pick_no}
use Rattle.ezpkt.specs.Build.{flow_ip, tcp_hdr_of, tcp_packet, udp_hdr_of, udp_packet, echo_type, echo_packet, piece_ip, packet_of, answer_of, Answered}
use Rattle.ezpkt.specs.Ip4.{datagram_of}
use Rattle.ezpkt.specs.declared.ip4.Template.{Template}
use Rattle.ezpkt.specs.declared.build.TcpSegment.{TcpSegment}
use Rattle.ezpkt.specs.declared.build.UdpDatagram.{UdpDatagram}
use Rattle.ezpkt.specs.declared.build.IcmpEcho.{IcmpEcho}
use Rattle.ezpkt.specs.declared.build.IpPiece.{IpPiece}
use Rattle.ezpkt.specs.declared.build.Request.{Request}
use Rattle.ezpkt.proofs.Deciding.{datagram_fits, gives_short}
use Rattle.ezpkt.proofs.Verifying.{behind, built_packet}
use Rattle.inspect.specs.declared.check.Verdict.TheVariants.{Good}
use Rattle.inspect.specs.Check.{is_piece, part_answer, check_answer}
use Rattle.inspect.specs.declared.header.IpRead.{IpRead}
use Rattle.inspect.specs.Encoded.{read_of}
use Rattle.inspect.proofs.Sent.{tcp_good, udp_good, echo_good}
use Rattle.assembly.specs.declared.Outcome.TheVariants.{Complete}
use Rattle.assembly.specs.Answers.{Standing, standing}
use Rattle.assembly.specs.Calls.{capacity}
use Rattle.demands.specs.Demand3.{OneHeader}
use Rattle.demands.specs.Assembling.{ip_piece}
use Rattle.demands.specs.Round.{payload_in, Names, Owed, of_tcp, of_udp, of_echo, RoundTrip}
use Rattle.demands.proofs.Left.{left_by}
use Rattle.demands.proofs.Completing.{calls_assemble}
use Rattle.demands.proofs.Pieces.{piece_read}
use Rattle.demands.proofs.Checked.{piece_checked}

-- `datagram`'s request for n bytes
abbrev asked : Template → ℕ → IpPiece
asked t n = ip_piece t 0 n

-- behind the header of a whole datagram under t, as it is read
module _ (t : Template) (len size : ℕ) where
  whole : IpRead
  whole = read_of (piece_ip (asked t len) size false)

  no_piece : is_piece whole ≡ false
  unfolding whole
  no_piece = piece_read (asked t len) size false (omega arith)

  tcp_part : (x : TcpSegment) (p : List ℕ) → Names t 6 x.saddr x.daddr → Bytes p → part_answer whole (drop 20 (tcp_packet x p)) ≡ gives Good
  unfolding whole tcp_packet read_of
  tcp_part x p (six, s, d) bp =
      ap (part_answer whole) (behind (flow_ip x.marks 6 (40 + length p) x.frag_off x.saddr x.daddr) _)
      ∙ rw (← s, ← d) (tcp_good whole p bp no_piece (tcp_hdr_of x) six)

  udp_part : (x : UdpDatagram) (p : List ℕ) → Names t 17 x.saddr x.daddr → Bytes p → length p ≤ 65507
      → part_answer whole (drop 20 (udp_packet x p)) ≡ gives Good
  unfolding whole udp_packet read_of
  udp_part x p (seventeen, s, d) bp few =
      ap (part_answer whole) (behind (flow_ip x.marks 17 (28 + length p) x.frag_off x.saddr x.daddr) _)
      ∙ rw (← s, ← d) (udp_good whole p bp no_piece (udp_hdr_of x (length p)) seventeen refl (omega arith))

  echo_part : (x : IcmpEcho) (p : List ℕ) → Names t 1 x.saddr x.daddr → Bytes p → part_answer whole (drop 20 (echo_packet x p)) ≡ gives Good
  unfolding whole echo_packet read_of
  echo_part x p names bp =
      ap (part_answer whole) (behind (flow_ip x.marks 1 (28 + length p) 0 x.saddr x.daddr) _)
      ∙ echo_good whole p bp no_piece (icmp_new (echo_type x.reply)) (echo_new x.seq) names.0

  -- The payload of a packet that is built is called good.
  part_good : (q : Request) (p : List ℕ) (room n : ℕ) → Owed t q → Bytes p → answer_of q (length p) room ≡ gives n
      → part_answer whole (drop 20 (packet_of q p)) ≡ gives Good
  part_good q p room n (of_tcp x names) bp e = tcp_part x p names bp
  part_good q p room n (of_udp x names) bp e = udp_part x p names bp (datagram_fits x (length p) room n e).few
  part_good q p room n (of_echo x names) bp e = echo_part x p names bp

-- What `datagram` builds of d is checked as d behind that header.
datagram_checked : (t : Template) (d o b : List ℕ) (n : ℕ) → OneHeader t → length d ≤ 65515 → Answered (datagram_of t (length d)) d o (Ok n) b
    → check_answer b ≡ part_answer (whole t (length d) (20 + length d)) d
unfolding whole
datagram_checked t d o b n one few x =
    let q : IpPiece = asked t (length d) in
    let all : min (8 * 0 + 8 * length d) (length d) ≡ length d = omega arith in
    ap check_answer (left_by (datagram_of t (length d)) d o b n x)
    ∙ piece_checked q d _ one.fits (omega arith) few
    ∙ pick_no _ _ one.clear
    ∙ pick_no _ _ (ap (λ (e : Bool). not e || not (eqb 0 0)) (eq-eqb _ _ all))

-- The IPv4 payload of a packet that was built: it is short enough to be cut, and what `datagram` builds of it is checked good.
module _ (t : Template) (q : Request) (p o b : List ℕ) (n : ℕ) (one : OneHeader t) (c : Owed t q) (bp : Bytes p) (x : Answered q p o (Ok n) b) where
  payload_is : payload_in n b ≡ drop 20 (packet_of q p)
  payload_is = ap (drop 20) (built_packet q p o b (Ok n) n x refl).1

  payload_few : length (payload_in n b) ≤ capacity
  payload_few =
      let front = built_packet q p o b (Ok n) n x refl in
      let size = gives_short q (length p) (length o) n (sym x.answer) in
      omega (arith, ap length payload_is, length-drop 20 (packet_of q p), front.0)

  pub datagram_good : (o₂ b₂ : List ℕ) (n₂ : ℕ) → Answered (datagram_of t (length (payload_in n b))) (payload_in n b) o₂ (Ok n₂) b₂ → check_answer b₂ ≡ gives Good
  datagram_good o₂ b₂ n₂ y =
      let d : List ℕ = payload_in n b in
      datagram_checked t d o₂ b₂ n₂ one payload_few y
      ∙ ap (part_answer (whole t (length d) (20 + length d))) payload_is
      ∙ part_good t (length d) (20 + length d) q p (length o) n c bp (sym x.answer)

  -- Demand 3 over the calls that build, cut, assemble and check: what is put together again is the IPv4 payload of the packet that was built,
  -- and the datagram that is built of it is checked good.
  pub round_trip : RoundTrip t (payload_in n b)
  round_trip =
      let d : List ℕ = payload_in n b in
      let calls = calls_assemble t d one payload_few in
      record {
        calls = calls;
        checked =
            λ r payload map f k told o₂ b₂ n₂ y.
            let g = calls.assembled r payload map f in
            let same : standing Complete k ≡ standing Complete (length d) = cc (told, g.told) in
            let size : k ≡ length d = ap (λ (s : Standing). s.bytes) same in
            let bytes : take k payload ≡ d = ap (λ (m : ℕ). take m payload) size ∙ g.bytes in
            datagram_good o₂ b₂ n₂
            (subst (λ (s : List ℕ). Answered (datagram_of t (length d)) s o₂ (Ok n₂) b₂) bytes
            (subst (λ (m : ℕ). Answered (datagram_of t m) (take k payload) o₂ (Ok n₂) b₂) size y));
      }
