-- What the check answers of the packets that are built.
use mathlib.Core.Path.{◌≡◌, refl, sym, ap, ap₂, ◌∙◌}
use mathlib.Core.Bool.{Bool, true, false, not, cond}
use Prim.Native.Nat.{ℕ, ◌+◌, ◌-◌, ◌≤◌}
use native.Mathlib.Omega.{arith}
use mathlib.Core.List.{List, ◌++◌, append_assoc}
use lib.ListN.{length, take}
use lib.Seq.{slice, take-length}
use lib.Dec.{eqb}
use borrow.Author.Tests.{eqb-true, not-false}
use Rattle.pkt.specs.Answers.{Answer, refused, gives}
use Rattle.pkt.specs.Rfc791.{ip_header}
use Rattle.pkt.specs.Rfc792.{icmp_new, echo_new}
use Rattle.pkt.specs.Fields.{Bytes}
use Rattle.pkt.proofs.Choice.{or_no}
use Rattle.ezpkt.specs.Build.{tcp_hdr_of, tcp_packet, udp_hdr_of, udp_packet, echo_type, echo_packet, start_of, end_of, more_follow, piece_ip, piece_size, piece_packet, packet_of, answer_of}
use Rattle.ezpkt.specs.declared.build.TcpSegment.{TcpSegment}
use Rattle.ezpkt.specs.declared.build.UdpDatagram.{UdpDatagram}
use Rattle.ezpkt.specs.declared.build.IcmpEcho.{IcmpEcho}
use Rattle.ezpkt.specs.declared.build.IpPiece.{IpPiece}
use Rattle.ezpkt.specs.declared.build.Request.{Request}
use Rattle.ezpkt.specs.declared.build.Request.TheVariants.{Tcp, Udp, Echo, Piece}
use Rattle.ezpkt.proofs.Deciding.{sized_fits, datagram_fits, piece_fits}
use Rattle.inspect.specs.declared.check.Verdict.{Verdict}
use Rattle.inspect.specs.declared.check.Verdict.TheVariants.{Good}
use Rattle.inspect.specs.Check.{of_many, is_piece, part_answer, check_answer}
use Rattle.inspect.specs.Encoded.{read_of}
use Rattle.inspect.proofs.Decoding.{check_encoded}
use Rattle.inspect.proofs.Sent.{piece_refused, tcp_good, udp_good, echo_good}
use Rattle.demands.specs.Ranges.{Fitting, InRange}
use Rattle.demands.specs.Checked.{check_of}
use Rattle.demands.specs.Options.{Parts}
use Rattle.demands.proofs.Pieces.{piece_evil, piece_read}
use Rattle.demands.proofs.Parts.{tcp_parts, udp_parts, echo_parts, piece_parts}

-- A header with its data part, which is answered v where it is no piece.
judged : (x : Parts) (r : List ℕ) (v : Answer Verdict) → (is_piece (read_of x.header) ≡ false → part_answer (read_of x.header) x.part ≡ v)
    → check_answer ((ip_header x.header ++ x.part) ++ r) ≡ cond (read_of x.header).evil (refused 18) (cond (is_piece (read_of x.header)) (refused 13) v)
judged x r v whole =
    ap check_answer (append_assoc (ip_header x.header) x.part r)
    ∙ check_encoded x.header x.part r x.fits x.total
    ∙ ap (λ (a : Answer Verdict). cond (read_of x.header).evil (refused 18) a) (go (is_piece (read_of x.header)) refl)
  where
    go : (t : Bool) → is_piece (read_of x.header) ≡ t → part_answer (read_of x.header) x.part ≡ cond t (refused 13) v
    go true q = piece_refused (read_of x.header) x.part q
    go false q = whole q

tcp_checked : (t : TcpSegment) (p r : List ℕ) → InRange (Tcp t) → Bytes p → length p ≤ 65495 → check_answer (tcp_packet t p ++ r) ≡ check_of (Tcp t) p
unfolding tcp_packet read_of
tcp_checked t p r range bp few =
    let x : Parts = tcp_parts t p range few in
    judged x r (gives Good) (λ whole. tcp_good (read_of x.header) p bp whole (tcp_hdr_of t) refl)

udp_checked : (u : UdpDatagram) (p r : List ℕ) → InRange (Udp u) → Bytes p → length p ≤ 65507 → check_answer (udp_packet u p ++ r) ≡ check_of (Udp u) p
unfolding udp_packet read_of
udp_checked u p r range bp few =
    let x : Parts = udp_parts u p range few in
    judged x r (gives Good) (λ whole. udp_good (read_of x.header) p bp whole (udp_hdr_of u (length p)) refl refl (omega arith))

echo_checked : (e : IcmpEcho) (p r : List ℕ) → InRange (Echo e) → Bytes p → length p ≤ 65507 → check_answer (echo_packet e p ++ r) ≡ check_of (Echo e) p
unfolding echo_packet read_of
echo_checked e p r range bp few =
    let x : Parts = echo_parts e p range few in
    judged x r (gives Good) (λ whole. echo_good (read_of x.header) p bp whole (icmp_new (echo_type e.reply)) (echo_new e.seq) refl)

-- ---- pieces

module _ (q : IpPiece) (p : List ℕ) where
  -- One that is no piece is the whole datagram, whatever is made of its size, its MF and its bytes.
  pub whole_piece : {A : Type 0} (f : ℕ → Bool → List ℕ → A) → of_many (more_follow q (length p)) q.off ≡ false
      → f (piece_size q (length p)) (more_follow q (length p)) (slice (start_of q (length p)) (end_of q (length p)) p) ≡ f (20 + length p) false p
  whole_piece f e =
      let w = or_no (more_follow q (length p)) (not (eqb q.off 0)) e in
      let at_end : end_of q (length p) ≡ length p = eqb-true (end_of q (length p)) (length p) (not-false _ w.0) in
      let zero-off : q.off ≡ 0 = eqb-true q.off 0 (not-false _ w.1) in
      let at_start : start_of q (length p) ≡ 0 = omega arith in
      let n : length p - 0 ≡ length p = omega arith in
      ap (λ (k : ℕ). f (20 + (end_of q (length p) - k)) (more_follow q (length p)) (slice k (end_of q (length p)) p)) at_start
      ∙ ap (λ (k : ℕ). f (20 + (k - 0)) (more_follow q (length p)) (take k p)) at_end
      ∙ ap (λ (m : Bool). f (20 + (length p - 0)) m (take (length p) p)) w.0
      ∙ ap (λ (k : ℕ). f (20 + k) false (take (length p) p)) n
      ∙ ap (f (20 + length p) false) (take-length p)

  pub piece_checked : (r : List ℕ) → Fitting q.template → q.off ≤ 8191 → length p ≤ 65515 → check_answer (piece_packet q p ++ r) ≡ check_of (Piece q) p
  unfolding piece_packet
  piece_checked r fits off few =
      let x : Parts = piece_parts q p fits off few in
      let size : ℕ = piece_size q (length p) in
      let m : Bool = more_follow q (length p) in
      let v : Answer Verdict = part_answer (read_of (piece_ip q (20 + length p) false)) p in
      let field = piece_read q size m off in
      judged x r v (λ whole. whole_piece (λ k t l. part_answer (read_of (piece_ip q k t)) l) (sym field ∙ whole))
      ∙ ap₂ (λ (e t : Bool). cond e (refused 18) (cond t (refused 13) v)) (piece_evil q size m off) field

-- ---- all four

-- "It answers good, good without checksum (UDP field 0), or a refusal. Bytes after the total length are ignored": every packet that is built,
-- whatever stands behind it, is answered what its request is owed.
pub packet_checked : (q : Request) (p r : List ℕ) (room n : ℕ) → InRange q → Bytes p → answer_of q (length p) room ≡ gives n
    → check_answer (packet_of q p ++ r) ≡ check_of q p
packet_checked (Tcp t) p r room n range bp e = tcp_checked t p r range bp (sized_fits 65495 40 (length p) room n e).few
packet_checked (Udp u) p r room n range bp e = udp_checked u p r range bp (datagram_fits u (length p) room n e).few
packet_checked (Echo x) p r room n range bp e = echo_checked x p r range bp (sized_fits 65507 28 (length p) room n e).few
packet_checked (Piece q) p r room n range bp e =
    let f = piece_fits q (length p) room n e in
    piece_checked q p r range f.0 f.1.few
