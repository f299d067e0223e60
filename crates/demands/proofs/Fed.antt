-- A frame's packets have nothing to mend: one that is a piece has no sum that is worked out, and else it is the whole datagram, with the sum that was
-- worked out before cutting.
use mathlib.Core.Path.{◌≡◌, refl, sym, ap, ◌∙◌, subst}
use mathlib.Core.Bool.{Bool, false, not}
use mathlib.Core.List.{List, [], ◌++◌, append-nil, Memᴰ}
use Prim.Native.Nat.{ℕ, ◌+◌, ◌≤◌}
use native.Mathlib.Omega.{arith}
use lib.Dec.{eqb}
use lib.ListN.{length, take}
use lib.Seq.{slice, length-slice}
use Rattle.pkt.specs.Fields.{Bytes}
use Rattle.pkt.specs.Rfc1071.{checksum}
use Rattle.pkt.specs.Rfc768.{udp_checksum}
use Rattle.pkt.specs.Rfc791.{ip_bytes, ip_header}
use Rattle.pkt.specs.declared.ipv4.ip_hdr.{ip_hdr}
use Rattle.pkt.specs.declared.ipv4.udp_hdr.{udp_hdr}
use Rattle.pkt.proofs.Bytes.{bytes_nil}
use Rattle.pkt.proofs.Choice.{or_no}
use Rattle.ezpkt.specs.Build.{udp_hdr_of, start_of, end_of, more_follow, piece_ip, piece_size, piece_packet}
use Rattle.ezpkt.specs.declared.build.IpPiece.{IpPiece}
use Rattle.feed.specs.declared.Feed.{Feed}
use Rattle.feed.specs.Feed.{frame_dgram, template_of, payload_of, frame_packets}
use Rattle.feed.proofs.Cutting.{pieces_within}
use Rattle.inspect.specs.Check.{of_many, is_piece}
use Rattle.inspect.specs.Encoded.{read_of}
use Rattle.inspect.proofs.Numbers.{take_bytes, drop_bytes}
use Rattle.mending.specs.Sums.{sums_in, mend_packet}
use Rattle.mending.specs.Packets.{AllRight}
use Rattle.mending.proofs.Encoded.{udp_bytes, udp_mended}
use Rattle.demands.specs.Laps.{FrameFed}
use Rattle.demands.proofs.Pieces.{piece_evil, piece_fit, piece_read}
use Rattle.demands.proofs.Checked.{whole_piece}
use Rattle.demands.proofs.Laps.{fits, few}
use Rattle.demands.proofs.Sums.{right, udp_range}

module _ (f : Feed) (b s' : List ℕ) (x : FrameFed f b s') where
  -- the datagram's UDP header and telemetry
  abbrev d : List ℕ
  d = payload_of f b

  payload_bytes : Bytes d
  unfolding payload_of
  payload_bytes = udp_bytes b _ (udp_hdr_of (frame_dgram f) (length b)) x.bytes

  module _ (off len : ℕ) (low : off ≤ 8191) where
    abbrev q : IpPiece
    q = record { template = template_of f; off = off; len = len }

    -- One that is no piece is the datagram,
    whole_mended : of_many (more_follow q (length d)) off ≡ false → mend_packet (ip_header (piece_ip q (20 + length d) false) ++ d) ≡ ip_header (piece_ip q (20 + length d) false) ++ d
    unfolding payload_of ip_header
    whole_mended whole =
        let h : ip_hdr = piece_ip q (20 + length d) false in
        let y : udp_hdr = udp_hdr_of (frame_dgram f) (length b) in
        let c : ℕ = udp_checksum f.car.ip f.core.ip y b in
        let some = udp_range f.car.ip f.core.ip y b in
        let fit = piece_fit q (20 + length d) false (fits f b s' x) low (omega (arith, few f b s' x)) in
        let piece : is_piece (read_of h) ≡ false = piece_read q (20 + length d) false low ∙ (or_no (more_follow q (length d)) (not (eqb off 0)) whole).1 in
        simp append-nil at
        (udp_mended h fit (piece_evil q (20 + length d) false low) piece (checksum (ip_bytes h 0)) b [] x.bytes bytes_nil y c some.0 some.1 refl refl refl)

    piece_right : AllRight (sums_in (piece_packet q d))
    unfolding piece_packet
    piece_right =
        let n : ℕ = length d in
        let start : ℕ = start_of q n in
        let end : ℕ = end_of q n in
        let m : Bool = more_follow q n in
        let h : ip_hdr = piece_ip q (piece_size q n) m in
        let size = length-slice start end d (omega arith) in
        let short = few f b s' x in
        let fit = piece_fit q (piece_size q n) m (fits f b s' x) low (omega arith) in
        right h fit (slice start end d) (omega arith) (drop_bytes start (take end d) (take_bytes end d payload_bytes))
        (λ clear piece.
        let none : of_many m off ≡ false = sym (piece_read q (piece_size q n) m low) ∙ piece in
        let same : piece_packet q d ≡ ip_header (piece_ip q (20 + n) false) ++ d = whole_piece q d (λ k t l. ip_header (piece_ip q k t) ++ l) none in
        ap mend_packet same ∙ whole_mended none ∙ sym same)

  pub fed_right : (p : List ℕ) → Memᴰ p (frame_packets f b) → AllRight (sums_in p)
  fed_right p m =
      let w = pieces_within (template_of f) d f.link p m in
      subst (λ (l : List ℕ). AllRight (sums_in l)) (sym w.is) (piece_right w.off w.len (omega (arith, w.within, few f b s' x)))
