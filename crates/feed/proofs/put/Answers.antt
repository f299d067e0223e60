-- The record's header is copied to the output's start, and the piece is cut into the rest behind it.
use Rattle.std.proofs.Common.{◌≡◌, ℕ, ◌+◌, ◌-◌, ◌≤◌, List, length, sym, refl, ap, ◌∙◌, arith, rules}
use borrow.Rule.Slice.PartMut.{mid_of}
use Rattle.pkt.specs.Written.{written}
use Rattle.pkt.proofs.Written.{copy_written, written_behind, written_length}
use Rattle.pkt.proofs.Parts.{mid_length}
use Rattle.ezpkt.specs.Build.{fragment_size, packet_of}
use Rattle.ezpkt.specs.Ip4.{fragment_of}
use Rattle.ezpkt.proofs.Sizes.{size_is}
use Rattle.pcap.specs.Pcap.{record_header, record_bytes}
use Rattle.feed.specs.Steps.{record_long}
use Rattle.feed.proofs.Recording.{piece_written}
use Rattle.feed.proofs.put.Goals as goal

pub copy-requires : goal.copy-requires
unfolding record_long
copy-requires c = search rules

pub slice_bounds-fragment-count : goal.slice_bounds-fragment-count
unfolding record_long
slice_bounds-fragment-count c = search rules

pub slice_bounds-fragment-start : goal.slice_bounds-fragment-start
unfolding record_long
slice_bounds-fragment-start c = search rules

pub returns : goal.returns
unfolding record_bytes record_header record_long
returns c =
    let a = c.args in
    let d : List ℕ = a.payload.now in
    let o : List ℕ = a.out.now in
    let pk : List ℕ = packet_of (fragment_of a.template a.off a.len) d in
    let h : List ℕ = record_header a.sec a.usec (length pk) in
    let size : length pk ≡ fragment_size a.off a.len (length d) = size_is (fragment_of a.template a.off a.len) d in
    let first : c.copy.new.dst ≡ written h o =
    c.copy.ensures ∙ copy_written _ _ (omega arith)
    ∙ ap (λ (b : List ℕ). written b o) (c.record_header-header.ensures ∙ ap (record_header a.sec a.usec) (c.fragment_size-size.ensures ∙ sym size)) in
    let long : length c.copy.new.dst ≡ length o = ap length first ∙ written_length h o (omega (arith, c.requires.has_room)) in
    let room : fragment_size a.off a.len (length d) ≤ length (mid_of 16 (length c.copy.new.dst - 16) c.copy.new.dst) =
    omega (arith, mid_length 16 c.copy.new.dst, c.requires.has_room) in (
      ap (λ (k : ℕ). 16 + k) c.fragment_size-size.ensures,
      written_behind h pk pk o _ _ 16 refl first refl
          (piece_written a.template a.off a.len d _ _ _ c.requires.few c.requires.low room c.fragment.ensures),
    )
