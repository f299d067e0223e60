-- The header, and behind it the payload's part.
use Rattle.std.proofs.Common.{◌≡◌, ℕ, ◌+◌, ◌-◌, not, eqb, List, ◌++◌, length, take, drop, refl, ap, ◌∙◌}
use lib.Seq.{slice}
use Rattle.ezpkt.specs.Build.{piece_packet, piece_ip}
use Rattle.ezpkt.proofs.Slices.{lent_slice}
use Rattle.pkt.specs.Rfc791.{ip_header}
use Rattle.pkt.proofs.Headers.{ip_length}
use Rattle.pkt.proofs.Written.{written_behind}
use Rattle.pkt.specs.Written.{written}
use Rattle.ezpkt.proofs.write.piece.Goals as goal

pub returns : goal.returns
unfolding piece_packet
returns c =
    let a = c.args in
    let p : List ℕ = a.payload.now in
    let o : List ℕ = a.out.now in
    let start : ℕ = c.span_of-span.result.start in
    let end : ℕ = c.span_of-span.result.end in
    let ip : List ℕ = ip_header (piece_ip a.q (20 + (end - start)) (not (eqb end (length p)))) in
    let one : c.put.new.dst ≡ written ip o = c.put.ensures ∙ ap (λ (l : List ℕ). written l o) c.piece_ip-ip.ensures in
    let two = written_behind ip _ (take (end - start) (drop start p)) o _ _ 20 (ip_length _) one refl c.put-2.ensures in
    let part : _ ≡ written (ip ++ slice start end p) o = two ∙ ap (λ (l : List ℕ). written (ip ++ l) o) (lent_slice start end p) in
    simp (← c.span_of-span.ensures.0, ← c.span_of-span.ensures.1) part
