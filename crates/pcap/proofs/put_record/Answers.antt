-- The header is copied to the output's start, and the packet into the rest behind it.
use Rattle.std.proofs.Common.{arith}
use mathlib.Core.Path.{◌≡◌, refl, ap, ◌∙◌}
use Prim.Native.Nat.{ℕ}
use mathlib.Core.List.{List}
use lib.ListN.{length}
use Rattle.pkt.specs.Written.{written}
use Rattle.pkt.proofs.Written.{copy_written, written_behind}
use Rattle.pcap.specs.Pcap.{record_header, record_bytes}
use Rattle.pcap.proofs.put_record.Goals as goal

pub returns : goal.returns
unfolding record_bytes record_header
returns c =
    let a = c.args in
    let d : List ℕ = a.packet.now in
    let o : List ℕ = a.out.now in
    let h : List ℕ = record_header a.sec a.usec (length d) in
    let first : c.copy.new.dst ≡ written h o =
    c.copy.ensures ∙ copy_written _ _ (omega arith) ∙ ap (λ (b : List ℕ). written b o) c.record_header-h.ensures in
    written_behind h d d o _ _ 16 refl first refl (c.copy-2.ensures ∙ copy_written _ _ (omega arith))
