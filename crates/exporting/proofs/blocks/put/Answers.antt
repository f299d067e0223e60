-- Head, packet and tail are copied one behind the other.
use Rattle.std.proofs.Common.{arith}
use mathlib.Core.Path.{◌≡◌, refl, ap, ◌∙◌}
use Prim.Native.Nat.{ℕ, ◌+◌, ◌-◌}
use mathlib.Core.List.{List, ◌++◌}
use lib.ListN.{length, drop, length-append}
use Rattle.pkt.specs.Written.{written}
use Rattle.pkt.proofs.Written.{copy_written, written_behind}
use Rattle.exporting.specs.Pcapng.{padding}
use Rattle.exporting.specs.Steps.{block_size, packet_head, packet_tail}
use Rattle.exporting.proofs.Laying.{head_length, tail_lent, block_is}
use Rattle.exporting.proofs.blocks.put.Goals as goal

pub returns : goal.returns
unfolding block_size padding
returns c =
    let a = c.args in
    let d : List ℕ = a.packet.now in
    let o : List ℕ = a.out.now in
    let n : ℕ = length d in
    let h : List ℕ = packet_head a.sec a.usec n a.original (block_size n) in
    let t : List ℕ = drop (3 - padding n) (packet_tail (block_size n)) in
    let first : c.copy.new.dst ≡ written h o =
    c.copy.ensures ∙ copy_written _ _ (omega arith)
    ∙ ap (λ (b : List ℕ). written b o) (c.packet_head-head.ensures ∙ ap (packet_head a.sec a.usec n a.original) c.size-size.ensures) in
    let front : length h ≡ 28 = head_length a.sec a.usec n a.original (block_size n) in
    let second = written_behind h d d o _ _ 28 front first refl (c.copy-2.ensures ∙ copy_written _ _ (omega arith)) in
    let long : length (h ++ d) ≡ 28 + n = length-append h d ∙ ap (λ (k : ℕ). k + n) front in
    let tail = tail_lent c.zeros.result (padding n) (block_size n) c.packet_tail-tail.result c.zeros.ensures
    (c.packet_tail-tail.ensures ∙ ap packet_tail c.size-size.ensures) in
    let third = written_behind (h ++ d) _ t o _ _ (28 + n) long second tail (c.copy-3.ensures ∙ copy_written _ _ (omega arith)) in
    (c.size-size.ensures, third ∙ ap (λ (b : List ℕ). written b o) (block_is a.sec a.usec a.original d))
