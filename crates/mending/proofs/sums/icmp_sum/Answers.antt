-- The header is put together anew with 0 for its checksum, and the bytes behind it are the message's.
use Prim.Native.Nat.{ℕ, ◌-◌, ◌≤◌}
use native.Mathlib.Omega.{arith}
use mathlib.Core.List.{List}
use mathlib.Core.Path.{ap, ◌∙◌}
use lib.ListN.{length, take, drop}
use Rattle.pkt.specs.Fields.{Bytes}
use Rattle.pkt.specs.Rfc1071.{checksum}
use Rattle.pkt.specs.Rfc792.{echo_checksum}
use Rattle.pkt.proofs.Parts.{mid_tail, mid_length}
use Rattle.pkt.proofs.Deciding.{summed_is}
use Rattle.mending.proofs.Summing.{echo_parts}
use Rattle.mending.proofs.sums.icmp_sum.Goals as goal

pub returns : goal.returns
unfolding echo_checksum
returns c =
    let d : List ℕ = c.args.part.now in
    let bytes : Bytes d = λ i. (c.shared_slice_known-1.given i).fits in
    let h : 8 ≤ length d = c.requires.0 in
    let part : List ℕ = take (length d - 8) (drop 8 d) in
    let few : length part ≤ 65507 = omega (arith, mid_length 8 d, c.requires.1) in
    let id = c.be16.ensures in
    let seq = c.be16-2.ensures in
    c.unwrap_or.ensures
    ∙ summed_is c.icmp_csum.result 65507 (length part) _ c.icmp_csum.ensures few
    ∙ simp (id, seq, mid_tail 8 d) (ap checksum (echo_parts d bytes h))
