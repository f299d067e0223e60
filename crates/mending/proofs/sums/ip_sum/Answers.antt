-- The checksum of a header as it stands, and its own field given back; a header is short enough to be summed.
use native.Mathlib.Omega.{arith}
use Prim.Native.Nat.{ℕ, ◌-◌, ◌≤◌}
use mathlib.Core.List.{List}
use mathlib.Core.Path.{◌≡◌, ◌∙◌}
use lib.ListN.{length, take, length-take}
use Rattle.pkt.specs.Fields.{Bytes}
use Rattle.pkt.specs.Rfc1071.{checksum}
use Rattle.inspect.specs.declared.header.IpRead.{IpRead}
use Rattle.inspect.proofs.Reading.{framed, frame_end}
use Rattle.pkt.proofs.Deciding.{summed_is}
use Rattle.mending.proofs.Summing.{without_header}
use Rattle.mending.proofs.sums.ip_sum.Goals as goal

pub slice_bounds-ip_csum-end : goal.slice_bounds-ip_csum-end
slice_bounds-ip_csum-end c =
    let f = framed c.args.packet.now c.args.h c.requires in
    omega arith

pub be16-requires : goal.be16-requires
be16-requires c =
    let f = framed c.args.packet.now c.args.h c.requires in
    omega arith

pub returns : goal.returns
returns c =
    let l : List ℕ = c.args.packet.now in
    let h : IpRead = c.args.h in
    let f = framed l h c.requires in
    let bytes : Bytes l = λ i. (c.shared_slice_known-1.given i).fits in
    let z : h.start - 0 ≡ h.start = omega arith in
    let front : List ℕ = take (h.start - 0) l in
    let few : length front ≤ 65535 = simp length-take (omega (arith, frame_end l h bytes c.requires)) in
    let sum = c.unwrap_or-csum.ensures ∙ summed_is c.ip_csum.result 65535 (length front) (checksum front) c.ip_csum.ensures few in
    c.without.ensures
    ∙ simp (sum, c.be16.ensures, z) (without_header l h bytes c.requires)
