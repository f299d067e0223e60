-- What is framed is seen exactly if its header verifies.
use lib.ListN.{length-take}
use native.Mathlib.Omega.{arith}
use mathlib.Core.Path.{sym}
use Rattle.inspect.proofs.Reading.{framed, frame_end}
use Rattle.inspect.proofs.header.verified.Goals as goal

pub slice_bounds-verify-end : goal.slice_bounds-verify-end
slice_bounds-verify-end c = let f = framed c.args.packet.now c.in_ok-h.h (sym c.in_ok-h.ensures) in omega arith

pub verify-requires : goal.verify-requires
verify-requires c =
    let e = sym c.in_ok-h.ensures in
    let f = framed c.args.packet.now c.in_ok-h.h e in
    simp length-take (omega (arith, frame_end c.args.packet.now c.in_ok-h.h (λ i. (c.shared_slice_known-1.given i).fits) e))
