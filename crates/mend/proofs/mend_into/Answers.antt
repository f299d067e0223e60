-- What is written and listed lies within what was lent, whose lengths a call leaves as they are.
use Rattle.std.proofs.Common.{arith}
use Rattle.mend.proofs.Room.{counted}
use Rattle.mend.proofs.mend_into.Goals as goal

pub slice_bounds-write-end : goal.slice_bounds-write-end
slice_bounds-write-end g c =
    let called = c.mend in
    let fits = counted c.args.capture.now c.args.out.now c.args.rows.now called.result _ _ _ called.ensures c.in-Ok.is in
    omega (arith, fits.0, called.auto.out)

pub slice_bounds-write-end-in-Ok : goal.slice_bounds-write-end-in-Ok
slice_bounds-write-end-in-Ok g c =
    let called = c.mend in
    let fits = counted c.args.capture.now c.args.out.now c.args.rows.now called.result _ _ _ called.ensures c.in-Ok.is in
    omega (arith, fits.1, called.auto.rows)
