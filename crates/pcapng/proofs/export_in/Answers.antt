-- What is written lies within the output, whose length a call leaves as it is.
use mathlib.Core.Path.{sym}
use native.Mathlib.Omega.{arith}
use lib.ListN.{length}
use Rattle.reading.specs.Ends.{records_answer}
use Rattle.exporting.proofs.Answering.{given}
use Rattle.pcapng.proofs.export_in.Goals as goal

pub slice_bounds-write-end : goal.slice_bounds-write-end
slice_bounds-write-end g c =
    let a = c.args in
    let fit = given (records_answer a.capture.now) (length a.out.now) c.in-Ok.n (sym c.in-Ok.ensures.answer) in
    omega (arith, fit.fits, c.export.auto.out)
