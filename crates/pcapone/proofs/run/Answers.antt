-- What capture answers is within the buffer, so it can be written out.
use Rattle.std.proofs.Common.{sym, arith}
use Rattle.std.proofs.lemmas.List.{length-take-le}
use Rattle.pcapone.proofs.Output.{captures_fits}
use Rattle.pcapone.proofs.run.Goals as goal

pub slice_bounds-write_all-end : goal.slice_bounds-write_all-end
slice_bounds-write_all-end g c =
    let few = captures_fits _ _ _ _ c.in-Some.ensures in
    sym (length-take-le c.in-Some.size c.capture.new.out (omega (arith, few, c.capture.auto.out)))

pub slice_bounds-out-end : goal.slice_bounds-out-end
slice_bounds-out-end g c = omega (arith, captures_fits _ _ _ _ c.in-Some.ensures)
