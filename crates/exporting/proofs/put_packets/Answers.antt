-- After each turn the blocks of the records behind the place are written.
use mathlib.Core.Path.{sym, ap, subst, ◌∙◌}
use Prim.Native.Nat.{◌-◌}
use native.Mathlib.Omega.{arith}
use lib.ListN.{length}
use borrow.Rule.Slice.PartMut.{mid_of}
use Rattle.pkt.specs.Answers.{ListAnswer}
use Rattle.pkt.specs.Written.{written}
use Rattle.reading.specs.Reading.{Next}
use Rattle.exporting.specs.Steps.{step_block, StepAsks}
use Rattle.exporting.proofs.Answering.{falls}
use Rattle.exporting.proofs.Writing.{at_start, laid_length, step_asks, fits_on, at_next, at_end}
use Rattle.exporting.proofs.put_packets.Goals as goal

pub loop-out-init : goal.loop-out-init
loop-out-init c =
    at_start c.args.capture.now c.args.out.now _ c.opening-read.ensures c.requires

pub slice_bounds-put_step-count : goal.slice_bounds-put_step-count
slice_bounds-put_step-count c =
    let a = c.args in
    let i = c.loop-out in
    let more = sym c.more_at.ensures ∙ c.loop-out-test.true in
    omega (arith, fits_on a.capture.now a.out.now i.out i.read i.at more i.invariant)

pub slice_bounds-put_step-start : goal.slice_bounds-put_step-start
slice_bounds-put_step-start c =
    let a = c.args in
    let i = c.loop-out in
    let more = sym c.more_at.ensures ∙ c.loop-out-test.true in
    omega (arith, fits_on a.capture.now a.out.now i.out i.read i.at more i.invariant)

pub put_step-at-requires : goal.put_step-at-requires
put_step-at-requires c =
    let a = c.args in
    let i = c.loop-out in
    let more = sym c.more_at.ensures ∙ c.loop-out-test.true in
    subst (λ (s : ListAnswer Next). StepAsks a.capture.now s (length (mid_of i.at (length i.out - i.at) i.out))) (sym c.step_at.ensures)
    (step_asks a.capture.now a.out.now i.out i.read i.at more i.invariant)

pub overflow_add-at : goal.overflow_add-at
overflow_add-at c =
    let a = c.args in
    let i = c.loop-out in
    let more = sym c.more_at.ensures ∙ c.loop-out-test.true in
    let size = c.put_step-at.ensures.0 ∙ ap (λ (s : ListAnswer Next). length (step_block a.capture.now s)) c.step_at.ensures in
    let fits = fits_on a.capture.now a.out.now i.out i.read i.at more i.invariant in
    let same = laid_length a.capture.now a.out.now i.out i.read i.at i.invariant in
    record { fits = omega (arith, size, fits, same, c.well_formed.1.0) }

pub loop-out-smaller : goal.loop-out-smaller
loop-out-smaller c =
    let a = c.args in
    let i = c.loop-out in
    let more = sym c.more_at.ensures ∙ c.loop-out-test.true in
    omega (arith, falls a.capture.now i.read more, c.past_at-read.ensures)

pub loop-out-preserved : goal.loop-out-preserved
loop-out-preserved c =
    let a = c.args in
    let i = c.loop-out in
    let more = sym c.more_at.ensures ∙ c.loop-out-test.true in
    let l = a.capture.now in
    let step = c.step_at.ensures in
    let size = c.put_step-at.ensures.0 ∙ ap (λ (s : ListAnswer Next). length (step_block l s)) step in
    let bytes = c.put_step-at.ensures.1 ∙ ap (λ (s : ListAnswer Next). written (step_block l s) (mid_of i.at (length i.out - i.at) i.out)) step in
    rw c.past_at-read.ensures (at_next l a.out.now i.out i.read i.at _ _ more size bytes i.invariant)

pub shape_of-out : goal.shape_of-out
shape_of-out c =
    let a = c.args in
    let i = c.loop-out in
    laid_length a.capture.now a.out.now i.out i.read i.at i.invariant

pub returns : goal.returns
returns c =
    let i = c.loop-out in
    let none = sym c.more_at.ensures ∙ c.loop-out-test.false in
    at_end c.args.capture.now c.args.out.now i.out i.read i.at none c.requires i.invariant
