-- After each turn the answer is that for the records behind the place.
use mathlib.Core.Path.{sym, ap, subst, ◌∙◌}
use native.Mathlib.Omega.{arith}
use Rattle.pkt.specs.Answers.{ListAnswer}
use Rattle.reading.specs.Reading.{Next}
use Rattle.pkt.specs.Answers.{list_says}
use Rattle.exporting.specs.Steps.{with_step, ended_by, StepShort}
use Rattle.exporting.proofs.Answering.{at_start, in_walk, step_short, at_next, at_end, counts_on, falls}
use Rattle.exporting.proofs.answer.Goals as goal

pub loop-so_far-init : goal.loop-so_far-init
loop-so_far-init c =
    let a = c.args in
    at_start a.capture.now _ a.room _ c.opening-at.ensures c.fitting-so_far.ensures

pub with_step-so_far-requires : goal.with_step-so_far-requires
with_step-so_far-requires c =
    let l = c.args.capture.now in
    let more = sym c.more_at.ensures ∙ c.loop-so_far-test.true in
    subst StepShort (sym c.step_at.ensures) (step_short l c.loop-so_far.at _ more)

pub overflow_add-count : goal.overflow_add-count
overflow_add-count c =
    let a = c.args in
    let i = c.loop-so_far in
    let more = sym c.more_at.ensures ∙ c.loop-so_far-test.true in
    let b = in_walk a.capture.now i.at i.count _ a.room more i.invariant in
    record { fits = omega (arith, counts_on a.capture.now i.at i.count _ a.room more b) }

pub loop-so_far-smaller : goal.loop-so_far-smaller
loop-so_far-smaller c =
    let l = c.args.capture.now in
    let more = sym c.more_at.ensures ∙ c.loop-so_far-test.true in
    omega (arith, falls l c.loop-so_far.at more, c.past_at-at.ensures)

pub loop-so_far-preserved : goal.loop-so_far-preserved
loop-so_far-preserved c =
    let a = c.args in
    let l = a.capture.now in
    let i = c.loop-so_far in
    let more = sym c.more_at.ensures ∙ c.loop-so_far-test.true in
    let b = in_walk l i.at i.count _ a.room more i.invariant in
    let says = c.with_step-so_far.ensures ∙ ap (λ (s : ListAnswer Next). with_step (list_says i.so_far) s a.room) c.step_at.ensures in
    rw (c.past_at-at.ensures, says) (at_next l i.at i.count (list_says i.so_far) a.room more b)

pub returns : goal.returns
returns c =
    let a = c.args in
    let i = c.loop-so_far in
    let none = sym c.more_at.ensures ∙ c.loop-so_far-test.false in
    c.ended_by.ensures
    ∙ ap (λ (s : ListAnswer Next). ended_by s (list_says i.so_far)) c.step_at-2.ensures
    ∙ at_end a.capture.now i.at i.count (list_says i.so_far) a.room none i.invariant
