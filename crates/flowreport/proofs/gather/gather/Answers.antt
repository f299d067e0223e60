-- After each turn what is gathered, and the packets of the records that are left, are those of the whole capture.
use Rattle.std.proofs.Common.{◌*◌, ◌≤◌, length, refl, ◌∙◌, arith, length-set}
use Rattle.std.proofs.lemmas.Result.{err_from_is_err_and}
use Rattle.flowreport.proofs.Gathering.{at_start, lies, lent_packet, at_next, at_end, at_refusal, few}
use Rattle.flowreport.proofs.gather.gather.Goals as goal

pub loop-spot-init : goal.loop-spot-init
loop-spot-init c =
    let a = c.args in
    (refl, refl, rw c.opening-at.ensures (at_start a.capture.now a.out.now a.ends.now))

pub overflow_add-at : goal.overflow_add-at
overflow_add-at c =
    let y = lies _ c.loop-spot.at _ c.in-Some.spot (rw c.in-Some.is at c.in_ok-spot.ensures) in
    record { fits = omega (arith, y.within) }

pub slice_bounds-put-end : goal.slice_bounds-put-end
slice_bounds-put-end c = (lies _ c.loop-spot.at _ c.in-Some.spot (rw c.in-Some.is at c.in_ok-spot.ensures)).within

pub put-n-requires : goal.put-n-requires
put-n-requires c =
    let y = lies _ c.loop-spot.at _ c.in-Some.spot (rw c.in-Some.is at c.in_ok-spot.ensures) in
    rw (lent_packet c.args.capture.now c.in-Some.spot)
    (omega (arith, y.start, y.within, y.size, c.loop-spot.invariant.0, c.loop-spot.invariant.2.low, c.requires.room))

pub offset_bounds-ends-packets : goal.offset_bounds-ends-packets
offset_bounds-ends-packets c = record { fits = omega (arith, c.loop-spot.invariant.2.within) }

pub bounds-ends-packets : goal.bounds-ends-packets
bounds-ends-packets c =
    let y = lies _ c.loop-spot.at _ c.in-Some.spot (rw c.in-Some.is at c.in_ok-spot.ensures) in
    omega (arith, y.start, y.within, c.loop-spot.invariant.1, c.loop-spot.invariant.2.low, c.requires.places)

pub overflow_add-packets : goal.overflow_add-packets
overflow_add-packets c = record { fits = omega (arith, c.loop-spot.invariant.2.within) }

pub loop-spot-smaller : goal.loop-spot-smaller
loop-spot-smaller c =
    let y = lies _ c.loop-spot.at _ c.in-Some.spot (rw c.in-Some.is at c.in_ok-spot.ensures) in
    omega (arith, y.start, y.within)

pub loop-spot-preserved : goal.loop-spot-preserved
loop-spot-preserved c =
    let l = c.args.capture.now in
    let i = c.loop-spot in
    let s = c.in-Some.spot in
    let room : length l ≤ length i.out = omega (arith, i.invariant.0, c.requires.room) in
    let places : length l ≤ 16 * length i.ends = omega (arith, i.invariant.1, c.requires.places) in (
      c.put-n.auto.out ∙ i.invariant.0,
      length-set i.ends i.packets c.put-n.result ∙ i.invariant.1,
      at_next l i.out i.ends i.at i.packets i.n _ s _ room places (rw c.in-Some.is at c.in_ok-spot.ensures)
          (rw (lent_packet l s) at c.put-n.ensures.0) (rw (lent_packet l s) at c.put-n.ensures.1) i.invariant.2,
    )

pub returns-in_err-spot-clause-gathered : goal.returns-in_err-spot-clause-gathered
returns-in_err-spot-clause-gathered c =
    let i = c.loop-spot in
    let l = c.args.capture.now in
    let p = err_from_is_err_and c.from_residual.result c.from_residual.ensures.1 in
    rw (p.1, p.2)
    (at_refusal l i.out i.ends i.at i.packets i.n (omega (arith, i.invariant.0, c.requires.room)) (omega (arith, i.invariant.1, c.requires.places)) i.invariant.2
    _ c.in_err-spot.ensures)

pub returns-clause-gathered : goal.returns-clause-gathered
returns-clause-gathered c =
    let i = c.loop-spot in
    let l = c.args.capture.now in
    at_end l i.out i.ends i.at i.packets i.n (omega (arith, i.invariant.0, c.requires.room)) (omega (arith, i.invariant.1, c.requires.places)) i.invariant.2
    (rw c.in_default.is at c.in_ok-spot.ensures)

pub returns-clause-within : goal.returns-clause-within
returns-clause-within c =
    let i = c.loop-spot in
    few c.args.capture.now i.out i.ends i.at i.packets i.n (omega (arith, i.invariant.0, c.requires.room)) (omega (arith, i.invariant.1, c.requires.places)) i.invariant.2
