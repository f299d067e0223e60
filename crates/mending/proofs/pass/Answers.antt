-- By the facts of a pass: what a turn asks and leaves, and where it ends.
use Rattle.std.proofs.Common.{◌≡◌, ℕ, List, length, refl, ap, ◌∙◌, arith}
use Rattle.std.proofs.lemmas.Result.{err_from_is_err_and}
use Rattle.reading.specs.Reading.{step_at, past_at, count_past}
use Rattle.mending.proofs.Passing.{at_start, spot_asks, turn, at_end, at_refusal, falls_found}
use Rattle.mending.proofs.pass.Goals as goal

pub loop-spot-init : goal.loop-spot-init
loop-spot-init c =
    let a = c.args in
    let begun = at_start a.capture.now a.out.now a.rows.now in
    (rw c.open-r.ensures.0 refl, (length a.capture.now, rw (c.open-r.ensures.1, c.open-r.ensures.2) begun))

pub returns-in_err-spot : goal.returns-in_err-spot
returns-in_err-spot c =
    let i = c.loop-spot in
    let p = err_from_is_err_and c.from_residual.result c.from_residual.ensures.1 in
    let is = c.in_err-spot.ensures ∙ ap (λ (b : List ℕ). step_at b i.r.at i.r.count) i.invariant.0 in
    rw (p.1, p.2) (at_refusal c.args.capture.now c.args.out.now c.args.rows.now i.r.at i.r.count i.changes i.invariant.1.0 i.out i.rows i.invariant.1.1 _ is)

pub put-changes-requires : goal.put-changes-requires
put-changes-requires c =
    let i = c.loop-spot in
    let is = rw c.in-Some.is at c.in_ok-spot.ensures ∙ ap (λ (b : List ℕ). step_at b i.r.at i.r.count) i.invariant.0 in
    spot_asks c.args.capture.now i.r.at i.r.count i.changes c.in-Some.spot is i.invariant.1.1.changes_fit

pub loop-spot-preserved : goal.loop-spot-preserved
loop-spot-preserved c =
    let l : List ℕ = c.args.capture.now in
    let i = c.loop-spot in
    let cap : i.r.capture.now ≡ l = i.invariant.0 in
    let is = rw c.in-Some.is at c.in_ok-spot.ensures ∙ ap (λ (b : List ℕ). step_at b i.r.at i.r.count) cap in
    let at : c.past-r.result.at ≡ past_at l i.r.at = rw c.past-r.ensures (ap (λ (b : List ℕ). past_at b i.r.at) cap) in
    let count : c.past-r.result.count ≡ count_past l i.r.at i.r.count = rw c.past-r.ensures (ap (λ (b : List ℕ). count_past b i.r.at i.r.count) cap) in (
      rw c.past-r.ensures cap,
      (
        _,
        turn l c.args.out.now c.args.rows.now i.r.at i.r.count i.changes i.invariant.1.0 i.out i.rows c.in-Some.spot _ _ _ _ _ (omega arith) is at count
            c.put-changes.ensures i.invariant.1.1,
      ),
    )

pub loop-spot-smaller : goal.loop-spot-smaller
loop-spot-smaller c =
    let l : List ℕ = c.args.capture.now in
    let i = c.loop-spot in
    let cap : i.r.capture.now ≡ l = i.invariant.0 in
    let is = rw c.in-Some.is at c.in_ok-spot.ensures ∙ ap (λ (b : List ℕ). step_at b i.r.at i.r.count) cap in
    let at : c.past-r.result.at ≡ past_at l i.r.at = rw c.past-r.ensures (ap (λ (b : List ℕ). past_at b i.r.at) cap) in
    omega (arith, at, falls_found l i.r.at i.r.count c.in-Some.spot is)

pub returns : goal.returns
returns c =
    let i = c.loop-spot in
    let is = rw c.in_default.is at c.in_ok-spot.ensures ∙ ap (λ (b : List ℕ). step_at b i.r.at i.r.count) i.invariant.0 in
    at_end c.args.capture.now c.args.out.now c.args.rows.now i.r.at i.r.count i.changes i.invariant.1.0 i.out i.rows i.invariant.1.1 is
