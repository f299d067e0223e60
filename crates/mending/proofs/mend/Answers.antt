-- The first pass counts and tells the answer; where that is no refusal the capture is copied, and the second pass mends the copy.
use Rattle.std.proofs.Common.{rules}
use Rattle.std.proofs.lemmas.Result.{err_from_is_err_and}
use Rattle.mending.proofs.Deciding.{pass_refused, mends_accepted}
use Rattle.mending.proofs.mend.Goals as goal

pub returns-in_err-changed : goal.returns-in_err-changed
returns-in_err-changed c =
    let a = c.args in
    let p = err_from_is_err_and c.from_residual.result c.from_residual.ensures.1 in
    rw (p.1, p.2) (pass_refused a.capture.now _ _ _ c.pass.ensures a.out.now a.rows.now c.in_err-changed.field-0.0 (search rules))

pub returns : goal.returns
returns c =
    let a = c.args in
    mends_accepted a.capture.now _ _ _ c.pass.ensures a.out.now a.rows.now c.in_ok-changed.changed c.in_ok-counts.counts _ _ _ _ (search rules) c.in_ok-counts.ensures
    (search rules) c.copy.ensures c.pass-2.ensures
