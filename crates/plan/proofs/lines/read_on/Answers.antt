-- What is left, behind the bytes that were read, is the whole text.
use mathlib.Core.Path.{sym}
use Rattle.std.proofs.lemmas.Result.{err_from_is_err_and}
use Rattle.plan.proofs.Texts.{next_fault, next_reading, read_end}
use Rattle.plan.proofs.lines.read_on.Goals as goal

pub returns-in_err-reading : goal.returns-in_err-reading
returns-in_err-reading c =
    let p = err_from_is_err_and c.from_residual.result c.from_residual.ensures.1 in
    rw (p.1, p.2) (next_fault _ _ _ _ c.loop-c.invariant c.loop-c-test.true _ (sym c.in_err-reading.ensures))

pub loop-c-preserved : goal.loop-c-preserved
loop-c-preserved c = next_reading _ _ _ _ c.loop-c.invariant c.loop-c-test.true _ (sym c.in_ok-reading.ensures)

pub returns : goal.returns
returns c = search read_end
