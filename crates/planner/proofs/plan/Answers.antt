-- There is a place for each request, each turn writes one, and with the last one the list is as promised.
use Rattle.std.proofs.Common.{◌≡◌, ◌<◌, length, refl, arith}
use Rattle.std.proofs.lemmas.Result.{err_from_is_err_and}
use Rattle.planner.proofs.Firsts.{filled_more, decided_writes, none_decided}
use Rattle.planner.proofs.plan.Goals as goal

pub loop-k-init : goal.loop-k-init
loop-k-init c = refl

pub bounds-list-k : goal.bounds-list-k
bounds-list-k c =
    let a = c.args in
    omega (arith, c.loop-k.auto.list, (decided_writes a.n a.m a.list.now c.in_ok-job.job c.in_ok-job.ensures).0)

pub loop-k-preserved : goal.loop-k-preserved
loop-k-preserved c =
    let a = c.args in
    let l = c.loop-k in
    let here : l.k < length a.list.now = omega (arith, (decided_writes a.n a.m a.list.now c.in_ok-job.job c.in_ok-job.ensures).0) in
    filled_more c.in_ok-job.job a.list.now l.list l.k c.nth.result here l.invariant c.nth.ensures

pub returns-in_err-job : goal.returns-in_err-job
returns-in_err-job c =
    let p = err_from_is_err_and c.from_residual.result c.from_residual.ensures.1 in
    none_decided c.args.n c.args.m c.args.list.now c.from_residual.result _ (rw (← p.2) p.1) c.in_err-job.ensures

pub returns : goal.returns
returns c =
    let a = c.args in
    let l = c.loop-k in
    let last : l.k ≡ c.in_ok-job.job.count = omega arith in
    (decided_writes a.n a.m a.list.now c.in_ok-job.job c.in_ok-job.ensures).1 l.list (rw last at l.invariant)
