use Rattle.std.proofs.Common.{◌∙◌}
use Rattle.planner.proofs.Checking.{look_begun, look_next, look_done, judged_is}
use Rattle.planner.proofs.is_plan.Goals as goal

pub loop-r-init : goal.loop-r-init
loop-r-init c = look_begun c.look_none-look.result c.args.n c.args.m c.args.list.now c.look_none-look.ensures

pub loop-r-preserved : goal.loop-r-preserved
loop-r-preserved c = look_next c.loop-r.look _ c.args.list.now c.loop-r.r-index c.loop-r-test.true c.look_at-look.ensures ∙ c.loop-r.invariant

pub returns : goal.returns
returns c =
    let a = c.args in
    c.judge.ensures
    ∙ judged_is a.n a.m c.loop-r.look a.list.now (look_done c.loop-r.look a.list.now c.loop-r.r-index c.loop-r-test.false ∙ c.loop-r.invariant)
