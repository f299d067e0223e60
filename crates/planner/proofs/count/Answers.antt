use Rattle.std.proofs.Common.{ℕ, ◌*◌, ◌/◌, ◌<◌, arith}
use Rattle.planner.proofs.Computed.{count_bare, count_is}
use Rattle.planner.proofs.count.Goals as goal

pub returns-then-full-eq0 : goal.returns-then-full-eq0
returns-then-full-eq0 c = search count_bare

pub returns : goal.returns
returns c =
    let room : ℕ = c.saturating_sub-room.result in
    let some : 0 < room / 8 * 8 = omega (arith, c.if-full-eq0.false) in
    search count_is
