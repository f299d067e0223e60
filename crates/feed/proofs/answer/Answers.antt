-- There are at most as many pieces as bytes and blocks of a link.
use Rattle.std.proofs.Common.{◌+◌, sym, ◌∙◌, rules}
use Rattle.planner.proofs.Counting.{count_most}
use Rattle.feed.proofs.Feeding.{link_good}
use Rattle.feed.proofs.answer.Goals as goal

pub overflow_mul-size : goal.overflow_mul-size
overflow_mul-size c =
    let a = c.args in
    let good = link_good a.link (sym c.is_bad.ensures ∙ c.if-is_bad.false) in
    let most = count_most (8 + a.n) a.link in
    let is = c.count.ensures in
    search rules

pub overflow_add-size-2 : goal.overflow_add-size-2
overflow_add-size-2 c =
    let a = c.args in
    let good = link_good a.link (sym c.is_bad.ensures ∙ c.if-is_bad.false) in
    let most = count_most (8 + a.n) a.link in
    let is = c.count.ensures in
    search rules
