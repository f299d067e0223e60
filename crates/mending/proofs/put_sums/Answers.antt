-- No field, the header's, or the transport's behind it.
use Rattle.std.proofs.Common.{[], ◌∷◌}
use Rattle.mending.specs.Mend.{listed}
use Rattle.mending.proofs.Putting.{put_none, put_both, second_asks}
use Rattle.mending.proofs.put_sums.Goals as goal

pub put_sum-requires : goal.put_sum-requires
put_sum-requires c =
    second_asks c.in-Some.sums.ip c.in-Some-part.part c.args.k _ c.args.start c.args.changes c.put_sum-then.result c.put_sum-then.ensures.count
    (rw (c.in-Some.is, c.in-Some-part.is) at c.requires)

pub returns-in_default : goal.returns-in_default
returns-in_default c =
    let a = c.args in
    rw c.in_default.is (put_none a.changes a.out.now a.rows.now)

pub returns-in-Some-part : goal.returns-in-Some-part
returns-in-Some-part c =
    let a = c.args in
    rw (c.in-Some.is, c.in-Some-part.is)
    (put_both (listed a.k 0 a.start (c.in-Some.sums.ip ∷ [])) (listed a.k 1 a.start (c.in-Some-part.part ∷ [])) a.changes _ _ a.out.now _ _ a.rows.now _ _
    c.put_sum-then.ensures c.put_sum.ensures)
