-- The slot's parts are lent to the step, and what it leads to lands there.
use Rattle.table.proofs.Stepping.{put_taken, put_lands}
use Rattle.table.proofs.put_at.Goals as goal

pub returns : goal.returns
returns c =
    let a = c.args in
    put_lands a.i a.rec a.h a.body.now a.payloads.now a.maps.now c.requires _ _ _ c.in_ok-taken.ensures

pub returns-in_err-taken : goal.returns-in_err-taken
returns-in_err-taken c =
    let a = c.args in
    absurd (put_taken a.i a.rec a.h a.body.now a.payloads.now a.maps.now c.requires _ _ _ c.put.ensures _ c.in_err-taken.was)
