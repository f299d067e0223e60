-- The parts are lent, and come back zero.
use Rattle.table.proofs.Parts.{opened_at_lem}
use Rattle.table.proofs.open_at.Goals as goal

pub returns : goal.returns
returns c =
    let a = c.args in
    let o = opened_at_lem a.key a.i a.payloads.now a.maps.now _ _ _ c.requires c.«open».ensures in
    (o.record_is, o.payload_is, o.map_is)
