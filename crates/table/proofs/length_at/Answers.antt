-- A usable table's occupied slot is ready, so that its progress tells the length.
use Rattle.table.proofs.Stepping.{never_eleven, length_told}
use Rattle.table.proofs.length_at.Goals as goal

pub returns-in_err-standing : goal.returns-in_err-standing
returns-in_err-standing c =
    absurd (never_eleven c.args.table c.args.i c.args.payloads.now c.args.maps.now c.requires _ c.in_err-standing.ensures)

pub returns-in-Complete : goal.returns-in-Complete
returns-in-Complete c =
    length_told c.args.table c.args.i c.args.payloads.now c.args.maps.now c.requires _ _ c.in_ok-standing.ensures c.in-Complete.is

pub returns-in-Waiting : goal.returns-in-Waiting
returns-in-Waiting c =
    length_told c.args.table c.args.i c.args.payloads.now c.args.maps.now c.requires _ _ c.in_ok-standing.ensures c.in-Waiting.is

pub returns-in-Spoilt : goal.returns-in-Spoilt
returns-in-Spoilt c =
    length_told c.args.table c.args.i c.args.payloads.now c.args.maps.now c.requires _ _ c.in_ok-standing.ensures c.in-Spoilt.is
