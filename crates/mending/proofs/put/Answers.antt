-- The fields of a record's packet are those of the part that is lent.
use Rattle.std.proofs.Common.{ap, ◌∙◌, arith, rules}
use Rattle.mending.specs.Sums.{sums_in}
use Rattle.mending.proofs.Putting.{lent_packet, found_asks}
use Rattle.mending.proofs.put.Goals as goal

pub put_sums-requires : goal.put_sums-requires
put_sums-requires c =
    let l = c.args.capture.now in
    let spot = c.args.spot in
    found_asks l spot c.args.changes _ (search rules) (omega arith) c.requires (c.sums_in-fields.ensures ∙ ap sums_in (lent_packet l spot))

pub returns : goal.returns
returns c =
    let l = c.args.capture.now in
    let spot = c.args.spot in
    rw (← lent_packet l spot, ← c.sums_in-fields.ensures) c.put_sums.ensures
