-- What is not refused has a header.
use Rattle.std.proofs.Common.{sym, ◌∙◌, arith}
use Rattle.inspect.proofs.Reading.{framed}
use Rattle.mending.proofs.Wholes.{known_ok}
use Rattle.mending.proofs.sums.sums_in.Goals as goal

pub ip_sum-requires : goal.ip_sum-requires
ip_sum-requires c = (known_ok c.args.packet.now c.examine.result c.in_ok-header.field-0 c.examine.ensures (sym c.ok.ensures.value ∙ c.in_ok-header.was)).frame

pub field-requires : goal.field-requires
field-requires c =
    let k = known_ok c.args.packet.now c.examine.result c.in_ok-header.field-0 c.examine.ensures (sym c.ok.ensures.value ∙ c.in_ok-header.was) in
    let f = framed c.args.packet.now c.in_ok-header.field-0.header k.frame in
    omega arith
