-- What is copied into the part behind the first n bytes is written there.
use Rattle.std.proofs.Common.{arith}
use mathlib.Core.Path.{refl, ◌∙◌}
use Rattle.pkt.proofs.Written.{copy_written, put_behind}
use Rattle.flowreport.proofs.gather.put.Goals as goal

pub returns : goal.returns
returns c =
    let a = c.args in
    (refl, put_behind a.packet.now a.out.now _ a.n (c.copy.ensures ∙ copy_written _ _ (omega arith)))
