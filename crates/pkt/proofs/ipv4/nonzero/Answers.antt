-- By the two cases of the definition.
use Rattle.pkt.proofs.Headers.{nonzero_zero, nonzero_pos}
use Rattle.pkt.proofs.ipv4.nonzero.Goals as goal

pub returns-then-csum-eq0 : goal.returns-then-csum-eq0
returns-then-csum-eq0 c = nonzero_zero c.args.csum c.if-csum-eq0.true

pub returns-else-csum-eq0 : goal.returns-else-csum-eq0
returns-else-csum-eq0 c = nonzero_pos c.args.csum c.if-csum-eq0.false
