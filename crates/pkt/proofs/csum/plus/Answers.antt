-- The sum wraps exactly if it is below one of its parts, and then the carry is 1.
use Rattle.std.proofs.Common.{arith}
use Rattle.pkt.specs.Rfc1071.{plus}
use Rattle.pkt.proofs.csum.plus.Goals as goal

pub returns-then-sum-a : goal.returns-then-sum-a
unfolding plus
returns-then-sum-a c = omega arith

pub returns : goal.returns
unfolding plus
returns c = omega arith
