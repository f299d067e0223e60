-- What is counted and the digits of what is left are together one more than the digits of x.
use native.Mathlib.Omega.{arith}
use Rattle.packet.proofs.HexDump.{digits_last, digits_more}
use Rattle.packet.proofs.dump.digits.Goals as goal

pub loop-rest-preserved : goal.loop-rest-preserved
loop-rest-preserved c = omega (arith, digits_more c.loop-rest.rest c.loop-rest-test.true)

pub returns : goal.returns
returns c = omega (arith, digits_last c.loop-rest.rest c.loop-rest-test.false)
