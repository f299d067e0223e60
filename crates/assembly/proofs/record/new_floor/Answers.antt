-- Each way through the code is a case of the definition.
use mathlib.Core.Path.{refl}
use native.Mathlib.Omega.{arith}
use Rattle.assembly.specs.Assembly.{new_floor}
use Rattle.assembly.proofs.record.new_floor.Goals as goal

pub returns-then-floor-end : goal.returns-then-floor-end
unfolding new_floor
returns-then-floor-end c = rw c.if-mf.true (omega arith)

pub returns-else-floor-end : goal.returns-else-floor-end
unfolding new_floor
returns-else-floor-end c = rw c.if-mf.true (omega arith)

pub returns-else-mf : goal.returns-else-mf
unfolding new_floor
returns-else-mf c = rw c.if-mf.false refl
