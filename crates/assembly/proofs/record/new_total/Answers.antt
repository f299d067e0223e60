-- Each way through the code is a case of the definition.
use mathlib.Core.Path.{refl}
use Rattle.assembly.specs.Assembly.{new_total}
use Rattle.assembly.proofs.record.new_total.Goals as goal

pub returns-then-mf : goal.returns-then-mf
unfolding new_total
returns-then-mf c = rw c.if-mf.true refl

pub returns : goal.returns
unfolding new_total
returns c = rw c.if-mf.false refl
