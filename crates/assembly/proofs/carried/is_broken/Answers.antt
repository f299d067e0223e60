-- The test of the code is that of the definition.
use mathlib.Core.Path.{refl}
use Rattle.assembly.specs.Carried.{broken}
use Rattle.assembly.proofs.carried.is_broken.Goals as goal

pub returns-then-mf : goal.returns-then-mf
unfolding broken
returns-then-mf c = rw c.if-mf.true refl

pub returns-else-mf : goal.returns-else-mf
unfolding broken
returns-else-mf c = rw c.if-mf.false refl
