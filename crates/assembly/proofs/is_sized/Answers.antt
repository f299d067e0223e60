-- Both tests of the code are those of the definition.
use borrow.Author.Tests.{eq-eqb, ne_eqb}
use mathlib.Core.Path.{refl}
use Rattle.assembly.specs.Calls.{sized}
use Rattle.assembly.proofs.is_sized.Goals as goal

pub returns-then-payload-eq-CAPACITY : goal.returns-then-payload-eq-CAPACITY
unfolding sized
returns-then-payload-eq-CAPACITY c = rw (eq-eqb _ _ c.if-payload-eq-CAPACITY.true) refl

pub returns-else-payload-eq-CAPACITY : goal.returns-else-payload-eq-CAPACITY
unfolding sized
returns-else-payload-eq-CAPACITY c = rw (ne_eqb _ _ c.if-payload-eq-CAPACITY.false) refl
