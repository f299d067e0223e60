-- Each way through the code is a case of the definition.
use borrow.Author.Tests.{ne_eqb, eq-eqb}
use mathlib.Core.Path.{refl}
use Rattle.assembly.specs.Assembly.{end_clash}
use Rattle.assembly.proofs.record.end_clash.Goals as goal

pub returns-then-mf : goal.returns-then-mf
unfolding end_clash
returns-then-mf c = cc

pub returns-then-t-end : goal.returns-then-t-end
unfolding end_clash
returns-then-t-end c = rw (c.in-Some.is, c.if-mf.false, ne_eqb _ _ c.if-t-end.true) refl

pub returns-else-t-end : goal.returns-else-t-end
unfolding end_clash
returns-else-t-end c = rw (c.in-Some.is, c.if-mf.false, eq-eqb _ _ c.if-t-end.false) refl

pub returns-then-mf-2 : goal.returns-then-mf-2
unfolding end_clash
returns-then-mf-2 c = cc

pub returns-else-mf-2 : goal.returns-else-mf-2
unfolding end_clash
returns-else-mf-2 c = cc
