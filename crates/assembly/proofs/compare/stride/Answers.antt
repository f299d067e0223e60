-- Each way through the code is a choice of the definition.
use borrow.Author.Tests.{eq-eqb, ne_eqb}
use mathlib.Core.Path.{sym}
use Rattle.pkt.proofs.Choice.{pick_yes, pick_no}
use Rattle.assembly.specs.Search.{onward}
use Rattle.assembly.proofs.compare.stride.Goals as goal

pub returns-then-map-b-eq0 : goal.returns-then-map-b-eq0
unfolding onward
returns-then-map-b-eq0 c = sym (pick_yes _ _ (eq-eqb _ _ c.if-map-b-eq0.true))

pub returns : goal.returns
unfolding onward
returns c = sym (pick_no _ _ (ne_eqb _ _ c.if-map-b-eq0.false))
