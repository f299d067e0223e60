-- Eight blocks are marked for each byte of ones that was passed; any other byte has a block that is not.
use mathlib.Core.Path.{◌≡◌, sym}
use native.Mathlib.Omega.{arith}
use Rattle.assembly.proofs.Marks.{marked_none, full_next, full_stop}
use Rattle.assembly.proofs.map.bytes_full.Goals as goal

pub loop-i-init : goal.loop-i-init
loop-i-init c = marked_none _

pub returns-then-map-i : goal.returns-then-map-i
returns-then-map-i c = sym (full_stop _ _ _ c.loop-i-test.true (omega arith) c.if-map-i.true)

pub loop-i-preserved : goal.loop-i-preserved
loop-i-preserved c = full_next _ _ c.loop-i.invariant c.if-map-i.false

pub returns : goal.returns
returns c = let e : c.loop-i.i ≡ c.args.n = omega arith in sym (rw e at c.loop-i.invariant)
