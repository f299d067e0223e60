-- The lowest free slot from slot i on is the table's.
use mathlib.Core.Path.{sym, ◌∙◌}
use Prim.Native.Nat.{◌<◌, ◌≤◌}
use native.Mathlib.Omega.{arith}
use lib.ListN.{length}
use Rattle.table.proofs.Lowest.{free_here, free_on, free_none}
use Rattle.table.proofs.free_one.Goals as goal

pub returns-then-not-s : goal.returns-then-not-s
returns-then-not-s c =
    let t = c.args.t in
    let h : c.loop-i.i < length t = omega arith in
    sym (free_here t c.loop-i.i h c.if-not-s.true) ∙ c.loop-i.invariant

pub loop-i-preserved : goal.loop-i-preserved
loop-i-preserved c =
    let t = c.args.t in
    let h : c.loop-i.i < length t = omega arith in
    sym (free_on t c.loop-i.i h c.if-not-s.false) ∙ c.loop-i.invariant

pub returns : goal.returns
returns c =
    let h : length c.args.t ≤ c.loop-i.i = omega arith in
    sym (free_none _ _ h) ∙ c.loop-i.invariant
