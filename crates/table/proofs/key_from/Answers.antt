-- The lowest slot with the key from slot i on is the one from `from` on.
use mathlib.Core.Path.{sym, ◌∙◌}
use Prim.Native.Nat.{◌<◌, ◌≤◌}
use native.Mathlib.Omega.{arith}
use lib.ListN.{length}
use Rattle.table.proofs.Lowest.{key_here, key_on, key_none}
use Rattle.table.proofs.key_from.Goals as goal

pub returns-then-holds : goal.returns-then-holds
returns-then-holds c =
    let t = c.args.t in
    let h : c.loop-i.i < length t = omega (arith, c.well_formed.0.1.0.1) in
    sym (key_here t c.loop-i.i h _ (sym c.holds.ensures ∙ c.if-holds.true)) ∙ c.loop-i.invariant

pub loop-i-preserved : goal.loop-i-preserved
loop-i-preserved c =
    let t = c.args.t in
    let h : c.loop-i.i < length t = omega (arith, c.well_formed.0.1.0.1) in
    sym (key_on t c.loop-i.i h _ (sym c.holds.ensures ∙ c.if-holds.false)) ∙ c.loop-i.invariant

pub returns : goal.returns
returns c =
    let h : length c.args.t ≤ c.loop-i.i = omega (arith, c.well_formed.0.1.0.1) in
    sym (key_none _ _ h _) ∙ c.loop-i.invariant
