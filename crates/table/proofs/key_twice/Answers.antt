-- A key is twice in the table where it is twice from slot i on.
use mathlib.Core.Path.{sym, ◌∙◌}
use Prim.Native.Nat.{◌<◌, ◌≤◌}
use native.Mathlib.Omega.{arith}
use lib.ListN.{length}
use Rattle.table.proofs.Lowest.{twice_here, twice_on, twice_end}
use Rattle.table.proofs.key_twice.Goals as goal

pub returns-then-key_again : goal.returns-then-key_again
returns-then-key_again c =
    let t = c.args.t in
    let h : c.loop-i.i < length t = omega arith in
    sym (twice_here t c.loop-i.i h (sym c.key_again.ensures ∙ c.if-key_again.true)) ∙ c.loop-i.invariant

pub loop-i-preserved : goal.loop-i-preserved
loop-i-preserved c =
    let t = c.args.t in
    let h : c.loop-i.i < length t = omega arith in
    sym (twice_on t c.loop-i.i h (sym c.key_again.ensures ∙ c.if-key_again.false)) ∙ c.loop-i.invariant

pub returns : goal.returns
returns c =
    let h : length c.args.t ≤ c.loop-i.i = omega arith in
    sym (twice_end _ _ h) ∙ c.loop-i.invariant
