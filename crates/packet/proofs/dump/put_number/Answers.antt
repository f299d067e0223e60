-- The digits that are left to write, in front of what is written, are the whole.
use mathlib.Core.Path.{ap, ◌∙◌}
use Prim.Native.Nat.{ℕ, ◌-◌, ◌/◌}
use native.Mathlib.Omega.{arith}
use mathlib.Core.List.{◌++◌}
use lib.ListN.{drop, set}
use borrow.Author.Rules.{rules}
use Rattle.packet.specs.Dump.{numeral}
use Rattle.packet.proofs.HexDump.{numeral_left, numeral_done}
use Rattle.packet.proofs.dump.put_number.Goals as goal

pub loop-i-preserved : goal.loop-i-preserved
loop-i-preserved c =
    let a = c.args in
    let l = c.loop-i in
    let j : ℕ = l.i - 1 in
    ap (λ (v : ℕ). numeral a.base j (l.rest / a.base) ++ drop j (set l.out j v)) c.digit.ensures
    ∙ numeral_left a.base l.i l.rest l.out (omega arith) (omega arith)
    ∙ l.invariant

pub returns : goal.returns
returns c = numeral_done _ _ _ _ _ _ _ (search rules) c.loop-i.invariant
