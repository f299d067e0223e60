-- Four bytes are two fields of width 2.
use mathlib.Core.Path.{◌≡◌, ap}
use Prim.Native.Nat.{ℕ, ◌+◌}
use lib.ListN.{get_or}
use native.Mathlib.Omega.{arith}
use Rattle.inspect.proofs.Numbers.{field_two, field_four}
use Rattle.inspect.proofs.header.be32.Goals as goal

pub returns : goal.returns
returns c =
    let l = c.args.s.now in
    let at = c.args.at in
    let e = c.from_be_bytes.ensures in
    let last : get_or l (at + 2 + 1) 0 ≡ get_or l (at + 3) 0 = ap (λ (n : ℕ). get_or l n 0) (omega arith) in
    omega (arith, e, last, field_four l at c.requires, field_two l at (omega arith), field_two l (at + 2) (omega arith))
