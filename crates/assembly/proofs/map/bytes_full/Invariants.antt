-- Eight blocks are marked for each byte of ones that was passed; any other byte has a block that is not.
use Prim.Native.Nat.{◌*◌}
use mathlib.Core.Bool.{true}
use mathlib.Core.Path.{◌≡◌}
use Rattle.assembly.specs.Map.{marked}
use Rattle.assembly.proofs.map.bytes_full.Given as goal

abbrev pub invariant-loop-i : goal.invariant-loop-i
invariant-loop-i l = marked l.map (8 * l.i) ≡ true
