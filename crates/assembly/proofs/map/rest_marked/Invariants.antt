-- Every block that was passed is marked.
use mathlib.Core.Bool.{true}
use mathlib.Core.Path.{◌≡◌}
use Rattle.assembly.specs.Map.{marked}
use Rattle.assembly.proofs.map.rest_marked.Given as goal

abbrev pub invariant-loop-k : goal.invariant-loop-k
invariant-loop-k l = marked l.map l.k ≡ true
