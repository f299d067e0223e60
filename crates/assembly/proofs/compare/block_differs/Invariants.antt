-- The comparison that is left, from where the loop stands, is the whole comparison.
use Prim.Native.Nat.{◌+◌, ◌-◌}
use lib.ListN.{take, drop}
use mathlib.Core.Path.{◌≡◌}
use Rattle.assembly.specs.Search.{unlike}
use Rattle.assembly.proofs.compare.block_differs.Given as goal

abbrev pub invariant-loop-j : goal.invariant-loop-j
invariant-loop-j l = unlike l.payload (l.at + l.j) (take (l.from + 8 - l.j) (drop l.j l.body)) ≡ unlike l.payload (l.at + l.from) (take 8 (drop l.from l.body))
