-- After i turns the first i characters stand, and the rest is as it was.
use mathlib.Core.Path.{◌≡◌}
use mathlib.Core.List.{◌++◌, map}
use lib.ListN.{take, drop}
use Rattle.packet.specs.Dump.{shown_of}
use Rattle.packet.proofs.dump.put_chars.Given as goal

abbrev pub invariant-loop-i : goal.invariant-loop-i
invariant-loop-i l = l.out ≡ take l.i (map shown_of l.l) ++ drop l.i l.initial.out
