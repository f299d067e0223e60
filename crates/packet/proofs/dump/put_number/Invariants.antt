-- The digits that are left to write, in front of what is written, are the whole.
use mathlib.Core.Path.{◌≡◌}
use mathlib.Core.List.{◌++◌}
use lib.ListN.{drop}
use Rattle.packet.specs.Dump.{numeral}
use Rattle.packet.proofs.dump.put_number.Given as goal

abbrev pub invariant-loop-i : goal.invariant-loop-i
invariant-loop-i l = numeral l.base l.i l.rest ++ drop l.i l.out ≡ numeral l.base l.k l.x ++ drop l.k l.initial.out
