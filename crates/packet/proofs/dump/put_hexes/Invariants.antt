-- After i turns the first i bytes stand, three characters for each.
use mathlib.Core.Path.{◌≡◌}
use lib.ListN.{take}
use Rattle.pkt.specs.Written.{written}
use Rattle.packet.specs.Dump.{hexes}
use Rattle.packet.proofs.dump.put_hexes.Given as goal

abbrev pub invariant-loop-i : goal.invariant-loop-i
invariant-loop-i l = l.out ≡ written (hexes (take l.i l.l)) l.initial.out
