-- After i turns the first i lines stand, all of them full.
use mathlib.Core.Path.{◌≡◌}
use Rattle.pkt.specs.Written.{written}
use Rattle.packet.specs.Dump.{lines}
use Rattle.packet.proofs.dump.put_lines.Given as goal

abbrev pub invariant-loop-i : goal.invariant-loop-i
invariant-loop-i l = l.out ≡ written (lines l.i l.pos l.l) l.initial.out
