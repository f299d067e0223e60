-- The right side is written behind the left one.
use mathlib.Core.Path.{refl}
use borrow.Author.Rules.{rules}
use Rattle.pkt.proofs.Written.{written_behind}
use Rattle.packet.specs.Dump.{left, line}
use Rattle.packet.proofs.HexDump.{left_length}
use Rattle.packet.proofs.dump.put_line.Goals as goal

pub returns : goal.returns
unfolding line
returns c =
    let a = c.args in
    written_behind (left a.pos a.l.now) _ _ _ _ _ 55 (left_length a.pos a.l.now (search rules)) c.put_left.ensures refl c.put_right.ensures
