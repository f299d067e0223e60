-- All of the source, where it has room, and else as much as fills the other.
use Rattle.std.proofs.Common.{arith}
use Rattle.pkt.proofs.Written.{copy_whole, copy_cut}
use Rattle.pkt.proofs.copying.copy.Goals as goal

pub returns-then-n-room : goal.returns-then-n-room
returns-then-n-room c = copy_whole c.args.src.now c.args.dst.now _ (omega arith) c.copy_from_slice.ensures.after

pub returns-else-n-room : goal.returns-else-n-room
returns-else-n-room c = copy_cut c.args.src.now c.args.dst.now _ (omega arith) c.copy_from_slice-else-n-room.ensures.after
