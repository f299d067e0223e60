-- The array is the block's fields, each in four bytes.
use Rattle.exporting.proofs.Laying.{head_is}
use Rattle.exporting.proofs.blocks.packet_head.Goals as goal

pub returns : goal.returns
returns c =
    let a = c.args in
    head_is a.sec a.usec a.n a.original a.size _ _ _ _ _ c.to_le_bytes.ensures c.to_le_bytes-2.ensures c.to_le_bytes-3.ensures c.to_le_bytes-4.ensures c.to_le_bytes-5.ensures
