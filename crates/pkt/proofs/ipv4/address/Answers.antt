-- Both halves of an address are words.
use Rattle.std.proofs.Common.{◌/◌, ◌%◌, ◌∙◌, arith, rules}
use Rattle.pkt.proofs.Checksum.{plus_small}
use Rattle.pkt.proofs.ipv4.address.Goals as goal

pub returns : goal.returns
returns c =
    let a = c.args in
    c.plus.ensures ∙ plus_small (a.addr / 65536) (a.addr % 65536) (search rules) (omega arith)
