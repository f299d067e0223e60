-- The datagram was asked for with a checksum and where it has room.
use Rattle.std.proofs.Common.{ap, ◌∙◌}
use Rattle.pkt.specs.Written.{written}
use Rattle.ezpkt.specs.Build.{udp_packet}
use Rattle.ezpkt.specs.declared.build.UdpDatagram.{UdpDatagram}
use Rattle.feed.proofs.Recording.{udp_written}
use Rattle.feed.proofs.datagram.Goals as goal

pub returns : goal.returns
returns c =
    let a = c.args in
    let on = ap (λ (u : UdpDatagram). u.csum) c.dgram.ensures in
    udp_written c.dgram.result a.bytes.now a.scratch.now _ _ on c.requires.0 c.requires.1 c.build.ensures
    ∙ ap (λ (u : UdpDatagram). written (udp_packet u a.bytes.now) a.scratch.now) c.dgram.ensures
