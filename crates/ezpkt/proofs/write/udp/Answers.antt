-- The checksum was not refused, and the three parts stand end to end.
use Rattle.ezpkt.specs.Build.{udp_packet}
use Rattle.pkt.proofs.Deciding.{summed_is}
use Rattle.std.proofs.Common.{length, ◌∙◌}
use Rattle.ezpkt.proofs.write.udp.Goals as goal

pub returns : goal.returns
unfolding udp_packet
returns c =
    let csum = summed_is c.udp_csum.result 65507 (length c.args.payload.now) _ c.udp_csum.ensures c.requires.0 in
    simp (c.put_all.ensures, c.to_bytes-head.ensures, c.flow_ip-ip.ensures, c.unwrap_or-csum.ensures ∙ csum)
