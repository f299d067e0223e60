-- The checksum was not refused, and the three parts stand end to end.
use Rattle.pkt.specs.Rfc9293.{tcp_header}
use Rattle.ezpkt.specs.Build.{tcp_packet}
use Rattle.pkt.proofs.Deciding.{summed_is}
use Rattle.pkt.specs.Written.{written}
use Rattle.std.proofs.Common.{ℕ, List, ◌++◌, length, ap, ◌∙◌, ap₂}
use Rattle.ezpkt.proofs.write.tcp.Goals as goal

pub returns : goal.returns
unfolding tcp_packet
returns c =
    let a = c.args in
    let p : List ℕ = a.payload.now in
    let csum = c.unwrap_or-csum.ensures ∙ summed_is c.tcp_csum.result 65495 (length p) _ c.tcp_csum.ensures c.requires.0 in
    c.put_all.ensures
    ∙ ap₂ (λ (x y : List ℕ). written (x ++ (y ++ p)) a.out.now)
    c.flow_ip-ip.ensures
    (rw c.hdr-h.ensures at (c.to_bytes-head.ensures ∙ ap (tcp_header c.hdr-h.result) csum))
