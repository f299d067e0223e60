-- The checksum was not refused, and the three parts stand end to end.
use Rattle.pkt.specs.declared.ipv4.icmp_echo_hdr.{icmp_echo_hdr}
use Rattle.pkt.specs.declared.ipv4.icmp_hdr.{icmp_hdr}
use Rattle.pkt.specs.Rfc792.{echo_header, echo_checksum, icmp_new, echo_new}
use Rattle.ezpkt.specs.Build.{echo_packet, echo_type}
use Rattle.pkt.proofs.Deciding.{summed_is}
use Rattle.pkt.specs.Written.{written}
use Rattle.std.proofs.Common.{ℕ, List, ◌++◌, length, ap, ◌∙◌, ap₂}
use Rattle.ezpkt.proofs.write.echo.Goals as goal

pub returns : goal.returns
unfolding echo_packet
returns c =
    let a = c.args in
    let p : List ℕ = a.payload.now in
    let h = c.new-h.ensures ∙ ap icmp_new c.echo_type.ensures in
    let n = c.new-numbers.ensures in
    let csum = c.unwrap_or-csum.ensures ∙ summed_is c.icmp_csum.result 65507 (length p) _ c.icmp_csum.ensures c.requires.0 in
    c.put_all.ensures
    ∙ ap₂ (λ (x y : List ℕ). written (x ++ (y ++ p)) a.out.now)
    c.flow_ip-ip.ensures
    (c.to_bytes-head.ensures
    ∙ ap₂ (λ (x : icmp_hdr) (y : icmp_echo_hdr). echo_header x y c.unwrap_or-csum.result) h n
    ∙ ap (echo_header (icmp_new (echo_type a.e.reply)) (echo_new a.e.seq))
    (csum ∙ ap₂ (λ (x : icmp_hdr) (y : icmp_echo_hdr). echo_checksum x y p) h n))
