-- The bytes are the fields; one-byte fields are their own remainder.
use Rattle.std.proofs.Common.{◌≡◌, ◌%◌, ◌∙◌, rules}
use Rattle.pkt.specs.Rfc791.{ip_bytes}
use Rattle.pkt.proofs.Fields.{be_four}
use Rattle.pkt.proofs.ipv4.ip_hdr.with_csum.Goals as goal

pub returns : goal.returns
unfolding ip_bytes
returns c =
    let h = c.args.self in
    let tos : h.tos % 256 ≡ h.tos = search rules in
    let ttl : h.ttl % 256 ≡ h.ttl = search rules in
    let protocol : h.protocol % 256 ≡ h.protocol = search rules in
    simp (c.to_be_bytes-tot_len.ensures, c.to_be_bytes-id.ensures, c.to_be_bytes-frag_off.ensures, c.to_be_bytes-csum.ensures, c.to_be_bytes-saddr.ensures ∙ be_four h.saddr, c.to_be_bytes-daddr.ensures ∙ be_four h.daddr, tos, ttl, protocol)
