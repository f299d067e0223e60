-- The bytes are the fields; the flags are their own remainder.
use Rattle.std.proofs.Common.{◌≡◌, ◌%◌, ◌∙◌, rules}
use Rattle.pkt.specs.Rfc9293.{tcp_header}
use Rattle.pkt.proofs.Fields.{be_four}
use Rattle.pkt.proofs.ipv4.tcp_hdr.to_bytes.Goals as goal

pub returns : goal.returns
unfolding tcp_header
returns c =
    let h = c.args.self in
    let flags : h.flags % 256 ≡ h.flags = search rules in
    simp (c.to_be_bytes-sport.ensures, c.to_be_bytes-dport.ensures, c.to_be_bytes-seq.ensures ∙ be_four h.seq, c.to_be_bytes-ack.ensures ∙ be_four h.ack, c.to_be_bytes-window.ensures, c.to_be_bytes-csum.ensures, flags)
