-- The bytes are the fields; one-byte fields are their own remainder.
use Rattle.std.proofs.Common.{◌≡◌, ◌%◌, rules}
use Rattle.pkt.specs.Rfc792.{echo_header}
use Rattle.pkt.proofs.ipv4.icmp_hdr.to_bytes.Goals as goal

pub returns : goal.returns
unfolding echo_header
returns c =
    let h = c.args.self in
    let typ : h.typ % 256 ≡ h.typ = search rules in
    let code : h.code % 256 ≡ h.code = search rules in
    simp (c.to_be_bytes-csum.ensures, c.to_be_bytes-id.ensures, c.to_be_bytes-seq.ensures, typ, code)
