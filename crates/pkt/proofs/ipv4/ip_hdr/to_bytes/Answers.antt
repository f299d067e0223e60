-- The checksum put in is that of the header with 0 there.
use Rattle.pkt.specs.Rfc791.{ip_fields, ip_bytes, ip_header}
use Rattle.pkt.proofs.Fields.{fields_bytes}
use Rattle.pkt.proofs.Checksum.{checksum_total}
use Rattle.pkt.proofs.ipv4.ip_hdr.to_bytes.Goals as goal

pub returns : goal.returns
unfolding ip_header ip_bytes
returns c =
    let h = c.args.self in
    cc (checksum_total (ip_bytes h 0) (fields_bytes (ip_fields h 0)))
