-- The bytes are the fields.
use Rattle.pkt.specs.Rfc768.{udp_header}
use Rattle.pkt.proofs.ipv4.udp_hdr.to_bytes.Goals as goal

pub returns : goal.returns
unfolding udp_header
returns c = simp (c.to_be_bytes-sport.ensures, c.to_be_bytes-dport.ensures, c.to_be_bytes-len.ensures, c.to_be_bytes-csum.ensures)
