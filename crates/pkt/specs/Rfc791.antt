-- The IPv4 header, from RFC 791.
use Rattle.std.specs.Prelude.{ℕ, List, [], ◌∷◌}
use Rattle.pkt.specs.Rfc1071.{checksum}
use Rattle.pkt.specs.Fields.{Field, field, fields}
use Rattle.pkt.specs.declared.ipv4.ip_hdr.{ip_hdr}

-- 3.1, in the figure's order: version 4 and a header of 5 words, type of service, total length, identification, flags and fragment offset,
-- time to live, protocol, header checksum (here c), source address, destination address
abbrev pub ip_fields : ip_hdr → ℕ → List Field
ip_fields h c =
    field 1 0x45
    ∷ field 1 h.tos
    ∷ field 2 h.tot_len
    ∷ field 2 h.id
    ∷ field 2 h.frag_off
    ∷ field 1 h.ttl
    ∷ field 1 h.protocol
    ∷ field 2 c
    ∷ field 4 h.saddr
    ∷ field 4 h.daddr
    ∷ []

unfoldable pub ip_bytes : ip_hdr → ℕ → List ℕ
ip_bytes h c = fields (ip_fields h c)

-- where the checksum stands in the header: behind the ten bytes of the fields before it
abbrev pub ip_sum_at : ℕ
ip_sum_at = 10

-- 3.1, Header Checksum: the checksum of the header, for which its own field is zero
unfoldable pub ip_header : ip_hdr → List ℕ
ip_header h = ip_bytes h (checksum (ip_bytes h 0))

-- document 01's defaults: TOS 0, id 0, TTL 64; the total length is that of a header alone
abbrev pub ip_default : ip_hdr
ip_default = record { tos = 0; tot_len = 20; id = 0; frag_off = 0; ttl = 64; protocol = 0; saddr = 0; daddr = 0 }
