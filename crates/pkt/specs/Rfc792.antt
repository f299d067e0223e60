-- The ICMP echo header, from RFC 792.
use Rattle.std.specs.Prelude.{ℕ, List, [], ◌∷◌, ◌++◌}
use Rattle.pkt.specs.Rfc1071.{checksum}
use Rattle.pkt.specs.Fields.{Field, field, fields}
use Rattle.pkt.specs.declared.ipv4.icmp_hdr.{icmp_hdr}
use Rattle.pkt.specs.declared.ipv4.icmp_echo_hdr.{icmp_echo_hdr}

-- Echo or Echo Reply Message: type, code, checksum (here c), identifier, sequence number
abbrev pub echo_fields : icmp_hdr → icmp_echo_hdr → ℕ → List Field
echo_fields h e c = field 1 h.typ ∷ field 1 h.code ∷ field 2 c ∷ field 2 e.id ∷ field 2 e.seq ∷ []

unfoldable pub echo_header : icmp_hdr → icmp_echo_hdr → ℕ → List ℕ
echo_header h e c = fields (echo_fields h e c)

-- where the checksum stands in the header
abbrev pub echo_sum_at : ℕ
echo_sum_at = 2

-- Checksum: of the ICMP message starting with the type, with no pseudo header
unfoldable pub echo_checksum : icmp_hdr → icmp_echo_hdr → List ℕ → ℕ
echo_checksum h e p = checksum (echo_header h e 0 ++ p)

-- document 01: code 0
abbrev pub icmp_new : ℕ → icmp_hdr
icmp_new typ = record { typ = typ; code = 0 }

-- document 01: id 0x1234
abbrev pub echo_new : ℕ → icmp_echo_hdr
echo_new seq = record { id = 0x1234; seq = seq }
