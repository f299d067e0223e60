-- The UDP header, from RFC 768.
use Rattle.std.specs.Prelude.{ℕ, zero, suc, ◌+◌, List, [], ◌∷◌, ◌++◌, length}
use Rattle.pkt.specs.Rfc1071.{checksum}
use Rattle.pkt.specs.Fields.{Field, field, fields}
use Rattle.pkt.specs.declared.ipv4.udp_hdr.{udp_hdr}

-- Format: source port, destination port, length, checksum (here c)
abbrev pub udp_fields : udp_hdr → ℕ → List Field
udp_fields h c = field 2 h.sport ∷ field 2 h.dport ∷ field 2 h.len ∷ field 2 c ∷ []

unfoldable pub udp_header : udp_hdr → ℕ → List ℕ
udp_header h c = fields (udp_fields h c)

-- where the checksum stands in the header
abbrev pub udp_sum_at : ℕ
udp_sum_at = 6

-- The pseudo header: source address, destination address, zero, protocol, length. RFC 9293, 3.1 has the same for TCP.
abbrev pub pseudo_fields : ℕ → ℕ → ℕ → ℕ → List Field
pseudo_fields s d p n = field 4 s ∷ field 4 d ∷ field 1 0 ∷ field 1 p ∷ field 2 n ∷ []

unfoldable pub pseudo : ℕ → ℕ → ℕ → ℕ → List ℕ
pseudo s d p n = fields (pseudo_fields s d p n)

-- "If the computed checksum is zero, it is transmitted as all ones"
unfoldable pub nonzero : ℕ → ℕ
nonzero zero = 65535
nonzero (suc n) = suc n

-- Checksum: of the pseudo header, the UDP header and the data, between the addresses s and d. The pseudo header's length is that of the
-- header and the data; the header has a length field of its own, which in every datagram that is built says the same length.
unfoldable pub udp_checksum : ℕ → ℕ → udp_hdr → List ℕ → ℕ
udp_checksum s d h p = nonzero (checksum (pseudo s d 17 (8 + length p) ++ (udp_header h 0 ++ p)))
