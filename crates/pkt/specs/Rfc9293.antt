-- The TCP header, from RFC 9293.
use Rattle.std.specs.Prelude.{ℕ, ◌+◌, List, [], ◌∷◌, ◌++◌, length}
use Rattle.pkt.specs.Rfc1071.{checksum}
use Rattle.pkt.specs.Fields.{Field, field, fields}
use Rattle.pkt.specs.Rfc768.{pseudo}
use Rattle.pkt.specs.declared.ipv4.tcp_hdr.{tcp_hdr}

-- 3.1, in the figure's order: source port, destination port, sequence number, acknowledgment number, data offset (5 words) and reserved
-- bits, control bits, window, checksum (here c), urgent pointer. Document 01 fixes 0x50, 65,535 and 0.
abbrev pub tcp_fields : tcp_hdr → ℕ → List Field
tcp_fields h c =
    field 2 h.sport
    ∷ field 2 h.dport
    ∷ field 4 h.seq
    ∷ field 4 h.ack
    ∷ field 1 0x50
    ∷ field 1 h.flags
    ∷ field 2 65535
    ∷ field 2 c
    ∷ field 2 0
    ∷ []

-- 3.1, Control bits
abbrev pub FIN : ℕ
FIN = 0x01

abbrev pub SYN : ℕ
SYN = 0x02

abbrev pub RST : ℕ
RST = 0x04

abbrev pub PSH : ℕ
PSH = 0x08

abbrev pub ACK : ℕ
ACK = 0x10

unfoldable pub tcp_header : tcp_hdr → ℕ → List ℕ
tcp_header h c = fields (tcp_fields h c)

-- where the checksum stands in the header
abbrev pub tcp_sum_at : ℕ
tcp_sum_at = 16

-- 3.1, Checksum: of the pseudo header, the TCP header and the text, between the addresses s and d. A computed 0 stays 0.
unfoldable pub tcp_checksum : ℕ → ℕ → tcp_hdr → List ℕ → ℕ
tcp_checksum s d h p = checksum (pseudo s d 6 (20 + length p) ++ (tcp_header h 0 ++ p))

-- a header between two ports, with no flag and no number yet
abbrev pub tcp_new : ℕ → ℕ → tcp_hdr
tcp_new sport dport = record { sport = sport; dport = dport; seq = 0; ack = 0; flags = 0 }
