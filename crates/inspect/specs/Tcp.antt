-- A TCP header, read: RFC 9293, 3.1, and document 01's number 14.
use Rattle.std.specs.Prelude.{cond, List, ℕ}
use Rattle.pkt.specs.Answers.{Answer, refused, gives}
use Rattle.pkt.specs.declared.ipv4.tcp_hdr.{tcp_hdr}
use Rattle.inspect.specs.Header.{field_at}
use Rattle.inspect.specs.Check.{tcp_cut}

-- 3.1, in the figure's order; the data offset byte is document 01's, and the window, the checksum and the urgent pointer are passed over
unfoldable pub tcp_of : List ℕ → tcp_hdr
tcp_of d = record { sport = field_at d 0 2; dport = field_at d 2 2; seq = field_at d 4 4; ack = field_at d 8 4; flags = field_at d 13 1 }

-- 14: "transport part under 20 (TCP)"; "TCP data offset byte not 0x50"
abbrev pub tcp_read_answer : List ℕ → Answer tcp_hdr
tcp_read_answer d = cond (tcp_cut d) (refused 14) (gives (tcp_of d))
