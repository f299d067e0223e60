-- What a packet counts as: document 02, T-10, "Packets failing the check, then those of other flows, are counted apart".
use Rattle.std.specs.Prelude.{ℕ, ◌-◌, Bool, true, false, cond, ◌&&◌, List, length, ◌==◌}
use Rattle.pkt.specs.Answers.{Answer, refused, gives}
use Rattle.pkt.specs.declared.ipv4.tcp_hdr.{tcp_hdr}
use Rattle.ezpkt.specs.declared.SocketAddrV4.{SocketAddrV4}
use Rattle.tcp4.specs.declared.Side.TheVariants.{Client, Server}
use Rattle.inspect.specs.Header.{header_of, data_of}
use Rattle.inspect.specs.Check.{check_answer}
use Rattle.inspect.specs.Tcp.{tcp_of}
use Rattle.inspect.specs.declared.check.Verdict.{Verdict}
use Rattle.inspect.specs.declared.header.IpRead.{IpRead}
use Rattle.reporting.specs.declared.Segment.{Segment}
use Rattle.reporting.specs.declared.Class.{Class}
use Rattle.reporting.specs.declared.Class.TheVariants.{Failed, Other, Own}

-- the check calls it good, with or without checksum
abbrev pub is_passed : Answer Verdict → Bool
is_passed (gives v) = true
is_passed (refused n) = false

abbrev pub passes : List ℕ → Bool
passes p = is_passed (check_answer p)

-- the same address and port
abbrev pub same_end : SocketAddrV4 → SocketAddrV4 → Bool
same_end a b = a.ip == b.ip && a.port == b.port

abbrev pub addressed : ℕ → ℕ → SocketAddrV4
addressed ip port = record { ip = ip; port = port }

-- whether what goes from one end to another goes from a to b
abbrev pub goes : SocketAddrV4 → SocketAddrV4 → SocketAddrV4 → SocketAddrV4 → Bool
goes from to a b = same_end from a && same_end to b

-- A segment counts for the side whose end it comes from, where it goes to the other's; "where both ends of the flow are the same address and
-- port, every packet counts for the first side".
abbrev pub sided : SocketAddrV4 → SocketAddrV4 → SocketAddrV4 → SocketAddrV4 → Segment → Class
sided cl sv from to s = cond (goes from to cl sv) (Own Client s) (cond (goes from to sv cl) (Own Server s) Other)

-- a segment of n bytes, its header of 20 among them
abbrev pub segment_in : tcp_hdr → ℕ → Segment
segment_in t n = record { seq = t.seq; flags = t.flags; size = n - 20 }

-- a transport part of n bytes with the IPv4 header h and the TCP header t
abbrev pub tcp_class : SocketAddrV4 → SocketAddrV4 → IpRead → tcp_hdr → ℕ → Class
tcp_class cl sv h t n = sided cl sv (addressed h.saddr t.sport) (addressed h.daddr t.dport) (segment_in t n)

-- a transport part d: TCP is protocol 6
abbrev pub part_class : SocketAddrV4 → SocketAddrV4 → IpRead → List ℕ → Class
part_class cl sv h d = cond (h.protocol == 6) (tcp_class cl sv h (tcp_of d) (length d)) Other

-- the class of a packet, for the flow between cl and sv
unfoldable pub class_of : SocketAddrV4 → SocketAddrV4 → List ℕ → Class
class_of cl sv p = cond (passes p) (part_class cl sv (header_of p) (data_of (header_of p) p)) Failed
