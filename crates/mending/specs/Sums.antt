-- The checksums of a packet, worked out anew: document 02, T-08, "Each record that the check would call good, with or without checksum, if 7 and
-- 15 were never given gets its checksums worked out anew".
use Rattle.std.specs.Prelude.{ℕ, ◌+◌, ◌/◌, ◌%◌, ◌≤◌, ◌<◌, ◌≡◌, List, [], ◌∷◌, ◌++◌, length, take, set, Option, Some, None, option_to_list}
use Rattle.pkt.specs.Answers.{Answer, refused, gives, most_ip}
use Rattle.pkt.specs.Rfc1071.{checksum}
use Rattle.pkt.specs.Rfc791.{ip_sum_at}
use Rattle.pkt.specs.Rfc768.{pseudo, nonzero, udp_sum_at}
use Rattle.pkt.specs.Rfc9293.{tcp_sum_at}
use Rattle.pkt.specs.Rfc792.{echo_sum_at}
use Rattle.inspect.specs.Header.{field_at, data_of}
use Rattle.inspect.specs.Check.{examine_answer}
use Rattle.inspect.specs.declared.header.IpRead.{IpRead}
use Rattle.inspect.specs.declared.check.Whole.{Whole}
use Rattle.inspect.specs.declared.check.Kind.{Kind}
use Rattle.inspect.specs.declared.check.Kind.TheVariants.{Tcp, Udp, Bare, Icmp}
use Rattle.mending.specs.declared.sums.SumField.{SumField}
use Rattle.mending.specs.declared.sums.Sums.{Sums}

-- l with the number x in its two bytes from place i on, the first the higher
unfoldable pub renewed : ℕ → ℕ → List ℕ → List ℕ
renewed i x l = set (set l i (x / 256 % 256)) (i + 1) (x % 256)

-- RFC 791, 3.1, Header Checksum: of the header, for which its own field is zero
abbrev pub ip_sum : IpRead → List ℕ → ℕ
ip_sum h p = checksum (renewed ip_sum_at 0 (take h.start p))

-- RFC 9293, 3.1 and RFC 768: of a transport part d behind its pseudo header, for which its own field, at a place, is zero
abbrev pub behind_pseudo : ℕ → ℕ → IpRead → List ℕ → ℕ
behind_pseudo p at h d = checksum (pseudo h.saddr h.daddr p (length d) ++ renewed at 0 d)

-- what is asked of such a part: its field within it at an even place, and no more bytes than a packet has
pub record PartAsks (p at : ℕ) (d : List ℕ) : Type 0 where
  pub some : 0 < p
  pub within : at + 2 ≤ length d
  pub even : at % 2 ≡ 0
  pub few : length d ≤ most_ip

-- a field of a packet p: its place, the number that it holds, and the number that belongs there
abbrev pub field_of : List ℕ → ℕ → ℕ → SumField
field_of p at new = record { at = at; old = field_at p at 2; new = new }

-- The transport's: of TCP, of UDP ("a computed 0 is sent as 0xffff"), and of ICMP, with no pseudo header. "A UDP field of 0 is left."
unfoldable pub part_fields : Kind → IpRead → List ℕ → List SumField
part_fields Tcp h p = field_of p (h.start + tcp_sum_at) (behind_pseudo 6 tcp_sum_at h (data_of h p)) ∷ []
part_fields Udp h p = field_of p (h.start + udp_sum_at) (nonzero (behind_pseudo 17 udp_sum_at h (data_of h p))) ∷ []
part_fields Bare h p = []
part_fields Icmp h p = field_of p (h.start + echo_sum_at) (checksum (renewed echo_sum_at 0 (data_of h p))) ∷ []

-- "IPv4 first"
abbrev pub fields_of : Answer Whole → List ℕ → List SumField
fields_of (refused n) p = []
fields_of (gives w) p = field_of p ip_sum_at (ip_sum w.header p) ∷ part_fields w.kind w.header p

-- the fields of a packet that are worked out anew: where the check, up to its sums, would not refuse
unfoldable pub sums_in : List ℕ → List SumField
sums_in p = fields_of (examine_answer p) p

-- the fields that a call found, IPv4 first
abbrev pub sums_says : Option Sums → List SumField
sums_says None = []
sums_says (Some s) = s.ip ∷ option_to_list s.part

-- a packet p with each of these fields holding the number that belongs there
unfoldable pub put_fields : List SumField → List ℕ → List ℕ
put_fields [] p = p
put_fields (f ∷ fs) p = put_fields fs (renewed f.at f.new p)

-- the packet, mended
abbrev pub mend_packet : List ℕ → List ℕ
mend_packet p = put_fields (sums_in p) p
