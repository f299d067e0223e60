-- Document 01, 'Checked by hand', the examples marked P: what the definitions of the contracts compute, and what document 01 writes.
use Rattle.std.specs.Prelude.{◌≡◌, true, false, List, [], ◌∷◌, ℕ, ◌+◌, length, drop}
use Rattle.pkt.specs.Answers.{gives, csum_answer, mapped}
use Rattle.pkt.specs.Rfc9293.{SYN, PSH, ACK}
use Rattle.ezpkt.specs.Build.{unmarked, packet_of}
use Rattle.ezpkt.specs.Ip4.{fragment_of}
use Rattle.tcp4.specs.Tcp4.{new_tcp_flow, emit, opening, segment_of, sent_bytes, send_answer}
use Rattle.tcp4.specs.Sequence.{flow_by}
use Rattle.ezpkt.specs.declared.ip4.Template.{Template}
use Rattle.ezpkt.specs.declared.build.Request.TheVariants.{Tcp, Udp}
use Rattle.tcp4.specs.declared.TcpFlow.{TcpFlow}
use Rattle.tcp4.specs.declared.Side.TheVariants.{Client}
use Rattle.inspect.specs.Header.{field_at}
use Rattle.assembly.specs.Assembly.{opened, outcome}
use Rattle.assembly.specs.declared.Outcome.TheVariants.{Complete}
use Rattle.assembly.specs.Cut.{twenty}
use Rattle.assembly.specs.Calls.{capacity, map_bytes, take_answer}
use Rattle.demands.specs.Assembling.{template_key}

-- An example: what is computed, and the value that it is to have.
pub record Case : Type 1 where
  pub Of : Type 0
  pub computed : Of
  pub expected : Of

abbrev case : {A : Type 0} → A → A → Case
case {A} x y = record { Of = A; computed = x; expected = y }

-- each has the value that it is to have
abbrev pub AllHold : List Case → Type 0
AllHold [] = Unit {0}
AllHold (c ∷ cs) = (c.computed ≡ c.expected) × AllHold cs

-- ---- what the examples are about

-- 10.0.0.1 and 10.0.0.2
abbrev client : ℕ
client = 0x0a000001

abbrev server : ℕ
server = 0x0a000002

-- a flow from 10.0.0.1:40000 to 10.0.0.2:80 at two sequence numbers
abbrev pub flow_at : ℕ → ℕ → TcpFlow
flow_at c s = new_tcp_flow (record { ip = client; port = 40000 }) (record { ip = server; port = 80 }) c s

-- "SYN 10.0.0.1:40000 to 10.0.0.2:80, sequence 1000"
unfoldable pub syn : List ℕ
syn = packet_of (Tcp (segment_of (flow_at 1000 5000) Client SYN 0)) []

-- "UDP 10.0.0.1:1 to 10.0.0.2:2, payload eb d4"
unfoldable pub datagram : List ℕ
datagram = packet_of (Udp (record { saddr = client; daddr = server; sport = 1; dport = 2; frag_off = 0; csum = true; marks = unmarked })) (0xeb ∷ 0xd4 ∷ [])

-- "`open` at 1000 and 5000": its three packets, end to end
unfoldable pub handshake : List ℕ
handshake = sent_bytes (flow_at 1000 5000) opening

-- the sequence and the acknowledgment number of the packet that starts at a place
unfoldable pub numbers_at : List ℕ → ℕ → List ℕ
numbers_at l at = field_at l (at + 24) 4 ∷ field_at l (at + 28) 4 ∷ []

-- "4 bytes sent at 4,294,967,294"
unfoldable pub rolled : TcpFlow
rolled = let f : TcpFlow = flow_at 4294967294 5000 in flow_by (send_answer f (emit Client (PSH + ACK) 0 (1 ∷ 2 ∷ 3 ∷ 4 ∷ []) ∷ []) 44) f

abbrev pub template : Template
template = record { tos = 0; id = 7; df = false; evil = false; ttl = 64; protocol = 17; saddr = client; daddr = server }

-- the piece (off, len) of a payload
unfoldable pub piece_at : List ℕ → ℕ → ℕ → List ℕ
piece_at d off len = packet_of (fragment_of template off len) d

-- the flags and offset field of a packet, how many bytes stand behind its header, and these
unfoldable pub field_and_data : List ℕ → List ℕ
field_and_data l = field_at l 6 2 ∷ length (drop 20 l) ∷ drop 20 l

-- ---- the examples

abbrev pub cases : List Case
cases =
    -- "checksum of nothing ffff; of 01, feff; of ff ff, 0000"
    case (csum_answer []) (gives 0xffff)
    ∷ case (csum_answer (0x01 ∷ [])) (gives 0xfeff)
    ∷ case (csum_answer (0xff ∷ 0xff ∷ [])) (gives 0x0000)
    -- "IPv4 checksum 66ce, TCP fb67"
    ∷ case (field_at syn 10 2) 0x66ce
    ∷ case (field_at syn 36 2) 0xfb67
    -- "checksum field ffff"
    ∷ case (field_at datagram 26 2) 0xffff
    -- "(seq, ack) 1000/0, 5000/1001, 1001/5001"
    ∷ case (numbers_at handshake 0) (1000 ∷ 0 ∷ [])
    ∷ case (numbers_at handshake 40) (5000 ∷ 1001 ∷ [])
    ∷ case (numbers_at handshake 80) (1001 ∷ 5001 ∷ [])
    -- "next is 2"
    ∷ case rolled.cl_seq 2
    -- "n = 20: (0,1) field 2000, 8 bytes; (2,1) field 0002, 4 bytes; (2,0) field 2002, empty; (3,1) field 0003, empty"
    ∷ case (field_and_data (piece_at twenty 0 1)) (0x2000 ∷ 8 ∷ 1 ∷ 2 ∷ 3 ∷ 4 ∷ 5 ∷ 6 ∷ 7 ∷ 8 ∷ [])
    ∷ case (field_and_data (piece_at twenty 2 1)) (0x0002 ∷ 4 ∷ 17 ∷ 18 ∷ 19 ∷ 20 ∷ [])
    ∷ case (field_and_data (piece_at twenty 2 0)) (0x2002 ∷ 0 ∷ [])
    ∷ case (field_and_data (piece_at twenty 3 1)) (0x0003 ∷ 0 ∷ [])
    -- "n = 0, (0,0): field 0000, complete at once"
    ∷ case (field_and_data (piece_at [] 0 0)) (0x0000 ∷ 0 ∷ [])
    ∷ case (mapped outcome (take_answer capacity map_bytes (opened (template_key template) capacity map_bytes) (piece_at [] 0 0))) (gives Complete)
    ∷ []
