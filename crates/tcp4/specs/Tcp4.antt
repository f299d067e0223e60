-- Segments of a flow, and its sequence numbers: document 01, 'Bytes of a header' and 'Sequence state'.
use Rattle.std.specs.Prelude.{◌≡◌, ℕ, ◌+◌, ◌/◌, ◌%◌, Bool, true, false, cond, ◌||◌, List, [], ◌∷◌, ◌++◌, length, ◌==◌, nat_lt, Result, Ok, Err}
use Rattle.pkt.specs.Answers.{Answer, refused, gives, most_tcp}
use Rattle.pkt.specs.Rfc9293.{tcp_header, FIN, SYN, PSH, ACK}
use Rattle.pkt.specs.Refusal.{number_of}
use Rattle.pkt.specs.Written.{written, Wrote}
use Rattle.pkt.specs.declared.refusal.Refusal.{Refusal}
use Rattle.ezpkt.specs.Build.{unmarked, tcp_hdr_of, tcp_packet}
use Rattle.ezpkt.specs.declared.Marks.{Marks}
use Rattle.ezpkt.specs.declared.SocketAddrV4.{SocketAddrV4}
use Rattle.ezpkt.specs.declared.build.TcpSegment.{TcpSegment}
use Rattle.tcp4.specs.declared.TcpFlow.{TcpFlow}
use Rattle.tcp4.specs.declared.PushedState.{PushedState}
use Rattle.tcp4.specs.declared.Header.{Header}
use Rattle.tcp4.specs.declared.Side.{Side}
use Rattle.tcp4.specs.declared.Side.TheVariants.{Client, Server}
use Rattle.tcp4.specs.declared.Seq.{Seq}
use Rattle.tcp4.specs.declared.Seq.TheVariants.{Is, Nothing}
use Rattle.tcp4.specs.declared.Sent.{Sent}
use Rattle.tcp4.specs.declared.Sent.TheVariants.{One, Two, Three}

abbrev pub new_tcp_flow : SocketAddrV4 → SocketAddrV4 → ℕ → ℕ → TcpFlow
new_tcp_flow cl sv c s = record { cl = cl; sv = sv; cl_seq = c; sv_seq = s; marks = unmarked }

abbrev pub tcp_marked : TcpFlow → Marks → TcpFlow
tcp_marked f m = record { cl = f.cl; sv = f.sv; cl_seq = f.cl_seq; sv_seq = f.sv_seq; marks = m }

abbrev pub other : Side → Side
other Client = Server
other Server = Client

-- ---- one segment

-- 1 where a control bit is set in the flags, else 0
abbrev pub set_in : ℕ → ℕ → ℕ
set_in flags bit = flags / bit % 2

-- "`ack` sets the ACK flag and number"; with no ACK the number is 0
abbrev pub ack_of : ℕ → ℕ → ℕ
ack_of flags n = cond (set_in flags ACK == 1) n 0

abbrev pub seg_of : Marks → SocketAddrV4 → SocketAddrV4 → ℕ → ℕ → ℕ → ℕ → TcpSegment
seg_of m src dst snd rcv flags frag =
    record {
      saddr = src.ip;
      daddr = dst.ip;
      sport = src.port;
      dport = dst.port;
      seq = snd;
      ack = ack_of flags rcv;
      flags = flags;
      frag_off = frag;
      marks = m;
    }

-- what a side sends next, with these flags: its own number, and the other's acknowledged
abbrev pub segment_of : TcpFlow → Side → ℕ → ℕ → TcpSegment
segment_of f Client flags frag = seg_of f.marks f.cl f.sv f.cl_seq f.sv_seq flags frag
segment_of f Server flags frag = seg_of f.marks f.sv f.cl f.sv_seq f.cl_seq flags frag

-- payload bytes, SYN and FIN
abbrev pub consumed : ℕ → ℕ → ℕ
consumed flags n = n + set_in flags SYN + set_in flags FIN

-- "Every sequence number is taken modulo 4,294,967,296."
abbrev pub advance : Side → ℕ → TcpFlow → TcpFlow
advance Client k f = record { cl = f.cl; sv = f.sv; cl_seq = (f.cl_seq + k) % 4294967296; sv_seq = f.sv_seq; marks = f.marks }
advance Server k f = record { cl = f.cl; sv = f.sv; cl_seq = f.cl_seq; sv_seq = (f.sv_seq + k) % 4294967296; marks = f.marks }

-- ---- several

-- A packet to send: which side, its flags, its whole flags and offset field, its payload.
pub record Emit : Type 0 where
  pub side : Side
  pub flags : ℕ
  pub frag : ℕ
  pub body : List ℕ

abbrev pub emit : Side → ℕ → ℕ → List ℕ → Emit
emit s flags frag p = record { side = s; flags = flags; frag = frag; body = p }

-- the flow after a packet, and after several
abbrev pub after_one : TcpFlow → Emit → TcpFlow
after_one f e = advance e.side (consumed e.flags (length e.body)) f

abbrev pub after_all : TcpFlow → List Emit → TcpFlow
after_all f [] = f
after_all f (e ∷ es) = after_all (after_one f e) es

-- the bytes of a packet, and of several end to end, each from the flow as it is then
abbrev pub sent_one : TcpFlow → Emit → List ℕ
sent_one f e = tcp_packet (segment_of f e.side e.flags e.frag) e.body

abbrev pub sent_bytes : TcpFlow → List Emit → List ℕ
sent_bytes f [] = []
sent_bytes f (e ∷ es) = sent_one f e ++ sent_bytes (after_one f e) es

-- one packet at the start of the buffer, and the flow after it
abbrev pub SendsOne : TcpFlow → Emit → List ℕ → TcpFlow → List ℕ → Type 0
SendsOne f e o r o' = (r ≡ after_one f e) × (o' ≡ written (sent_one f e) o)

-- where each ends, the first starting at n; and how many bytes they are
abbrev pub ends_from : ℕ → List Emit → List ℕ
ends_from n [] = []
ends_from n (e ∷ es) = (n + (40 + length e.body)) ∷ ends_from (n + (40 + length e.body)) es

abbrev pub size_all : List Emit → ℕ
size_all [] = 0
size_all (e ∷ es) = 40 + length e.body + size_all es

abbrev pub any_long : List Emit → Bool
any_long [] = false
any_long (e ∷ es) = nat_lt most_tcp (length e.body) || any_long es

-- What packets give that were sent: the flow after them, and where each ends.
pub record Gone : Type 0 where
  pub flow : TcpFlow
  pub ends : List ℕ

abbrev pub sent_says : Result Sent Refusal → Answer Gone
sent_says (Ok (One f a)) = gives (record { flow = f; ends = a ∷ [] })
sent_says (Ok (Two f a b)) = gives (record { flow = f; ends = a ∷ b ∷ [] })
sent_says (Ok (Three f a b c)) = gives (record { flow = f; ends = a ∷ b ∷ c ∷ [] })
sent_says (Err e) = refused (number_of e)

-- Refusals 1 and 3; else all of them.
abbrev pub send_answer : TcpFlow → List Emit → ℕ → Answer Gone
send_answer f es room =
    cond (any_long es) (refused 1)
    (cond (nat_lt room (size_all es)) (refused 3) (gives (record { flow = after_all f es; ends = ends_from 0 es })))

-- A call's whole promise: a flow, the packets to send, the buffer before; the answer and the buffer after.
abbrev pub Sends : TcpFlow → List Emit → List ℕ → Result Sent Refusal → List ℕ → Type 0
Sends f es o r o' = Wrote sent_says (send_answer f es (length o)) (sent_bytes f es) o r o'

-- ---- the calls of a flow

-- one side's flags, the other's, and the first side's acknowledgment
abbrev pub exchange : Side → ℕ → ℕ → List Emit
exchange s first second = emit s first 0 [] ∷ emit (other s) second 0 [] ∷ emit s ACK 0 [] ∷ []

-- SYN from the client, SYN and ACK from the server, ACK from the client
abbrev pub opening : List Emit
opening = exchange Client SYN (SYN + ACK)

-- FIN and ACK from one side, FIN and ACK from the other, ACK from the first
abbrev pub closing : Side → List Emit
closing s = exchange s (FIN + ACK) (FIN + ACK)

-- "`push` sets PSH and ACK"; the other side's acknowledgment where it is asked for
abbrev pub message_of : Side → Bool → ℕ → List ℕ → List Emit
message_of s true frag p = emit s (PSH + ACK) frag p ∷ emit (other s) ACK 0 [] ∷ []
message_of s false frag p = emit s (PSH + ACK) frag p ∷ []

-- "header-only calls": 20 bytes with PSH, ACK and the given checksum, and the side moved on by dlen
abbrev pub headed : TcpFlow → Side → ℕ → ℕ → Header
headed f s dlen csum = record { flow = advance s dlen f; bytes = tcp_header (tcp_hdr_of (segment_of f s (PSH + ACK) 0)) csum }

-- a side set to a number, or left; and its old number if it is set
abbrev pub set_to : Seq → ℕ → ℕ
set_to (Is n) now = n
set_to Nothing now = now

abbrev pub old_of : Seq → ℕ → Seq
old_of (Is n) now = Is now
old_of Nothing now = Nothing

abbrev pub popped : TcpFlow → Seq → Seq → TcpFlow
popped f c s = record { cl = f.cl; sv = f.sv; cl_seq = set_to c f.cl_seq; sv_seq = set_to s f.sv_seq; marks = f.marks }

-- "`push_state` answers the old number of each side it sets, and nothing for the other."
abbrev pub pushed : TcpFlow → Seq → Seq → PushedState
pushed f c s = record { flow = popped f c s; cl = old_of c f.cl_seq; sv = old_of s f.sv_seq }
