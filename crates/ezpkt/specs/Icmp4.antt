-- Echoes of a flow: document 01, 'Bytes of a header', ICMP.
use Rattle.std.specs.Prelude.{ℕ, ◌+◌, ◌%◌, true, false, List, length, Result}
use Rattle.pkt.specs.Answers.{Answer, says, mapped}
use Rattle.pkt.specs.Written.{leaves, Promise}
use Rattle.pkt.specs.declared.refusal.Refusal.{Refusal}
use Rattle.ezpkt.specs.Build.{unmarked, answer_of, packet_of}
use Rattle.ezpkt.specs.declared.Marks.{Marks}
use Rattle.ezpkt.specs.declared.build.Request.{Request}
use Rattle.ezpkt.specs.declared.build.Request.TheVariants.{Echo}
use Rattle.ezpkt.specs.declared.icmp4.IcmpFlow.{IcmpFlow}
use Rattle.ezpkt.specs.declared.icmp4.EchoSent.{EchoSent}

-- "The two numbers start at 0"
abbrev pub new_icmp_flow : ℕ → ℕ → IcmpFlow
new_icmp_flow cl sv = record { cl = cl; sv = sv; ping_seq = 0; pong_seq = 0; marks = unmarked }

abbrev pub icmp_marked : IcmpFlow → Marks → IcmpFlow
icmp_marked f m = record { cl = f.cl; sv = f.sv; ping_seq = f.ping_seq; pong_seq = f.pong_seq; marks = m }

-- the echo and the reply that come next, and the flow after each: the numbers "count apart and wrap at 65,536"
abbrev pub ping_of : IcmpFlow → Request
ping_of f = Echo (record { saddr = f.cl; daddr = f.sv; reply = false; seq = f.ping_seq; marks = f.marks })

abbrev pub pong_of : IcmpFlow → Request
pong_of f = Echo (record { saddr = f.sv; daddr = f.cl; reply = true; seq = f.pong_seq; marks = f.marks })

abbrev pub pinged : IcmpFlow → IcmpFlow
pinged f = record { cl = f.cl; sv = f.sv; ping_seq = (f.ping_seq + 1) % 65536; pong_seq = f.pong_seq; marks = f.marks }

abbrev pub ponged : IcmpFlow → IcmpFlow
ponged f = record { cl = f.cl; sv = f.sv; ping_seq = f.ping_seq; pong_seq = (f.pong_seq + 1) % 65536; marks = f.marks }

-- What a sent echo gives: the flow after it, and its length.
abbrev pub EchoGone : Type 0
EchoGone = EchoSent

abbrev pub echo_gone : IcmpFlow → ℕ → EchoGone
echo_gone f n = record { flow = f; size = n }

-- an answer of building, with the flow that goes with a packet
abbrev pub with_flow : IcmpFlow → Answer ℕ → Answer EchoGone
with_flow f a = mapped (echo_gone f) a

-- A call's whole promise: a request, the flow after it, the payload and the buffer before; the answer and the buffer after.
abbrev pub Echoed : Request → IcmpFlow → List ℕ → List ℕ → Result EchoSent Refusal → List ℕ → Type 0
Echoed q f p o r o' =
    Promise says (with_flow f (answer_of q (length p) (length o))) (leaves (answer_of q (length p) (length o)) (packet_of q p) o) r o'
