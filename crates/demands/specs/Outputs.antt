-- What the calls that build and send leave in the output: packets of the lengths that are answered, checked as they are owed.
use Rattle.std.specs.Prelude.{◌≡◌, ℕ, ◌-◌, ◌<◌, Result, Ok}
use mathlib.Core.List.{List, [], ◌∷◌, ◌++◌, Memᴰ}
use Rattle.std.proofs.Math.Seq.{slice}
use Rattle.pkt.specs.Answers.{gives}
use Rattle.pkt.specs.Fields.{Bytes}
use Rattle.ezpkt.specs.Build.{packet_of, Answered}
use Rattle.ezpkt.specs.Icmp4.{echo_gone, Echoed}
use Rattle.ezpkt.specs.declared.build.Request.{Request}
use Rattle.ezpkt.specs.declared.build.Request.TheVariants.{Tcp, Echo}
use Rattle.ezpkt.specs.declared.build.IcmpEcho.{IcmpEcho}
use Rattle.pkt.specs.declared.refusal.Refusal.{Refusal}
use Rattle.ezpkt.specs.declared.icmp4.IcmpFlow.{IcmpFlow}
use Rattle.tcp4.specs.Tcp4.{Emit, Gone, segment_of, after_one, sent_says, Sends}
use Rattle.tcp4.specs.declared.TcpFlow.{TcpFlow}
use Rattle.tcp4.specs.declared.Sent.{Sent}
use Rattle.inspect.specs.Header.{field_at}
use Rattle.inspect.specs.Check.{check_answer}
use Rattle.demands.specs.Ranges.{Between, Marked, InRange}
use Rattle.demands.specs.Checked.{check_of}

-- The packet of the request q with the payload p stands in the output b from place i up to, not including, place j.
pub record Stands (q : Request) (p b : List ℕ) (i j : ℕ) : Type 0 where
  pub packet : slice i j b ≡ packet_of q p
  -- "the length is the total length written": the field at 2 is the distance,
  pub total : field_at (slice i j b) 2 2 ≡ j - i
  -- and the check answers what is owed, also with more behind it: "Bytes after the total length are ignored".
  pub checked : (rest : List ℕ) → check_answer (slice i j b ++ rest) ≡ check_of q p

-- what a flow is asked to build of one packet to send
abbrev pub request_of : TcpFlow → Emit → Request
request_of f e = Tcp (segment_of f e.side e.flags e.frag)

-- "Several packets .. go end to end into one lent buffer": those that the flow f sends, the first from place i on, each up to its end
pub data EndToEnd (b : List ℕ) : TcpFlow → List Emit → ℕ → List ℕ → Type 0 where
  none : (f : TcpFlow) (i : ℕ) → EndToEnd b f [] i []
  next : (f : TcpFlow) (e : Emit) (es : List Emit) (i j : ℕ) (js : List ℕ) → Stands (request_of f e) e.body b i j → EndToEnd b (after_one f e) es j js
      → EndToEnd b f (e ∷ es) i (j ∷ js)

-- the flags and offset field fits its type, and the payload's bytes theirs
abbrev pub Sendable : List Emit → Type 0
Sendable es = (e : Emit) → Memᴰ e es → (e.frag < 65536) × Bytes e.body

-- Each call that was not refused.
pub record BuiltAsOwed : Type 0 where
  -- `build`, `fragment`, `tail`, `datagram`, `client_dgram`, `server_dgram`
  pub building : (q : Request) (p o b : List ℕ) (n : ℕ) → InRange q → Bytes p → Answered q p o (Ok n) b → Stands q p b 0 n
  -- `echo`, `echo_reply`
  pub echoing : (e : IcmpEcho) (f g : IcmpFlow) (p o b : List ℕ) (n : ℕ) → InRange (Echo e) → Bytes p → Echoed (Echo e) f p o (Ok (echo_gone g n)) b
      → Stands (Echo e) p b 0 n
  -- the calls of `TcpFlow` that send: each packet up to the end that is answered for it
  pub sending : (f : TcpFlow) (es : List Emit) (o b : List ℕ) (r : Result Sent Refusal) (g : Gone) → Between f.cl.ip f.sv.ip → Marked f.marks → Sendable es → Sends f es o r b
      → sent_says r ≡ gives g → EndToEnd b f es 0 g.ends
