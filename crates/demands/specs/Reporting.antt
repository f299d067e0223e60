-- Document 02, T-10, of what the calls of `TcpFlow` send: reported over, it is all expected, with exactly what was sent, also across 2^32.
use Rattle.std.specs.Prelude.{◌≡◌, false, ℕ, ◌+◌, ◌<◌, length, Result, Ok}
use Rattle.pkt.specs.declared.refusal.Refusal.{Refusal}
use Rattle.pkt.specs.declared.refusal.ListRefusal.{ListRefusal}
use mathlib.Core.List.{List, [], ◌∷◌, ◌++◌, Memᴰ}
use Rattle.pkt.specs.Answers.{gives}
use Rattle.pkt.specs.Fields.{Bytes}
use Rattle.pkt.specs.Rfc9293.{FIN, SYN}
use Rattle.tcp4.specs.Tcp4.{Emit, Gone, set_in, sent_says, Sends}
use Rattle.tcp4.specs.Sequence.{mine}
use Rattle.tcp4.specs.declared.TcpFlow.{TcpFlow}
use Rattle.tcp4.specs.declared.Sent.{Sent}
use Rattle.tcp4.specs.declared.Side.{Side}
use Rattle.tcp4.specs.declared.Side.TheVariants.{Client, Server}
use Rattle.reporting.specs.Sides.{cycle}
use Rattle.reporting.specs.Packets.{same_end}
use Rattle.reporting.specs.Report.{cut_at, Reports}
use Rattle.reporting.specs.declared.Tally.{Tally}
use Rattle.reporting.specs.declared.Report.{Report}
use Rattle.demands.specs.Ranges.{Between, Marked}
use Rattle.demands.specs.Checked.{reserved_field, piece_field}

-- The numbers of a flow fit their types, and its ends are two.
pub record TwoEnds (f : TcpFlow) : Type 0 where
  pub addresses : Between f.cl.ip f.sv.ip
  pub marked : Marked f.marks
  pub cl_port : f.cl.port < 65536
  pub sv_port : f.sv.port < 65536
  pub cl_seq : f.cl_seq < cycle
  pub sv_seq : f.sv_seq < cycle
  pub two : same_end f.cl f.sv ≡ false

-- Packets that the check passes: no piece, and the reserved bit clear. Their numbers fit their types.
pub record Passable (e : Emit) : Type 0 where
  pub flags : e.flags < 256
  pub frag : e.frag < 65536
  pub whole : piece_field e.frag ≡ false
  pub clear : reserved_field e.frag ≡ false
  pub bytes : Bytes e.body

-- Accepted calls that send, one after the other, each on the flow that the one before it answered: with no hole, no header alone and no number
-- set between them. What was to be sent, and the packets: each call's output, cut at the ends that it answers.
pub data CallsSend : TcpFlow → List Emit → List (List ℕ) → Type 0 where
  none : (f : TcpFlow) → CallsSend f [] []
  more : (f : TcpFlow) (es : List Emit) (o : List ℕ) (r : Result Sent Refusal) (b : List ℕ) (g : Gone) (rest : List Emit) (ps : List (List ℕ)) → Sends f es o r b
      → sent_says r ≡ gives g → CallsSend g.flow rest ps → CallsSend f (es ++ rest) (cut_at 0 g.ends b ++ ps)

-- what a side's packets come to, of a number that each has
abbrev pub side_total : Side → (Emit → ℕ) → List Emit → ℕ
side_total w k [] = 0
side_total w k (e ∷ es) = mine w e.side (k e) + side_total w k es

-- A side's tally is exactly what it sent, and all of it is expected.
pub record AllExpected (w : Side) (es : List Emit) (t : Tally) : Type 0 where
  pub segments : t.segments ≡ side_total w (λ e. 1) es
  pub bytes : t.bytes ≡ side_total w (λ e. length e.body) es
  pub syns : t.syns ≡ side_total w (λ e. set_in e.flags SYN) es
  pub fins : t.fins ≡ side_total w (λ e. set_in e.flags FIN) es
  pub expected : t.expected ≡ t.segments
  pub early : t.early ≡ 0
  pub late : t.late ≡ 0

pub record AsSent (es : List Emit) (r : Report) : Type 0 where
  pub client : AllExpected Client es r.cl
  pub server : AllExpected Server es r.sv
  pub none_failed : r.failed ≡ 0
  pub no_others : r.others ≡ 0

pub record SentExpected : Type 0 where
  -- Whatever bytes and ends give those packets: what the call reports of the flow is what was sent.
  pub reported : (f : TcpFlow) (es : List Emit) (ps : List (List ℕ)) → TwoEnds f → ((e : Emit) → Memᴰ e es → Passable e) → CallsSend f es ps
      → (l js : List ℕ) (r : Report) → cut_at 0 js l ≡ ps → Reports l js f.cl f.sv (Ok r) → AsSent es r
  -- The output of one call, with the ends that it answers, is not refused.
  pub accepted : (f : TcpFlow) (es : List Emit) (o : List ℕ) (r : Result Sent Refusal) (b : List ℕ) (g : Gone) → Sends f es o r b → sent_says r ≡ gives g
      → (q : Result Report ListRefusal) → Reports b g.ends f.cl f.sv q → (x : Report) × (q ≡ Ok x)
