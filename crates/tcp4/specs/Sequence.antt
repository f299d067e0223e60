-- The sequence numbers of a flow over many calls: document 01, 'Sequence state'.
use Rattle.std.specs.Prelude.{◌≡◌, ℕ, ◌+◌, ◌%◌, ◌<◌, List, [], ◌∷◌, length, Result}
use Rattle.pkt.specs.Answers.{Answer, refused, gives}
use Rattle.pkt.specs.Rfc9293.{RST, ACK}
use Rattle.pkt.specs.declared.refusal.Refusal.{Refusal}
use Rattle.tcp4.specs.Tcp4.{Emit, Gone, emit, consumed, advance, after_one, sent_says, Sends, headed, pushed, popped}
use Rattle.tcp4.specs.declared.TcpFlow.{TcpFlow}
use Rattle.tcp4.specs.declared.Header.{Header}
use Rattle.tcp4.specs.declared.PushedState.{PushedState}
use Rattle.tcp4.specs.declared.Sent.{Sent}
use Rattle.tcp4.specs.declared.Side.{Side}
use Rattle.tcp4.specs.declared.Side.TheVariants.{Client, Server}
use Rattle.tcp4.specs.declared.Seq.{Seq}
use Rattle.tcp4.specs.declared.Seq.TheVariants.{Is, Nothing}

-- the flow that an answer gives, or on a refusal the flow before
abbrev pub flow_by : Answer Gone → TcpFlow → TcpFlow
flow_by (gives g) f = g.flow
flow_by (refused n) f = f

-- a side's number
abbrev pub seq_of : Side → TcpFlow → ℕ
seq_of Client f = f.cl_seq
seq_of Server f = f.sv_seq

-- a number that is set is below 2^32, as every u32 is
abbrev pub Below : Seq → Type 0
Below (Is n) = n < 4294967296
Below Nothing = Unit {0}

-- ---- accepted calls

-- An accepted call on a flow: packets sent, a hole, a header alone with its dlen, numbers set.
pub data Call : Type 0 where
  sends : List Emit → Call
  hole : Side → ℕ → Call
  header : Side → ℕ → Call
  sets : Seq → Seq → Call

-- An accepted call leads from the flow before it to the flow that it answers. These are all the calls of `TcpFlow` that answer one, each by the
-- promise that it makes:
pub data Leads : TcpFlow → Call → TcpFlow → Type 0 where
  -- `open`, the closes, the messages, the data segments, the acknowledgments and the resets,
  sending : (f : TcpFlow) (es : List Emit) (o : List ℕ) (r : Result Sent Refusal) (o' : List ℕ) (g : Gone) → Sends f es o r o' → sent_says r ≡ gives g
      → Leads f (sends es) g.flow
  -- `client_hole`, `server_hole`,
  skipping : (f : TcpFlow) (s : Side) (n : ℕ) (r : TcpFlow) → r ≡ advance s n f → Leads f (hole s n) r
  -- `client_hdr`, `server_hdr`,
  heading : (f : TcpFlow) (s : Side) (dlen csum : ℕ) (r : Header) → r ≡ headed f s dlen csum → Leads f (header s dlen) r.flow
  -- `push_state`,
  pushing : (f : TcpFlow) (c s : Seq) (r : PushedState) → Below c → Below s → r ≡ pushed f c s → Leads f (sets c s) r.flow
  -- `pop_state`.
  popping : (f : TcpFlow) (c s : Seq) (r : TcpFlow) → Below c → Below s → r ≡ popped f c s → Leads f (sets c s) r

-- accepted calls one after the other, each on the flow that the one before it answered
pub data Run : TcpFlow → List Call → TcpFlow → Type 0 where
  none : (f : TcpFlow) → Run f [] f
  next : (f : TcpFlow) (c : Call) (g : TcpFlow) (cs : List Call) (h : TcpFlow) → Leads f c g → Run g cs h → Run f (c ∷ cs) h

-- ---- what is counted

-- What is counted for a side: the number it started from, and what was consumed since then.
pub record Count : Type 0 where
  pub start : ℕ
  pub since : ℕ

abbrev pub add_since : ℕ → Count → Count
add_since n k = record { start = k.start; since = k.since + n }

-- a number n for the side s counts for the side w if they are the same
abbrev pub mine : Side → Side → ℕ → ℕ
mine Client Client n = n
mine Server Server n = n
mine Client Server n = 0
mine Server Client n = 0

-- payload bytes, SYNs and FINs of a side's packets
abbrev pub sent_by : Side → List Emit → ℕ
sent_by w [] = 0
sent_by w (e ∷ es) = mine w e.side (consumed e.flags (length e.body)) + sent_by w es

-- a new start, if there is one
abbrev pub restart : Seq → Count → Count
restart (Is n) k = record { start = n; since = 0 }
restart Nothing k = k

abbrev pub side_of : Side → Seq → Seq → Seq
side_of Client c s = c
side_of Server c s = s

-- the count after a call, and after several
abbrev pub counted : Side → Call → Count → Count
counted w (sends es) k = add_since (sent_by w es) k
counted w (hole s n) k = add_since (mine w s n) k
counted w (header s dlen) k = add_since (mine w s dlen) k
counted w (sets c s) k = restart (side_of w c s) k

abbrev pub counted_all : Side → List Call → Count → Count
counted_all w [] k = k
counted_all w (c ∷ cs) k = counted_all w cs (counted w c k)

-- the count of a new flow, or of one whose number was just set
abbrev pub begun : Side → TcpFlow → Count
begun w f = record { start = seq_of w f; since = 0 }

-- a number is what a count comes to, modulo 2^32
abbrev pub Counts : ℕ → Count → Type 0
Counts n k = n ≡ (k.start + k.since) % 4294967296

-- ---- what holds

-- "After accepted calls a side's number equals its start plus its payload bytes, SYNs, FINs, holes and the `dlen` of its header-only calls since
-- then. The start is the number given at creation or by the last `push_state` or `pop_state` that set that side." A refused call answers no flow.
abbrev pub SequenceLaw : Type 0
SequenceLaw =
    (w : Side) (f : TcpFlow) (cs : List Call) (g : TcpFlow) → seq_of w f < 4294967296 → Run f cs g
    → Counts (seq_of w g) (counted_all w cs (begun w f))

-- a call that sends a packet with these flags and no payload, and is accepted, answers the flow before it
abbrev pub KeepsFlow : ℕ → Type 0
KeepsFlow flags =
    (f : TcpFlow) (s : Side) (o : List ℕ) (r : Result Sent Refusal) (o' : List ℕ) (g : Gone) → seq_of s f < 4294967296 → Sends f (emit s flags 0 [] ∷ []) o r o'
    → sent_says r ≡ gives g → g.flow ≡ f

-- "Acknowledgments and resets consume nothing."
pub record NothingConsumed : Type 0 where
  -- `client_ack`, `server_ack`
  pub acknowledging : KeepsFlow ACK
  -- `client_reset`, `server_reset`
  pub resetting : KeepsFlow RST
  -- the acknowledgment that `open`, the closes and a message send behind other packets
  pub following : (f : TcpFlow) (s : Side) → seq_of s f < 4294967296 → after_one f (emit s ACK 0 []) ≡ f
