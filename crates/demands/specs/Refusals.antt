-- Demand 1: "A refused call changes no lent byte, no flow and no assembly."
use Rattle.std.specs.Prelude.{◌≡◌, Bool, List, ℕ, Err}
use Rattle.pkt.specs.Answers.{Answer, refused, says}
use Rattle.pkt.specs.declared.refusal.Refusal.{Refusal}
use Rattle.pkt.specs.declared.refusal.ListRefusal.TheVariants.{Whole, At}
use Rattle.ezpkt.specs.Build.{Answered}
use Rattle.ezpkt.specs.Icmp4.{Echoed}
use Rattle.tcp4.specs.Tcp4.{Emit, Sends}
use Rattle.pieces.specs.Fragments.{Fragmented}
use Rattle.ezpkt.specs.declared.build.Request.{Request}
use Rattle.ezpkt.specs.declared.ip4.Template.{Template}
use Rattle.ezpkt.specs.declared.icmp4.IcmpFlow.{IcmpFlow}
use Rattle.tcp4.specs.declared.TcpFlow.{TcpFlow}
use Rattle.pieces.specs.declared.BlockRequest.{BlockRequest}
use Rattle.inspect.specs.declared.header.IpRead.{IpRead}
use Rattle.assembly.specs.declared.Key.{Key}
use Rattle.assembly.specs.declared.Rec.{Rec}
use Rattle.assembly.specs.View.{view}
use Rattle.assembly.specs.Calls.{Opens, Takes, Puts}
use Rattle.table.specs.Table.{table_take, Tables, TakesOut, Discards}
use Rattle.table.specs.declared.Slot.{Slot}
use Rattle.table.specs.declared.After.{After}
use Rattle.assembly.specs.declared.Outcome.{Outcome}
use Rattle.packet.specs.Answers.{MadeNew, Appended, Prepended, CopiedOut}
use Rattle.packet.specs.declared.Packet.{Packet}
use Rattle.planner.specs.Answers.{Plans}
use Rattle.feed.specs.Feed.{Feeds}
use Rattle.feed.specs.declared.Feed.{Feed}
use Rattle.exporting.specs.Export.{Exports}
use Rattle.mending.specs.Mend.{Mends}
use Rattle.pkt.specs.Written.{Wrote}

-- Every call of the library crates that is lent bytes to write, by the contract that it has. e or x is the refusal. It hands no flow
-- and no assembly's record back, because it is nothing but its number: its type alone says that the caller goes on with what it has. A table goes
-- by value and comes back with the answer: after a refusal as it was.
pub record RefusedKeep : Type 0 where
  -- `build`, `fragment`, `tail`, `datagram`, `client_dgram`, `server_dgram`: the output
  pub building : (q : Request) (p o o' : List ℕ) (e : Refusal) → Answered q p o (Err e) o' → o' ≡ o
  -- `echo`, `echo_reply`: the output
  pub echoing : (q : Request) (f : IcmpFlow) (p o o' : List ℕ) (e : Refusal) → Echoed q f p o (Err e) o' → o' ≡ o
  -- the calls of `TcpFlow` that send: the output
  pub sending : (f : TcpFlow) (es : List Emit) (o o' : List ℕ) (e : Refusal) → Sends f es o (Err e) o' → o' ≡ o
  -- `fragments`: the output and the ends, where the whole list is refused by a number,
  pub cutting : (t : Template) (rs : List BlockRequest) (p o e o' e' : List ℕ) (x : Refusal) → Fragmented t rs p o e (Err (Whole x)) o' e'
      → (o' ≡ o) × (e' ≡ e)
  -- and where the number comes with the index i of a request
  pub cutting_at : (t : Template) (rs : List BlockRequest) (p o e o' e' : List ℕ) (x : Refusal) (i : ℕ) → Fragmented t rs p o e (Err (At x i)) o' e'
      → (o' ≡ o) × (e' ≡ e)
  -- `open` of an assembly: both buffers
  pub opening : (C M : ℕ) (k : Key) (d m d' m' : List ℕ) (e : Refusal) → Opens C M k d m (Err e) d' m' → (d' ≡ d) × (m' ≡ m)
  -- `take`: both buffers
  pub taking : (C M : ℕ) (r : Rec) (d m l d' m' : List ℕ) (e : Refusal) → Takes C M (view r d m) l (Err e) d' m' → (d' ≡ d) × (m' ≡ m)
  -- `any::put`: both buffers
  pub putting : (r : Rec) (h : IpRead) (d m b d' m' : List ℕ) (e : Refusal) → Puts (view r d m) h b (Err e) d' m' → (d' ≡ d) × (m' ≡ m)
  -- a table's `take`: the table and both buffers,
  pub tabling : (t : List Slot) (d m l : List ℕ) (r : After Outcome) (d' m' : List ℕ) (n : ℕ) → Tables (table_take t d m l) t d m r d' m'
      → says r.answer ≡ refused n → (r.table ≡ t) × (d' ≡ d) × (m' ≡ m)
  -- `take_out`: the output too,
  pub taking_out : (t : List Slot) (d m : List ℕ) (k : Key) (o : List ℕ) (r : After ℕ) (d' m' o' : List ℕ) (n : ℕ) → TakesOut t d m k o r d' m' o'
      → says r.answer ≡ refused n → (r.table ≡ t) × (d' ≡ d) × (m' ≡ m) × (o' ≡ o)
  -- and `discard`
  pub discarding : (t : List Slot) (d m : List ℕ) (k : Key) (r : After (Unit {0})) (d' m' : List ℕ) (i : ℕ) → Discards t d m k r d' m'
      → says r.answer ≡ refused i → (r.table ≡ t) × (d' ≡ d) × (m' ≡ m)
  -- `Packet::new`: the buffer
  pub making : (h : ℕ) (b b' : List ℕ) (e : Refusal) → MadeNew h b (Err e) b' → b' ≡ b
  -- `push_slice`, `push_bytes`, `push_hdr`, `push`: the buffer
  pub appending : (p : Packet) (k : ℕ) (d b b' : List ℕ) (e : Refusal) → Appended p k d b (Err e) b' → b' ≡ b
  -- `lower_headroom_for`: the buffer
  pub prepending : (p : Packet) (d b b' : List ℕ) (e : Refusal) → Prepended p d b (Err e) b' → b' ≡ b
  -- `to_vec`, `to_vec_from`, `hex_dump`: the output
  pub copying : (ok : Bool) (k : ℕ) (d o o' : List ℕ) (e : Refusal) → CopiedOut ok k d o (Err e) o' → o' ≡ o
  -- `plan`: the list
  pub planning : (n m : ℕ) (l l' : List BlockRequest) (e : Refusal) → Plans n m l (Err e) l' → l' ≡ l
  -- a feed's `frame`: the scratch buffer and the output ("A refused frame uses no identification and writes nothing"; its feed stays the caller's)
  pub feeding : (f : Feed) (b : List ℕ) (sec usec : ℕ) (s o s' o' : List ℕ) (e : Refusal) → Feeds f b sec usec s o (Err e) s' o' → (s' ≡ s) × (o' ≡ o)
  -- `mend`: the second buffer and the list, where the whole capture is refused by a number,
  pub mending : (l o o' : List ℕ) (e e' : List (List ℕ)) (x : Refusal) → Mends l o e (Err (Whole x)) o' e' → (o' ≡ o) × (e' ≡ e)
  -- and where the number comes with that of a record
  pub mending_at : (l o o' : List ℕ) (e e' : List (List ℕ)) (x : Refusal) (k : ℕ) → Mends l o e (Err (At x k)) o' e' → (o' ≡ o) × (e' ≡ e)
  -- `export`: the output, where the whole capture is refused by a number,
  pub exporting : (l o o' : List ℕ) (x : Refusal) → Exports l o (Err (Whole x)) o' → o' ≡ o
  -- and where the number comes with that of a record
  pub exporting_at : (l o o' : List ℕ) (x : Refusal) (k : ℕ) → Exports l o (Err (At x k)) o' → o' ≡ o
  -- `write_header`, `write_record`: the output
  pub capturing : (a : Answer ℕ) (b o o' : List ℕ) (e : Refusal) → Wrote (says {A = ℕ}) a b o (Err e) o' → o' ≡ o
