-- What the calls' steps ask and leave; inner contracts alone cite it.
use Rattle.std.specs.Prelude.{ℕ, ◌<◌, true, cond, ◌≡◌, List, length, set, take, get_or, Result, Ok}
use Rattle.pkt.specs.Answers.{Answer, refused, gives, and_then, mapped, says}
use Rattle.pkt.specs.Written.{written}
use Rattle.pkt.specs.declared.refusal.Refusal.{Refusal}
use Rattle.inspect.specs.Header.{read_answer, data_of}
use Rattle.inspect.specs.declared.header.IpRead.{IpRead}
use Rattle.assembly.specs.declared.Rec.{Rec}
use Rattle.assembly.specs.Answers.{reply_of}
use Rattle.assembly.specs.Assembly.{State, record_fits, complete, held_bytes}
use Rattle.assembly.specs.Carried.{fit_answer}
use Rattle.table.specs.declared.Slot.{Slot}
use Rattle.table.specs.declared.Landing.{Landing}
use Rattle.table.specs.declared.After.{After}
use Rattle.assembly.specs.declared.Outcome.{Outcome}
use Rattle.table.specs.Slots.{slots, slot_bytes, slot_map, part_of, free_slot, state_at, table_fits, Sized}
use Rattle.table.specs.Table.{Placing, piece_for, payloads_after, maps_after, out_of, slot_in, slots_without, part_without, datagram_in}

-- a piece went to a slot: its new record is kept there, and the answer that goes with it is given
pub record Stored (t : List Slot) (x : Landing) (r : After Outcome) : Type 0 where
  pub answer : r.answer ≡ Ok x.taken.answer
  pub slots_are : r.table ≡ set t x.slot (record { used = true; rec = x.taken.rec })

-- where a piece goes, and what the assembly there answers
abbrev pub landed_of : Placing → Landing
landed_of x = record { slot = x.slot; taken = reply_of x.state }

-- .. of the packet l, where 11 is not given
abbrev pub landing_of : List Slot → List ℕ → List ℕ → List ℕ → Answer Placing
landing_of t d m l = and_then (read_answer l) (λ h. piece_for t d m h (data_of h l))

-- d and m are the buffers before, d' and m' after; the slots are not yet changed
pub record Lands (a : Answer Placing) (d m : List ℕ) (x : Result Landing Refusal) (d' m' : List ℕ) : Type 0 where
  pub below : (y : Landing) → x ≡ Ok y → y.slot < slots
  pub answer : says x ≡ mapped landed_of a
  pub payloads_are : d' ≡ payloads_after a d
  pub maps_are : m' ≡ maps_after a m

-- n bytes of data fit a slot behind their header
abbrev pub FitsSlot : IpRead → ℕ → Type 0
FitsSlot h n = fit_answer slot_bytes 20 n h ≡ gives h

pub record PutAsks (r : Rec) (i : ℕ) (h : IpRead) (n d m : ℕ) : Type 0 where
  pub sized : Sized i d m
  pub fits : record_fits slot_bytes r.total r.floor ≡ true
  pub has_room : FitsSlot h n

pub record Fitting (t : List Slot) (h : IpRead) (n d m : ℕ) : Type 0 where
  pub usable : table_fits t d m ≡ true
  pub has_room : FitsSlot h n

-- slot i is occupied, and the table usable
pub record Occupied (t : List Slot) (i d m : ℕ) : Type 0 where
  pub usable : table_fits t d m ≡ true
  pub sized : Sized i d m
  pub used : (get_or t i free_slot).used ≡ true

-- the length of a complete datagram, or 27
abbrev pub length_in : State → Answer ℕ
length_in s = cond (complete s) (gives (length (held_bytes s))) (refused 27)

pub record MovedOut (t : List Slot) (i n : ℕ) (d m o : List ℕ) (r : After ℕ) (d' m' o' : List ℕ) : Type 0 where
  pub answer : says r.answer ≡ gives n
  pub slots_are : r.table ≡ slots_without (gives i) t
  pub payloads_are : d' ≡ part_without slot_bytes (gives i) d
  pub maps_are : m' ≡ part_without slot_map (gives i) m
  pub output_is : o' ≡ written (take n (part_of slot_bytes i d)) o

pub record OutOf (t : List Slot) (i : ℕ) (d m o : List ℕ) (r : After ℕ) (d' m' o' : List ℕ) : Type 0 where
  pub answer : says r.answer ≡ mapped (λ x. length x.datagram) (out_of (state_at t d m i) i (length o))
  pub slots_are : r.table ≡ slots_without (slot_in (out_of (state_at t d m i) i (length o))) t
  pub payloads_are : d' ≡ part_without slot_bytes (slot_in (out_of (state_at t d m i) i (length o))) d
  pub maps_are : m' ≡ part_without slot_map (slot_in (out_of (state_at t d m i) i (length o))) m
  pub output_is : o' ≡ datagram_in (out_of (state_at t d m i) i (length o)) o
