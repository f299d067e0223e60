-- What each call of a table answers, and every slot and every lent byte after it.
use Rattle.std.specs.Prelude.{ℕ, cond, ◌≡◌, List, length, set, Option, None, Some}
use Rattle.pkt.specs.Answers.{Answer, refused, gives, and_then, mapped, fitting, says}
use Rattle.pkt.specs.Written.{written, zeros}
use Rattle.inspect.specs.Header.{read_answer, data_of}
use Rattle.inspect.specs.declared.header.IpRead.{IpRead}
use Rattle.assembly.specs.declared.Key.{Key}
use Rattle.assembly.specs.Assembly.{State, opened, step, outcome, complete, held_bytes}
use Rattle.assembly.specs.Piece.{Piece}
use Rattle.assembly.specs.Carried.{key_of, fit_answer}
use Rattle.assembly.specs.View.{piece}
use Rattle.table.specs.declared.Slot.{Slot}
use Rattle.table.specs.declared.After.{After}
use Rattle.assembly.specs.declared.Outcome.{Outcome}
use Rattle.table.specs.Slots.{slot_bytes, slot_map, with_part, free_slot, slot_of, state_at, key_from, free_from, table_fits}

-- ---- taking a piece

-- a slot, and the assembly that it is to have
pub record Placing : Type 0 where
  pub slot : ℕ
  pub state : State

abbrev pub placing : ℕ → State → Placing
placing i s = record { slot = i; state = s }

-- "or else opens the lowest-numbered free one, zeroed": 19 "exactly if the key is absent and all eight slots are occupied"
abbrev pub opened_at : Key → Option ℕ → Answer Placing
opened_at k (Some i) = gives (placing i (opened k slot_bytes slot_map))
opened_at k None = refused 19

-- "A piece goes to the lowest-numbered slot with its key, or else opens the lowest-numbered free one"
abbrev pub placed_at : List Slot → List ℕ → List ℕ → Key → Option ℕ → Answer Placing
placed_at t d m k (Some i) = gives (placing i (state_at t d m i))
placed_at t d m k None = opened_at k (free_from 0 t)

abbrev pub place_for : List Slot → List ℕ → List ℕ → Key → Answer Placing
place_for t d m k = placed_at t d m k (key_from 0 k t)

-- .. and the step on what is there
abbrev pub stepped_by : Piece → Placing → Placing
stepped_by p x = placing x.slot (step x.state p)

-- "9, number 20 if the end is above 8,192 .., then 19", or the step by the piece with the header h and the data b
unfoldable pub piece_for : List Slot → List ℕ → List ℕ → IpRead → List ℕ → Answer Placing
piece_for t d m h b =
    and_then (fit_answer slot_bytes 20 (length b) h) (λ g. mapped (stepped_by (piece h.off h.mf b)) (place_for t d m (key_of h)))

-- .. behind "11, 4, 5, 6, 4, 7", for the packet l
unfoldable pub table_take : List Slot → List ℕ → List ℕ → List ℕ → Answer Placing
table_take t d m l = cond (table_fits t (length d) (length m)) (and_then (read_answer l) (λ h. piece_for t d m h (data_of h l))) (refused 11)

-- the slots and the buffers after such an answer
abbrev pub slots_after : Answer Placing → List Slot → List Slot
slots_after (gives x) t = set t x.slot (slot_of x.state)
slots_after (refused n) t = t

abbrev pub payloads_after : Answer Placing → List ℕ → List ℕ
payloads_after (gives x) d = with_part slot_bytes x.slot x.state.payload d
payloads_after (refused n) d = d

abbrev pub maps_after : Answer Placing → List ℕ → List ℕ
maps_after (gives x) m = with_part slot_map x.slot x.state.map m
maps_after (refused n) m = m

-- t, d and m are the slots and the buffers before, d' and m' the buffers after
pub record Tables (a : Answer Placing) (t : List Slot) (d m : List ℕ) (r : After Outcome) (d' m' : List ℕ) : Type 0 where
  pub answer : says r.answer ≡ mapped (λ x. outcome x.state) a
  pub slots_are : r.table ≡ slots_after a t
  pub payloads_are : d' ≡ payloads_after a d
  pub maps_are : m' ≡ maps_after a m

-- ---- taking out and discarding

-- 27: "if the key is absent"
abbrev pub held_for : Option ℕ → Answer ℕ
held_for (Some i) = gives i
held_for None = refused 27

-- "for discarding, 11, 27 if the key is absent": the slot
unfoldable pub discard_answer : List Slot → ℕ → ℕ → Key → Answer ℕ
discard_answer t d m k = cond (table_fits t d m) (held_for (key_from 0 k t)) (refused 11)

-- "zeroes its slot, and that slot is used again": the slots and a buffer without slot i
abbrev pub slots_without : Answer ℕ → List Slot → List Slot
slots_without (gives i) t = set t i free_slot
slots_without (refused n) t = t

abbrev pub part_without : ℕ → Answer ℕ → List ℕ → List ℕ
part_without n (gives i) l = with_part n i (zeros n) l
part_without n (refused x) l = l

pub record Discards (t : List Slot) (d m : List ℕ) (k : Key) (r : After (Unit {0})) (d' m' : List ℕ) : Type 0 where
  pub answer : says r.answer ≡ mapped (λ i. tt {0}) (discard_answer t (length d) (length m) k)
  pub slots_are : r.table ≡ slots_without (discard_answer t (length d) (length m) k) t
  pub payloads_are : d' ≡ part_without slot_bytes (discard_answer t (length d) (length m) k) d
  pub maps_are : m' ≡ part_without slot_map (discard_answer t (length d) (length m) k) m

-- a slot, and the datagram that is taken out of it
pub record Outing : Type 0 where
  pub slot : ℕ
  pub datagram : List ℕ

abbrev pub outing : State → ℕ → Outing
outing s i = record { slot = i; datagram = held_bytes s }

-- 27 "if the key has no complete assembly", then 3: the state s of slot i, and room for so many bytes
abbrev pub out_of : State → ℕ → ℕ → Answer Outing
out_of s i room = cond (complete s) (mapped (λ n. outing s i) (fitting (length (held_bytes s)) room)) (refused 27)

-- "for taking, 11, 27 .., 3"
unfoldable pub out_answer : List Slot → List ℕ → List ℕ → Key → ℕ → Answer Outing
out_answer t d m k room =
    cond (table_fits t (length d) (length m)) (and_then (held_for (key_from 0 k t)) (λ i. out_of (state_at t d m i) i room)) (refused 11)

abbrev pub slot_in : Answer Outing → Answer ℕ
slot_in a = mapped (λ x. x.slot) a

-- the output o after it
abbrev pub datagram_in : Answer Outing → List ℕ → List ℕ
datagram_in (gives x) o = written x.datagram o
datagram_in (refused n) o = o

-- o is the output before, o' after
pub record TakesOut (t : List Slot) (d m : List ℕ) (k : Key) (o : List ℕ) (r : After ℕ) (d' m' o' : List ℕ) : Type 0 where
  pub answer : says r.answer ≡ mapped (λ x. length x.datagram) (out_answer t d m k (length o))
  pub slots_are : r.table ≡ slots_without (slot_in (out_answer t d m k (length o))) t
  pub payloads_are : d' ≡ part_without slot_bytes (slot_in (out_answer t d m k (length o))) d
  pub maps_are : m' ≡ part_without slot_map (slot_in (out_answer t d m k (length o))) m
  pub output_is : o' ≡ datagram_in (out_answer t d m k (length o)) o
