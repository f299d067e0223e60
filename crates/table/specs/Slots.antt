-- Document 02, T-03: "Keep a table of eight assemblies, each with 8,192 payload bytes and a 128-byte map in lent buffers."
use Rattle.std.specs.Prelude.{◌≡◌, ℕ, suc, ◌*◌, ◌<◌, Bool, true, false, not, ◌&&◌, cond, List, [], ◌∷◌, ◌++◌, take, drop, get_or, eqb, Option, None, Some, is_some}
use Rattle.assembly.specs.declared.Key.{Key}
use Rattle.assembly.specs.Assembly.{State, record_fits}
use Rattle.assembly.specs.Carried.{same_key}
use Rattle.assembly.specs.View.{view, record_of}
use Rattle.table.specs.declared.Slot.{Slot}

-- "eight", "8,192" and "128"
abbrev pub slots : ℕ
slots = 8

abbrev pub slot_bytes : ℕ
slot_bytes = 8192

abbrev pub slot_map : ℕ
slot_map = 128

-- the part of slot i in a buffer that has n bytes for each, and the buffer with another part there
unfoldable pub part_of : ℕ → ℕ → List ℕ → List ℕ
part_of n i l = take n (drop (n * i) l)

unfoldable pub with_part : ℕ → ℕ → List ℕ → List ℕ → List ℕ
with_part n i p l = take (n * i) l ++ (p ++ drop n (drop (n * i) l))

-- a slot that is free: "zeroes its slot"
abbrev pub no_key : Key
no_key = record { saddr = 0; daddr = 0; id = 0; protocol = 0 }

abbrev pub free_slot : Slot
free_slot = record { used = false; rec = record { key = no_key; total = None; floor = 0; spoilt = false } }

-- an occupied slot with the record of a state
abbrev pub slot_of : State → Slot
slot_of s = record { used = true; rec = record_of s }

-- slot i with its part of each buffer
abbrev pub state_at : List Slot → List ℕ → List ℕ → ℕ → State
state_at t d m i = view (get_or t i free_slot).rec (part_of slot_bytes i d) (part_of slot_map i m)

-- "A free slot has no key, whatever its bytes."
unfoldable pub holds_key : Key → Slot → Bool
holds_key k s = s.used && same_key s.rec.key k

-- the lowest-numbered slot with the key, and the lowest-numbered free one; the first slot of the list has the number i
unfoldable pub key_from : ℕ → Key → List Slot → Option ℕ
key_from i k [] = None
key_from i k (s ∷ ss) = cond (holds_key k s) (Some i) (key_from (suc i) k ss)

unfoldable pub free_from : ℕ → List Slot → Option ℕ
free_from i [] = None
free_from i (s ∷ ss) = cond s.used (free_from (suc i) ss) (Some i)

-- "a total above 8,192, a floor above 8,193", of an occupied slot
unfoldable pub slot_fits : Slot → Bool
slot_fits s = cond s.used (record_fits slot_bytes s.rec.total s.rec.floor) true

unfoldable pub all_fit : List Slot → Bool
all_fit [] = true
all_fit (s ∷ ss) = cond (slot_fits s) (all_fit ss) false

-- whether a slot that is occupied has a key that one of the slots ss has, too
unfoldable pub key_again : Slot → List Slot → Bool
key_again s ss = cond s.used (is_some (key_from 0 s.rec.key ss)) false

-- "one key in two occupied slots"
unfoldable pub key_twice : List Slot → Bool
key_twice [] = false
key_twice (s ∷ ss) = cond (key_again s ss) true (key_twice ss)

-- 11 is not given: "for wrong buffer sizes, a total above 8,192, a floor above 8,193 or one key in two occupied slots"; d and m are the sizes
unfoldable pub table_fits : List Slot → ℕ → ℕ → Bool
table_fits t d m = (eqb d (slot_bytes * slots) && eqb m (slot_map * slots)) && (all_fit t && not (key_twice t))

-- what is known of a slot's number and the buffers' sizes once 11 is not given
pub record Sized (i d m : ℕ) : Type 0 where
  pub one : i < slots
  pub payloads : d ≡ slot_bytes * slots
  pub maps : m ≡ slot_map * slots
