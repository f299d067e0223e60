-- Document 02, T-03: "Pieces of several cars arrive mixed." Pieces handed to an empty table, one call after the other.
use Rattle.std.specs.Prelude.{◌≡◌, ◌↔◌, true, cond, ℕ, ◌*◌, ◌≤◌, length, replicate, Option, None, Some}
use mathlib.Core.List.{List, [], ◌∷◌, ◌++◌, Memᴰ}
use Rattle.pkt.specs.Answers.{Answer, refused, gives, and_then, mapped}
use Rattle.inspect.specs.Header.{read_answer, data_of}
use Rattle.assembly.specs.declared.Key.{Key}
use Rattle.assembly.specs.Assembly.{State, opened, run}
use Rattle.assembly.specs.Piece.{Piece, Contradictory, Same}
use Rattle.assembly.specs.Carried.{key_of, same_key, fit_answer, piece_of}
use Rattle.table.specs.declared.Slot.{Slot}
use Rattle.table.specs.declared.After.{After}
use Rattle.assembly.specs.declared.Outcome.{Outcome}
use Rattle.table.specs.Slots.{slots, slot_bytes, slot_map, free_slot, state_at, key_from}
use Rattle.table.specs.Table.{table_take, Tables}

-- a piece, and the key that it has
pub record Keyed : Type 0 where
  pub key : Key
  pub piece : Piece

-- the piece that the packet l carries, whatever the table holds; or the number that refuses it: 4, 5, 6, 7, 9 or 20
unfoldable pub keyed_in : List ℕ → Answer Keyed
keyed_in l =
    and_then (read_answer l)
    (λ h. mapped (λ g. record { key = key_of h; piece = piece_of l h }) (fit_answer slot_bytes 20 (length (data_of h l)) h))

-- those of the key k that packets carry, in their order
abbrev pub own_of : Key → Answer Keyed → List Piece → List Piece
own_of k (gives x) ps = cond (same_key x.key k) (x.piece ∷ ps) ps
own_of k (refused n) ps = ps

unfoldable pub pieces_of : Key → List (List ℕ) → List Piece
pieces_of k [] = []
pieces_of k (l ∷ ls) = own_of k (keyed_in l) (pieces_of k ls)

-- "with at most eight keys among them"
pub record AtMostEight (ls : List (List ℕ)) : Type 0 where
  pub keys : List Key
  pub few : length keys ≤ slots
  pub all : (l : List ℕ) (x : Keyed) → Memᴰ l ls → keyed_in l ≡ gives x → Memᴰ x.key keys

-- "for pieces only, from an empty table": the packets ls were handed to it, and t, d and m are the slots and the buffers after
pub data HandedTo : List (List ℕ) → List Slot → List ℕ → List ℕ → Type 0 where
  empty : (d m : List ℕ) → length d ≡ slot_bytes * slots → length m ≡ slot_map * slots → HandedTo [] (replicate slots free_slot) d m
  more : (ls : List (List ℕ)) (t : List Slot) (d m l : List ℕ) (r : After Outcome) (d' m' : List ℕ) → HandedTo ls t d m
      → Tables (table_take t d m l) t d m r d' m' → HandedTo (ls ++ (l ∷ [])) r.table d' m'

-- the assembly of a key, in whichever slot it is; none where no slot has it
abbrev pub assembly_at : List Slot → List ℕ → List ℕ → Option ℕ → Option State
assembly_at t d m (Some i) = Some (state_at t d m i)
assembly_at t d m None = None

abbrev pub assembly_of : List Slot → List ℕ → List ℕ → Key → Option State
assembly_of t d m k = assembly_at t d m (key_from 0 k t)

-- the assembly that pieces of the key k alone lead to; none where there is no piece
abbrev pub led_to : Key → List Piece → Option State
led_to k [] = None
led_to k (p ∷ ps) = Some (run (opened k slot_bytes slot_map) (p ∷ ps))

-- one of the packets ls carries a piece of the key k
pub record Carried (k : Key) (ls : List (List ℕ)) : Type 0 where
  pub packet : List ℕ
  pub told : Keyed
  pub within : Memᴰ packet ls
  pub carries : keyed_in packet ≡ gives told
  pub key_is : told.key ≡ k

pub record Mixes : Type 0 where
  -- Each key's assembly is the one that its own pieces alone lead to,
  pub own_pieces : (ls : List (List ℕ)) (t : List Slot) (d m : List ℕ) → HandedTo ls t d m → AtMostEight ls → (k : Key)
      → assembly_of t d m k ≡ led_to k (pieces_of k ls)
  -- so "every order ends with the same assembly for each key, though slots may differ",
  pub one_end : (ls ms : List (List ℕ)) (t u : List Slot) (d m d' m' : List ℕ) → HandedTo ls t d m → HandedTo ms u d' m' → AtMostEight ls → AtMostEight ms
      → (k : Key) → Same (pieces_of k ls) (pieces_of k ms) → assembly_of t d m k ≡ assembly_of u d' m' k
  -- and "demand 3 then holds for each key": spoilt exactly when two of its pieces contradict each other. (The rest of demand 3 is about pieces
  -- that are built from one payload: demands.specs.Tabled.)
  pub spoilt_when : (ls : List (List ℕ)) (t : List Slot) (d m : List ℕ) → HandedTo ls t d m → AtMostEight ls → (k : Key) (s : State)
      → assembly_of t d m k ≡ Some s → (s.spoilt ≡ true) ↔ Contradictory (pieces_of k ls)
