-- Document 02, T-03: "demand 3 then holds for each key whose pieces end within 8,192", over the calls of a table.
use Rattle.std.specs.Prelude.{◌≡◌, ◌↔◌, false, ℕ, ◌≤◌, length, Some}
use mathlib.Core.List.{List, [], ◌∷◌, ◌++◌, Memᴰ}
use Rattle.pkt.specs.Answers.{gives, says}
use Rattle.pkt.specs.Written.{written}
use Rattle.ezpkt.specs.declared.ip4.Template.{Template}
use Rattle.assembly.specs.Assembly.{State}
use Rattle.assembly.specs.declared.Outcome.{Outcome}
use Rattle.table.specs.declared.Slot.{Slot}
use Rattle.table.specs.declared.After.{After}
use Rattle.table.specs.Slots.{slot_bytes}
use Rattle.table.specs.Table.{table_take, Tables, TakesOut}
use Rattle.table.specs.Mixed.{Keyed, keyed_in, AtMostEight, HandedTo, assembly_of, Carried}
use Rattle.demands.specs.Assembling.{template_key, Cover}
use Rattle.demands.specs.Cutting.{CutBy}
use Rattle.demands.specs.Demand3.{OneHeader}

-- Those of the packets ls that carry a piece of the template's key "were built from one payload .. under one header .., none asked for past its end";
-- the others may be anything.
abbrev pub OwnCut : Template → List ℕ → List (List ℕ) → Type 0
OwnCut t p ls = (l : List ℕ) (x : Keyed) → Memᴰ l ls → keyed_in l ≡ gives x → x.key ≡ template_key t → (off : ℕ) × (len : ℕ) × CutBy t p l off len

-- The packets ls were handed to an empty table, and s, d and m are the slots and the buffers after them.
pub record TableFromOne (t : Template) (p : List ℕ) (ls : List (List ℕ)) (s : List Slot) (d m : List ℕ) : Type 0 where
  -- "all are accepted": a call that hands in one more is not refused,
  pub accepted : (l : List ℕ) (off len : ℕ) → CutBy t p l off len → AtMostEight (ls ++ (l ∷ [])) → (a : After Outcome) (d' m' : List ℕ)
      → Tables (table_take s d m l) s d m a d' m' → (x : Outcome) × (says a.answer ≡ gives x)
  -- "and the state is never spoilt."
  pub never_spoilt : (u : State) → assembly_of s d m (template_key t) ≡ Some u → u.spoilt ≡ false
  -- "It is complete exactly when at least one was handed in and together they cover the payload,": so answers `take_out` where there is room,
  pub complete_when : (o : List ℕ) (a : After ℕ) (d' m' o' : List ℕ) → length p ≤ length o → TakesOut s d m (template_key t) o a d' m' o'
      → ((n : ℕ) × (says a.answer ≡ gives n)) ↔ (Carried (template_key t) ls × Cover t p ls)
  -- "and it then holds that payload.": its length is answered, and it stands at the start of the output.
  pub holds : (o : List ℕ) (a : After ℕ) (d' m' o' : List ℕ) (n : ℕ) → TakesOut s d m (template_key t) o a d' m' o' → says a.answer ≡ gives n
      → (n ≡ length p) × (o' ≡ written p o)

pub record TableDemand3 : Type 0 where
  -- "For pieces only, from an empty table and with at most eight keys among them"
  pub from_one : (t : Template) (p : List ℕ) → OneHeader t → length p ≤ slot_bytes → (ls : List (List ℕ)) (s : List Slot) (d m : List ℕ) → HandedTo ls s d m
      → AtMostEight ls → OwnCut t p ls → TableFromOne t p ls s d m
