-- Demand 3 over the calls of an assembly: `open`, and `take` for each packet.
use Rattle.std.specs.Prelude.{◌≡◌, ◌↔◌, true, ℕ, Result, Ok}
use mathlib.Core.List.{List, [], ◌∷◌, ◌++◌, Memᴰ}
use Rattle.assembly.specs.declared.Key.{Key}
use Rattle.assembly.specs.declared.Rec.{Rec}
use Rattle.pkt.specs.Answers.{says}
use Rattle.pkt.specs.declared.refusal.Refusal.{Refusal}
use Rattle.assembly.specs.declared.Taken.{Taken}
use Rattle.assembly.specs.View.{view}
use Rattle.assembly.specs.Answers.{rec_after}
use Rattle.assembly.specs.Calls.{capacity, map_bytes, Opens, Takes}
use Rattle.assembly.specs.Packets.{SamePieces, TwoContradict}

-- An assembly's record and buffers after it was opened for k and the packets ls were handed in, one call of `take` after the other. A call
-- that is refused hands no record back, and the caller goes on with its own.
pub data Handed (k : Key) : List (List ℕ) → Rec → List ℕ → List ℕ → Type 0 where
  by_open : (d m d' m' : List ℕ) (r : Rec) → Opens capacity map_bytes k d m (Ok r) d' m' → Handed k [] r d' m'
  by_take : (ls : List (List ℕ)) (l d m d' m' : List ℕ) (r : Rec) (a : Result Taken Refusal) → Handed k ls r d m → Takes capacity map_bytes (view r d m) l a d' m'
      → Handed k (ls ++ (l ∷ [])) (rec_after (says a) r) d' m'

-- The packets ls are among ps, or are ps in any order and with any repeats.
abbrev pub DrawnFrom : List (List ℕ) → List (List ℕ) → Type 0
DrawnFrom ps ls = (p : List ℕ) → Memᴰ p ls → Memᴰ p ps

abbrev pub Reordered : List (List ℕ) → List (List ℕ) → Type 0
Reordered ps ls = DrawnFrom ps ls × DrawnFrom ls ps

pub record InAnyOrder (k : Key) : Type 0 where
  -- "Start from a newly opened assembly. The same accepted pieces, in any order and with any repeats, end in the same state": the record
  -- and every byte of both buffers,
  pub one_end : (ls ms : List (List ℕ)) (r s : Rec) (d m d' m' : List ℕ) → Handed k ls r d m → Handed k ms s d' m' → SamePieces capacity k ls ms
      → (r ≡ s) × (d ≡ d') × (m ≡ m')
  -- "spoilt exactly when two of them contradict each other by document 01."
  pub spoilt_when : (ls : List (List ℕ)) (r : Rec) (d m : List ℕ) → Handed k ls r d m → (r.spoilt ≡ true) ↔ TwoContradict capacity k ls
