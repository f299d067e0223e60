-- Demand 3 over the calls for C: `wb_assembly_open`, and `wb_assembly_take` for each packet.
use Rattle.std.specs.Prelude.{◌≡◌, ◌↔◌, true, List, [], ◌∷◌, ◌++◌, ℕ}
use Rattle.assembly.specs.declared.Key.{Key}
use Rattle.assembly.specs.declared.Rec.{Rec}
use Rattle.assembly.specs.Calls.{capacity}
use Rattle.assembly.specs.Packets.{SamePieces, TwoContradict}
use Rattle.demands.specs.Handing.{Handed}
use Rattle.wispbundle.specs.Answers.{rec_of, assembly_for}
use Rattle.wispbundle.specs.Calls.{AssemblyOpens, AssemblyTakes}
use Rattle.wispbundle.specs.declared.assembling.wb_assembly.{wb_assembly}
use Rattle.wispbundle.specs.declared.assembling.wb_opened.{wb_opened}
use Rattle.wispbundle.specs.declared.assembling.wb_taken.{wb_taken}

-- An assembly and its buffers after `wb_assembly_open` for k answered the status 0 and the packets ls were handed in, by one call of
-- `wb_assembly_take` after the other. Each is given the assembly that the one before answered, refused or not.
pub data HandedByC (k : Key) : List (List ℕ) → wb_assembly → List ℕ → List ℕ → Type 0 where
  by_open : (d m d' m' : List ℕ) (r : wb_opened) → AssemblyOpens k d m r d' m' → r.status ≡ 0 → HandedByC k [] r.assembly d' m'
  by_take : (ls : List (List ℕ)) (l d m d' m' : List ℕ) (a : wb_assembly) (r : wb_taken) → HandedByC k ls a d m
      → AssemblyTakes a d m l r d' m' → HandedByC k (ls ++ (l ∷ [])) r.assembly d' m'

pub record InAnyOrderByC (k : Key) : Type 0 where
  -- A record goes to C and back unchanged.
  pub to_and_back : (r : Rec) → rec_of (assembly_for r) ≡ r
  -- What C has after its calls is what the calls of `open` and `take` leave, so that what is proved of these holds for C,
  pub as_handed : (ls : List (List ℕ)) (a : wb_assembly) (d m : List ℕ) → HandedByC k ls a d m → Handed k ls (rec_of a) d m
  -- and is that record as C is told it.
  pub as_told : (ls : List (List ℕ)) (a : wb_assembly) (d m : List ℕ) → HandedByC k ls a d m → assembly_for (rec_of a) ≡ a
  -- "Start from a newly opened assembly. The same accepted pieces, in any order and with any repeats, end in the same state,
  pub one_end : (ls ms : List (List ℕ)) (a b : wb_assembly) (d m d' m' : List ℕ) → HandedByC k ls a d m → HandedByC k ms b d' m'
      → SamePieces capacity k ls ms → (a ≡ b) × (d ≡ d') × (m ≡ m')
  -- spoilt exactly when two of them contradict each other by document 01."
  pub spoilt_when : (ls : List (List ℕ)) (a : wb_assembly) (d m : List ℕ) → HandedByC k ls a d m → (a.spoilt ≡ true) ↔ TwoContradict capacity k ls
