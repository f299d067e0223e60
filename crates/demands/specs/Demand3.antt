-- Demand 3, over the promises of the calls: `open` and `take` of an assembly, `progress`, and `fragment`, `tail` and `datagram`, which cut.
use Rattle.std.specs.Prelude.{◌≡◌, ◌↔◌, true, false, List, ℕ, ◌≤◌, ◌<◌, length, take, Result, Ok}
use Rattle.pkt.specs.Answers.{gives, says}
use Rattle.pkt.specs.declared.refusal.Refusal.{Refusal}
use Rattle.ezpkt.specs.declared.ip4.Template.{Template}
use Rattle.assembly.specs.declared.Key.{Key}
use Rattle.assembly.specs.declared.Rec.{Rec}
use Rattle.assembly.specs.declared.Taken.{Taken}
use Rattle.assembly.specs.declared.step.Progress.{Progress}
use Rattle.assembly.specs.declared.step.Progress.TheVariants.{Complete}
use Rattle.assembly.specs.View.{view}
use Rattle.assembly.specs.Answers.{progress_says}
use Rattle.assembly.specs.Calls.{capacity, map_bytes, Takes, progress_answer}
use Rattle.assembly.specs.Packets.{SamePieces, TwoContradict}
use Rattle.demands.specs.Ranges.{Fitting}
use Rattle.demands.specs.Handing.{Handed}
use Rattle.demands.specs.Assembling.{template_key, Cover}
use Rattle.demands.specs.Cutting.{CutBy, AllCut}

-- "one header": the template's numbers fit their types, as every value of the source does. Document 02, T-06: "Demand 3's second half needs a
-- template with that bit clear", the reserved one.
pub record OneHeader (t : Template) : Type 0 where
  pub fits : Fitting t
  pub clear : t.evil ≡ false

-- Pieces of the payload p under t, the packets ls, were handed in, and r, d and m are the record and the buffers after them.
pub record FromOne (t : Template) (p : List ℕ) (ls : List (List ℕ)) (r : Rec) (d m : List ℕ) : Type 0 where
  -- "all are accepted": a call that hands in one more is not refused,
  pub accepted : (l : List ℕ) (off len : ℕ) → CutBy t p l off len → (a : Result Taken Refusal) (d' m' : List ℕ) → Takes capacity map_bytes (view r d m) l a d' m'
      → (x : Taken) × (says a ≡ gives x)
  -- "and the state is never spoilt."
  pub never_spoilt : r.spoilt ≡ false
  -- "It is complete exactly when at least one was handed in and together they cover the payload,": so answers `progress`,
  pub complete_when : (a : Result Progress Refusal) → progress_says a ≡ progress_answer capacity map_bytes (view r d m)
      → ((n : ℕ) × (a ≡ Ok (Complete n))) ↔ ((0 < length ls) × Cover t p ls)
  -- "and it then holds that payload.": its length is answered, and it stands at the start of the payload buffer.
  pub holds : (n : ℕ) → progress_says (Ok (Complete n)) ≡ progress_answer capacity map_bytes (view r d m) → (n ≡ length p) × (take n d ≡ p)

pub record Demand3 : Type 0 where
  -- "Start from a newly opened assembly. The same accepted pieces, in any order and with any repeats, end in the same state,
  pub one_end : (k : Key) (ls ms : List (List ℕ)) (r s : Rec) (d m d' m' : List ℕ) → Handed k ls r d m → Handed k ms s d' m' → SamePieces capacity k ls ms
      → (r ≡ s) × (d ≡ d') × (m ≡ m')
  -- spoilt exactly when two of them contradict each other by document 01.
  pub spoilt_when : (k : Key) (ls : List (List ℕ)) (r : Rec) (d m : List ℕ) → Handed k ls r d m → (r.spoilt ≡ true) ↔ TwoContradict capacity k ls
  -- If all were built from one payload of at most 65,515 bytes under one header with the assembly's key, none asked for past its end, .."
  pub from_one : (t : Template) (p : List ℕ) → OneHeader t → length p ≤ capacity
      → (ls : List (List ℕ)) (r : Rec) (d m : List ℕ) → AllCut t p ls → Handed (template_key t) ls r d m → FromOne t p ls r d m
