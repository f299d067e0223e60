-- What the answers of an assembly's calls say, in document 01's terms.
use Rattle.std.specs.Prelude.{◌≡◌, ℕ, List, length, Result, Ok, Err}
use Rattle.pkt.specs.Answers.{Answer, refused, gives, mapped, says}
use Rattle.pkt.specs.declared.refusal.Refusal.{Refusal}
use Rattle.pkt.specs.declared.refusal.Refusal.TheVariants as refusal
use Rattle.inspect.specs.declared.header.IpRead.{IpRead}
use Rattle.assembly.specs.declared.Rec.{Rec}
use Rattle.assembly.specs.declared.Outcome.{Outcome}
use Rattle.assembly.specs.declared.Outcome.TheVariants as way
use Rattle.assembly.specs.declared.Taken.{Taken}
use Rattle.assembly.specs.declared.carried.Misfit.{Misfit}
use Rattle.assembly.specs.declared.carried.Misfit.TheVariants.{NotBlocks, TooFar}
use Rattle.assembly.specs.declared.step.Progress.{Progress}
use Rattle.assembly.specs.declared.step.Progress.TheVariants as progress
use Rattle.assembly.specs.Piece.{Piece}
use Rattle.assembly.specs.Assembly.{State, outcome, step, held_bytes}
use Rattle.assembly.specs.View.{record_of}

-- whether a piece has a place: its header, or 9, or the number `far` where its end is above
abbrev pub fit_says : ℕ → Result IpRead Misfit → Answer IpRead
fit_says far (Ok h) = gives h
fit_says far (Err NotBlocks) = refused 9
fit_says far (Err TooFar) = refused far

-- .. 10 where it is to be within an assembly's payload buffer
abbrev pub refusal_of : Misfit → Refusal
refusal_of NotBlocks = refusal.NotBlocks
refusal_of TooFar = refusal.TooFar

-- "Each accepted call answers waiting, complete or spoilt", with the record
abbrev pub reply : Outcome → Rec → Taken
reply o r = record { answer = o; rec = r }

abbrev pub reply_of : State → Taken
reply_of s = reply (outcome s) (record_of s)

-- what an answer leaves of a state, of the record that the caller has, of a payload buffer and of a map: "A refused call changes no lent
-- byte, no flow and no assembly." (demand 1)
abbrev pub state_after : Answer State → State → State
state_after (gives t) s = t
state_after (refused n) s = s

abbrev pub rec_after : Answer Taken → Rec → Rec
rec_after (gives t) r = t.rec
rec_after (refused n) r = r

abbrev pub payload_after : Answer State → List ℕ → List ℕ
payload_after (gives t) d = t.payload
payload_after (refused n) d = d

abbrev pub map_after : Answer State → List ℕ → List ℕ
map_after (gives t) m = t.map
map_after (refused n) m = m

-- A call that takes a piece: a is what it leads to from the state s, r the answer, d and m are the buffers after.
pub record Steps (a : Answer State) (s : State) (r : Result Taken Refusal) (d m : List ℕ) : Type 0 where
  pub answer : says r ≡ mapped reply_of a
  pub payload_is : d ≡ payload_after a s.payload
  pub map_is : m ≡ map_after a s.map

-- .. and this one is a step by the piece p
abbrev pub Moves : State → Piece → Result Taken Refusal → List ℕ → List ℕ → Type 0
Moves s p r d m = Steps (gives (step s p)) s r d m

-- how an assembly stands: "waiting, complete or spoilt", and how many bytes a complete datagram has; 0 of any other
pub record Standing : Type 0 where
  pub answer : Outcome
  pub bytes : ℕ

abbrev pub standing : Outcome → ℕ → Standing
standing o n = record { answer = o; bytes = n }

abbrev pub standing_of : State → Standing
standing_of s = standing (outcome s) (length (held_bytes s))

abbrev pub stands : Progress → Standing
stands progress.Waiting = standing way.Waiting 0
stands (progress.Complete n) = standing way.Complete n
stands progress.Spoilt = standing way.Spoilt 0

abbrev pub progress_says : Result Progress Refusal → Answer Standing
progress_says r = mapped stands (says r)
