-- Demand 3 over packets, for a payload buffer of C bytes and a map of M bytes, from an assembly opened for any key.
use Rattle.std.specs.Prelude.{◌≡◌, ◌↔◌, true, ℕ, Result, Ok}
use mathlib.Core.List.{List, [], ◌∷◌, Memᴰ}
use Rattle.pkt.specs.Answers.{gives, mapped, says}
use Rattle.pkt.specs.declared.refusal.Refusal.{Refusal}
use Rattle.assembly.specs.declared.Key.{Key}
use Rattle.assembly.specs.declared.Rec.{Rec}
use Rattle.assembly.specs.declared.Taken.{Taken}
use Rattle.assembly.specs.Piece.{Piece, Contradict}
use Rattle.assembly.specs.Assembly.{State, opened, step}
use Rattle.assembly.specs.View.{view}
use Rattle.assembly.specs.Answers.{state_after, rec_after}
use Rattle.assembly.specs.Carried.{piece_answer}
use Rattle.assembly.specs.Calls.{Opens, take_answer, Takes}

-- the state after the packet l was handed in
unfoldable pub after : ℕ → ℕ → State → List ℕ → State
after C M s l = state_after (take_answer C M s l) s

-- packets handed in one after the other
unfoldable pub take_all : ℕ → ℕ → State → List (List ℕ) → State
take_all C M s [] = s
take_all C M s (l ∷ ls) = take_all C M (after C M s l) ls

-- the packet l is one of ls, is accepted for the key k, and carries p
pub record Accepted (C : ℕ) (k : Key) (ls : List (List ℕ)) (l : List ℕ) (p : Piece) : Type 0 where
  pub handed : Memᴰ l ls
  pub carries : piece_answer C k l ≡ gives p

-- "The same accepted pieces, in any order and with any repeats": a piece that a packet of the one list carries, one of the other carries too.
-- Refused packets do not count, nor does what a packet says besides its piece.
pub record SamePieces (C : ℕ) (k : Key) (ls ms : List (List ℕ)) : Type 0 where
  pub to : (l : List ℕ) (p : Piece) → Accepted C k ls l p → (m : List ℕ) × Accepted C k ms m p
  pub from : (m : List ℕ) (p : Piece) → Accepted C k ms m p → (l : List ℕ) × Accepted C k ls l p

-- "two of them contradict each other"
pub record TwoContradict (C : ℕ) (k : Key) (ls : List (List ℕ)) : Type 0 where
  pub one : List ℕ
  pub other : List ℕ
  pub p : Piece
  pub q : Piece
  pub one_in : Accepted C k ls one p
  pub other_in : Accepted C k ls other q
  pub clash : Contradict p q

pub record Delivers (C M : ℕ) (k : Key) : Type 0 where
  -- "Start from a newly opened assembly." An opening that is not refused leads to it,
  pub opening : (d m d' m' : List ℕ) (r : Rec) → Opens C M k d m (Ok r) d' m' → view r d' m' ≡ opened k C M
  -- and each call leads on by `after`.
  pub calling : (r : Rec) (d m l : List ℕ) (a : Result Taken Refusal) (d' m' : List ℕ) → Takes C M (view r d m) l a d' m' → view (rec_after (says a) r) d' m' ≡ after C M (view r d m) l
  -- Whether a packet is accepted, by which number it is refused, and which piece it carries, does not depend on what came before.
  pub answers : (ls : List (List ℕ)) (l : List ℕ)
      → take_answer C M (take_all C M (opened k C M) ls) l ≡ mapped (step (take_all C M (opened k C M) ls)) (piece_answer C k l)
  -- "The same accepted pieces, in any order and with any repeats, end in the same state,
  pub one_end : (ls ms : List (List ℕ)) → SamePieces C k ls ms → take_all C M (opened k C M) ls ≡ take_all C M (opened k C M) ms
  -- spoilt exactly when two of them contradict each other by document 01."
  pub spoilt_when : (ls : List (List ℕ)) → ((take_all C M (opened k C M) ls).spoilt ≡ true) ↔ TwoContradict C k ls
