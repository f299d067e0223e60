-- What a pass through a capture puts, and what one step of it asks and leaves.
use Rattle.std.specs.Prelude.{ℕ, suc, ◌+◌, ◌^◌, ◌≤◌, ◌<◌, ◌≡◌, List, [], ◌∷◌, length, Result}
use Rattle.std.proofs.lemmas.List.Edits.{sets}
use Rattle.pkt.specs.Answers.{gives_all, list_says}
use Rattle.pkt.specs.declared.refusal.ListRefusal.{ListRefusal}
use Rattle.reading.specs.Ends.{records_answer}
use Rattle.reading.specs.declared.Spot.{Spot}
use Rattle.mending.specs.Mend.{Listed, sums_of, put_sums, changes_of, changes, and_then_all}
use Rattle.mending.specs.declared.sums.SumField.{SumField}

-- What fields ss leave behind c changes, in the output o and the list e: so many changes, and both after them. What lies past the end of
-- either is left out.
pub record Put (ss : List Listed) (c : ℕ) (o : List ℕ) (e : List (List ℕ)) (c' : ℕ) (o' : List ℕ) (e' : List (List ℕ)) : Type 0 where
  pub count : c' ≡ c + length (changes_of ss)
  pub output : o' ≡ put_sums ss o
  pub rows : e' ≡ sets e c (changes_of ss)

-- what fields fs of a packet at a place ask, behind c changes: that no number comes to 2 ^ 64
unfoldable pub SumsAsk : List SumField → ℕ → ℕ → Type 0
SumsAsk [] start c = Unit {0}
SumsAsk (f ∷ fs) start c = (start + f.at + 1 < 2 ^ 64) × (c + 1 < 2 ^ 64) × SumsAsk fs start (suc c)

-- what is asked of a record of l, behind c changes: it lies within l, and there are no more changes than bytes before it
pub record PutAsks (l : List ℕ) (s : Spot) (c : ℕ) : Type 0 where
  pub within : s.start + s.len ≤ length l
  pub few : c + 16 ≤ s.start

-- what a whole pass leaves, and how many changes it finds, where no record is refused
pub record Passes (l o : List ℕ) (e : List (List ℕ)) (r : Result ℕ ListRefusal) (o' : List ℕ) (e' : List (List ℕ)) : Type 0 where
  pub output : o' ≡ put_sums (sums_of l) o
  pub rows : e' ≡ sets e 0 (changes l)
  pub says : list_says r ≡ and_then_all (records_answer l) (gives_all (length (changes l)))
