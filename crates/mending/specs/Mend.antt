-- A capture, mended: document 02, T-08.
use Rattle.std.specs.Prelude.{ℕ, zero, suc, ◌+◌, ◌||◌, cond, List, [], ◌∷◌, ◌++◌, length, ltb, eqb, Result, Some, None}
use Rattle.pkt.specs.Answers.{ListAnswer, refused_whole, refused_at, gives_all, list_says, plainly}
use Rattle.pkt.specs.declared.refusal.ListRefusal.{ListRefusal}
use Rattle.pkt.specs.Written.{over, leaves, Promise}
use Rattle.reading.specs.Reading.{Next, open_at, packet_at, step_at, more_at, past_at}
use Rattle.reading.specs.Ends.{records_answer}
use Rattle.mending.specs.Sums.{renewed, sums_in}
use Rattle.mending.specs.declared.sums.SumField.{SumField}
use Rattle.mending.specs.declared.Counts.{Counts}

-- a checksum's field of a capture: its record's number, which of the record's it is, its place in the capture, and both numbers
pub record Listed : Type 0 where
  pub number : ℕ
  pub which : ℕ
  pub at : ℕ
  pub old : ℕ
  pub new : ℕ

-- the fields of the packet of record k that stands at a place, from the which-th on
abbrev pub listed : ℕ → ℕ → ℕ → List SumField → List Listed
listed k which start [] = []
listed k which start (f ∷ fs) = record { number = k; which = which; at = start + f.at; old = f.old; new = f.new } ∷ listed k (suc which) start fs

-- the fields that are worked out anew in the record that a step found: "record number (from 0), which field (IPv4 first)"
unfoldable pub sums_at : List ℕ → ListAnswer Next → List Listed
sums_at l (gives_all (Some s)) = listed s.number 0 s.start (sums_in (packet_at l s))
sums_at l (gives_all None) = []
sums_at l (refused_whole n) = []
sums_at l (refused_at n k) = []

-- .. in each record, from a place behind k records on, as far as there are no more than most
unfoldable pub sums_from : ℕ → ℕ → ℕ → List ℕ → List Listed
sums_from zero k at l = []
sums_from (suc most) k at l = cond (more_at l at) (sums_at l (step_at l at k) ++ sums_from most (suc k) (past_at l at) l) []

-- .. in a capture
abbrev pub sums_of : List ℕ → List Listed
sums_of l = sums_from (length l) 0 (open_at l) l

-- o with each of these fields worked out anew, and "all other bytes stay"
unfoldable pub put_sums : List Listed → List ℕ → List ℕ
put_sums [] o = o
put_sums (s ∷ ss) o = put_sums ss (renewed s.at s.new o)

-- the capture, mended
abbrev pub mend : List ℕ → List ℕ
mend l = put_sums (sums_of l) l

-- a change: "record number (from 0), which field (IPv4 first), old number, new number"
abbrev pub change_of : Listed → List ℕ
change_of s = s.number ∷ s.which ∷ s.old ∷ s.new ∷ []

-- "each change is listed": where the new number is not the old
unfoldable pub changes_of : List Listed → List (List ℕ)
changes_of [] = []
changes_of (s ∷ ss) = cond (eqb s.old s.new) (changes_of ss) (change_of s ∷ changes_of ss)

abbrev pub changes : List ℕ → List (List ℕ)
changes l = changes_of (sums_of l)

-- what an accepted call gives: how many bytes, and how many changes
abbrev pub counts : ℕ → ℕ → Counts
counts n k = record { bytes = n; changed = k }

-- "then 3 if the second buffer or the list of changes is too short": for n bytes and k changes
abbrev pub room_answer : ℕ → ℕ → ℕ → ℕ → ListAnswer Counts
room_answer n k room places = cond (ltb room n || ltb places k) (refused_whole 3) (gives_all (counts n k))

-- one answer, and what follows where it is no refusal
abbrev pub and_then_all : {A B : Type 0} → ListAnswer A → ListAnswer B → ListAnswer B
and_then_all (refused_whole n) b = refused_whole n
and_then_all (refused_at n k) b = refused_at n k
and_then_all (gives_all a) b = b

-- 23; "25 with the record number"; then 3
abbrev pub mend_answer : List ℕ → ℕ → ℕ → ListAnswer Counts
mend_answer l room places = and_then_all (records_answer l) (room_answer (length l) (length (changes l)) room places)

-- the rows rs over the front of a list of rows, or on a refusal what it held
abbrev pub rows_after : {A : Type 0} → ListAnswer A → List (List ℕ) → List (List ℕ) → List (List ℕ)
rows_after (gives_all a) rs e = over rs e
rows_after (refused_whole n) rs e = e
rows_after (refused_at n k) rs e = e

-- The call's whole promise: the one answer; the mended capture at the start of the second buffer o, and the changes at the start of the list e;
-- "nothing is written then" on a refusal.
abbrev pub Mends : List ℕ → List ℕ → List (List ℕ) → Result Counts ListRefusal → List ℕ → List (List ℕ) → Type 0
Mends l o e r o' e' =
    let a : ListAnswer Counts = mend_answer l (length o) (length e) in
    Promise {B = List ℕ × List (List ℕ)} list_says a (leaves (plainly a) (mend l) o, rows_after a (changes l) e) r (o', e')
