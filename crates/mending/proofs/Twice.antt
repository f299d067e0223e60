-- A second call is lent what the first one wrote, the mended capture, which has the same records and in which each field holds what belongs there.
use mathlib.Core.Path.{◌≡◌, refl, sym, ap, ap₂, ◌∙◌, subst}
use Prim.Native.Nat.{ℕ, ◌≤◌}
use native.Mathlib.Omega.{arith}
use mathlib.Core.Bool.{Bool, true, false}
use mathlib.Core.List.{List, [], ◌++◌}
use lib.ListN.{length, take, drop, length-map}
use lib.Seq.{take_at}
use borrow.Author.Tests.{le-ltb}
use Rattle.pkt.specs.Answers.{ListAnswer, refused_at, gives_all, list_says, plainly}
use Rattle.pkt.specs.declared.refusal.ListRefusal.{ListRefusal}
use Rattle.std.specs.Prelude.{Result, Ok}
use Rattle.pkt.specs.Fields.{Bytes}
use Rattle.pkt.specs.Written.{written, leaves}
use Rattle.pkt.proofs.Choice.{pick_yes, pick_no}
use Rattle.pkt.proofs.Only.{list_says_only}
use Rattle.pcap.specs.Pcap.{file_header}
use Rattle.pcap.specs.Read.{Recorded, Records, whole, broken_after, records_of}
use Rattle.reading.specs.Reading.{starts_with, header_size}
use Rattle.reading.specs.Ends.{all_of, records_answer}
use Rattle.mending.specs.Mend.{mend, changes, counts, room_answer, and_then_all, mend_answer, rows_after, Mends}
use Rattle.mending.specs.Captures.{mend_record, mend_records, CapturesMended, MendsTwice}
use Rattle.mending.specs.declared.Counts.{Counts}
use Rattle.mending.proofs.Deciding.{records_then, room_given}
use Rattle.mending.proofs.Captures.{captures_mended}

-- ---- an answer that is no refusal

-- No changes ask for no room.
room_fits : (n room places : ℕ) → n ≤ room → room_answer n 0 room places ≡ gives_all (counts n 0)
room_fits n room places h = rw (le-ltb room n h, le-ltb places 0 (omega arith))

-- The mended capture and the changes are written.
pub mends_given : (l o o' : List ℕ) (e e' : List (List ℕ)) (r : Result Counts ListRefusal) (c : Counts) → Mends l o e r o' e' → mend_answer l (length o) (length e) ≡ gives_all c
    → (list_says r ≡ gives_all c) × (o' ≡ written (mend l) o) × (e' ≡ changes l ++ drop (length (changes l)) e)
mends_given l o o' e e' r c m q = (
  m.answer ∙ q,
  ap (λ b. b.0) m.after ∙ ap (λ (a : ListAnswer Counts). leaves (plainly a) (mend l) o) q,
  ap (λ b. b.1) m.after ∙ ap (λ (a : ListAnswer Counts). rows_after a (changes l) e) q,
)

pub front_written : (o k : List ℕ) (n : ℕ) → length k ≡ n → take n (written k o) ≡ k
unfolding written
front_written o k n e = take_at k (drop (length k) o) n e

-- ---- the records of the mended capture

-- are refused where the others are.
all_kept : (w : Records) (d : ListAnswer Counts) → and_then_all (all_of (mend_records w)) d ≡ and_then_all (all_of w) d
all_kept (whole rs) d = refl
all_kept (broken_after rs) d = ap (refused_at 25) (length-map rs mend_record)

module _ (cm : CapturesMended) (l : List ℕ) (b : Bytes l) where
  answer_kept : (d : ListAnswer Counts) → and_then_all (records_answer (mend l)) d ≡ and_then_all (records_answer l) d
  answer_kept d = go (starts_with file_header l) refl
    where
      go : (t : Bool) → starts_with file_header l ≡ t → and_then_all (records_answer (mend l)) d ≡ and_then_all (records_answer l) d
      go true e =
          ap (λ (a : ListAnswer (List Recorded)). and_then_all a d) (pick_yes _ _ (cm.opens l ∙ e) ∙ ap all_of (cm.reads l b e))
          ∙ all_kept (records_of (drop header_size l)) d
          ∙ sym (ap (λ (a : ListAnswer (List Recorded)). and_then_all a d) (pick_yes _ _ e))
      go false e =
          ap (λ (a : ListAnswer (List Recorded)). and_then_all a d) (pick_no _ _ (cm.opens l ∙ e) ∙ sym (pick_no _ _ e))

  calls_twice : (o o' o₂ o₂' : List ℕ) (e e' e₂ e₂' : List (List ℕ)) (n k : ℕ) (r : Result Counts ListRefusal) → Mends l o e (Ok (counts n k)) o' e'
      → Mends (take n o') o₂ e₂ r o₂' e₂' → n ≤ length o₂
      → (r ≡ Ok (counts n 0)) × (take n o₂' ≡ take n o') × (e₂' ≡ e₂)
  calls_twice o o' o₂ o₂' e e' e₂ e₂' n k r m m₂ room =
      let given : mend_answer l (length o) (length e) ≡ gives_all (counts n k) = sym m.answer in
      let past = records_then (records_answer l) _ (counts n k) given in
      let size : n ≡ length l = ap (λ (c : Counts). c.bytes) (room_given (length l) (length (changes l)) (length o) (length e) (counts n k) past.1).0 in
      let size' : length (mend l) ≡ n = cm.size l ∙ sym size in
      let lent : take n o' ≡ mend l = ap (take n) (mends_given l o o' e e' (Ok (counts n k)) (counts n k) m given).1 ∙ front_written o (mend l) n size' in
      let none : changes (mend l) ≡ [] = cm.none_twice l b in
      let again : mend_answer (mend l) (length o₂) (length e₂) ≡ gives_all (counts n 0) =
      answer_kept _
      ∙ past.0 _
      ∙ ap₂ (λ (x : ℕ) (ss : List (List ℕ)). room_answer x (length ss) (length o₂) (length e₂)) size' none
      ∙ room_fits n (length o₂) (length e₂) room in
      let then = mends_given (mend l) o₂ o₂' e₂ e₂' r (counts n 0) (subst (λ (t : List ℕ). Mends t o₂ e₂ r o₂' e₂') lent m₂) again in
      let same : mend (mend l) ≡ mend l = cm.twice l b in (
        list_says_only r (Ok (counts n 0)) (gives_all (counts n 0)) then.0 refl,
        ap (take n) then.1 ∙ front_written o₂ (mend (mend l)) n (ap length same ∙ size') ∙ same ∙ sym lent,
        then.2 ∙ ap (λ (ss : List (List ℕ)). ss ++ drop (length ss) e₂) none,
      )

pub mends_twice : MendsTwice
mends_twice l o o' o₂ o₂' e e' e₂ e₂' n k r b m m₂ room = calls_twice captures_mended l b o o' o₂ o₂' e e' e₂ e₂' n k r m m₂ room
