-- What is decided between the two passes: a first one, which is lent nothing to write into, tells the answer, and where that is no refusal the second writes what is owed.
use mathlib.Core.Path.{◌≡◌, refl, sym, ap, ap₂, subst, ◌∙◌}
use Prim.Native.Nat.{ℕ, zero, suc, ◌+◌, ◌≤◌}
use native.Mathlib.Omega.{arith}
use mathlib.Core.Bool.{Bool, true, false, ◌||◌, cond}
use mathlib.Core.List.{List, [], ◌∷◌, ◌++◌}
use lib.ListN.{length, take, drop, length-drop}
use lib.Seq.{sets, length-sets, sets-eq, length-take-le}
use lib.Dec.{ltb}
use borrow.Author.Tests.{ltb-false}
use Rattle.pkt.specs.Answers.{ListAnswer, refused_whole, refused_at, gives_all, list_says, plainly}
use Rattle.pkt.specs.declared.refusal.ListRefusal.{ListRefusal}
use Rattle.pkt.specs.declared.refusal.ListRefusal.TheVariants as refusal
use Rattle.std.specs.Prelude.{Result, Ok, Err}
use Rattle.pkt.specs.Fields.{Bytes}
use Rattle.pkt.specs.Written.{written, over, leaves}
use Rattle.pkt.proofs.Choice.{or_no}
use Rattle.pkt.proofs.Written.{copy_written}
use Rattle.inspect.proofs.Numbers.{take_bytes, drop_bytes}
use Rattle.reading.specs.Reading.{open_at, spot_at, packet_at, step_at, more_at, past_at}
use Rattle.reading.specs.Ends.{records_answer}
use Rattle.mending.specs.Sums.{renewed, sums_in}
use Rattle.mending.specs.Packets.{AllWithin}
use Rattle.mending.specs.Mend.{Listed, listed, sums_at, sums_from, sums_of, put_sums, mend, changes, counts, room_answer, and_then_all, mend_answer, rows_after, Mends}
use Rattle.mending.specs.Pass.{Passes}
use Rattle.mending.specs.declared.sums.SumField.{SumField}
use Rattle.mending.specs.declared.Counts.{Counts}
use Rattle.mending.proofs.Packets.{packets_mended}
use Rattle.reading.proofs.Ending.{there_found, spot_within}
use Rattle.mending.proofs.Passing.{sums_turn, sums_end}
use Rattle.mending.proofs.Placing.{put_length}
use Rattle.mending.proofs.Renewed.{renewed_length, renewed_front}

-- ---- an answer that is no refusal

-- The records were not refused then: what follows them is the answer.
pub records_then : {A B : Type 0} (a : ListAnswer A) (b : ListAnswer B) (c : B) → and_then_all a b ≡ gives_all c → ((d : ListAnswer B) → and_then_all a d ≡ d) × (b ≡ gives_all c)
records_then (refused_whole n) b c e = cc
records_then (refused_at n k) b c e = cc
records_then (gives_all rs) b c e = (λ d. refl, e)

-- There is room for what it gives.
pub room_given : (n k room places : ℕ) (c : Counts) → room_answer n k room places ≡ gives_all c → (c ≡ counts n k) × (n ≤ room) × (k ≤ places)
room_given n k room places c e = go (ltb room n || ltb places k) refl e
  where
    go : (t : Bool) → (ltb room n || ltb places k) ≡ t → cond t (refused_whole 3) (gives_all (counts n k)) ≡ gives_all c
        → (c ≡ counts n k) × (n ≤ room) × (k ≤ places)
    go true h q = let z : ◌≡◌ {A = ℕ} 0 1 = cc in absurd (omega arith)
    go false h q = let t = or_no _ _ h in (cc, ltb-false room n t.0, ltb-false places k t.1)

-- ---- the first pass

none_of : {A : Type 0} (l : List A) → length l ≡ 0 → l ≡ []
none_of [] e = refl
none_of (x ∷ l) e = absurd (omega arith)

-- where it is not refused, what follows is answered
passed_on : {A B C : Type 0} (a : ListAnswer A) (x y : B) → and_then_all a (gives_all x) ≡ gives_all y → (d : ListAnswer C) → (and_then_all a d ≡ d) × (x ≡ y)
passed_on (refused_whole n) x y e d = cc
passed_on (refused_at n k) x y e d = cc
passed_on (gives_all a) x y e d = (refl, cc)

-- and where it is, its refusal
refused_then : {A B C : Type 0} (a : ListAnswer A) (b : B) (r : ListRefusal) → list_says (Err r) ≡ and_then_all a (gives_all b)
    → (d : ListAnswer C) → list_says (Err r) ≡ and_then_all a d
refused_then (gives_all x) b (refusal.Whole y) e d = cc
refused_then (gives_all x) b (refusal.At y i) e d = cc
refused_then (refused_whole n) b (refusal.Whole y) e d = ap refused_whole (cc)
refused_then (refused_whole n) b (refusal.At y i) e d = cc
refused_then (refused_at n k) b (refusal.Whole y) e d = cc
refused_then (refused_at n k) b (refusal.At y i) e d = ap₂ refused_at (cc) (cc)

module _ (l : List ℕ) (found : Result ℕ ListRefusal) (o₀ : List ℕ) (e₀ : List (List ℕ)) (first : Passes l [] [] found o₀ e₀) where
  -- It leaves the two parts of no length as they were,
  no_bytes : o₀ ≡ []
  no_bytes = none_of o₀ (ap length first.output ∙ put_length (sums_of l) [])

  no_rows : e₀ ≡ []
  no_rows = none_of e₀ (ap length first.rows ∙ length-sets [] 0 (changes l))

  -- and its refusal is the call's.
  pub answered_refused : (r : ListRefusal) (o : List ℕ) (e : List (List ℕ)) → found ≡ Err r → list_says (Err r) ≡ mend_answer l (length o) (length e)
  answered_refused r o e is = refused_then (records_answer l) _ r (sym (ap list_says is) ∙ first.says) _

  -- Else what follows is the call's answer.
  pub answered : (k : ℕ) (r : Result Counts ListRefusal) (o : List ℕ) (e : List (List ℕ)) → found ≡ Ok k
      → list_says r ≡ room_answer (length l) k (length (o₀ ++ o)) (length (e₀ ++ e)) → list_says r ≡ mend_answer l (length o) (length e)
  answered k r o e is q =
      let all : and_then_all (records_answer l) (gives_all (length (changes l))) ≡ gives_all k = sym first.says ∙ ap list_says is in
      let past = passed_on (records_answer l) _ k all _ in
      let count : length (changes l) ≡ k = past.1 in
      q
      ∙ ap (λ (j : ℕ). room_answer (length l) j (length (o₀ ++ o)) (length (e₀ ++ e))) (sym count)
      ∙ ap₂ (λ (x : List ℕ) (y : List (List ℕ)). room_answer (length l) (length (changes l)) (length (x ++ o)) (length (y ++ e))) no_bytes no_rows
      ∙ sym past.0

-- ---- the second pass

-- each of these fields stands within the first n bytes
unfoldable AllInside : ℕ → List Listed → Type 0
AllInside n [] = Unit {0}
AllInside n (s ∷ ss) = (s.at + 2 ≤ n) × AllInside n ss

inside_both : (n : ℕ) (ss ts : List Listed) → AllInside n ss → AllInside n ts → AllInside n (ss ++ ts)
unfolding AllInside
inside_both n [] ts a b = b
inside_both n (s ∷ ss) ts a b = (a.0, inside_both n ss ts a.1 b)

listed_inside : (n k which start : ℕ) (fs : List SumField) (p : List ℕ) → start + length p ≤ n → AllWithin fs p → AllInside n (listed k which start fs)
unfolding AllInside AllWithin
listed_inside n k which start [] p h w = tt
listed_inside n k which start (f ∷ fs) p h w = (omega (arith, w.0), listed_inside n k (suc which) start fs p h w.2)

found_inside : (l : List ℕ) (at k : ℕ) → Bytes l → more_at l at ≡ true → AllInside (length l) (sums_at l (step_at l at k))
unfolding sums_at
found_inside l at k b e =
    let s = spot_at l at k in
    let within = (spot_within l at e).0 in
    let p : List ℕ = packet_at l s in
    let size : length p ≡ s.len = length-take-le s.len (drop s.start l) (omega (arith, length-drop (at + 16) l)) in
    rw (there_found l at k e)
    (listed_inside (length l) k 0 (at + 16) (sums_in p) p (omega arith) (packets_mended.within p (take_bytes s.len (drop s.start l) (drop_bytes s.start l b))))

sums_inside : (m k at : ℕ) (l : List ℕ) → Bytes l → AllInside (length l) (sums_from m k at l)
unfolding sums_from AllInside
sums_inside zero k at l b = tt
sums_inside (suc m) k at l b = go (more_at l at) refl (sums_inside m (suc k) (past_at l at) l b)
  where
    go : (t : Bool) → more_at l at ≡ t → AllInside (length l) (sums_from m (suc k) (past_at l at) l) → AllInside (length l) (sums_from (suc m) k at l)
    go true e rest =
        subst (AllInside (length l)) (sym (sums_turn m l at k e))
        (inside_both (length l) (sums_at l (step_at l at k)) (sums_from m (suc k) (past_at l at) l) (found_inside l at k b e) rest)
    go false e rest = subst (AllInside (length l)) (sym (sums_end (suc m) l at k e)) tt

put_before : (ss : List Listed) (p r : List ℕ) → AllInside (length p) ss → put_sums ss (p ++ r) ≡ put_sums ss p ++ r
unfolding put_sums AllInside
put_before [] p r h = refl
put_before (s ∷ ss) p r h =
    let q : List ℕ = renewed s.at s.new p in
    ap (put_sums ss) (renewed_front p r s.at s.new h.0) ∙ put_before ss q r (rw (renewed_length s.at s.new p) h.1)

-- what is put into a copy of the capture is put into the capture, and the rest of the output is as it was
put_copy : (l o : List ℕ) → Bytes l → put_sums (sums_of l) (written l o) ≡ written (mend l) o
unfolding written
put_copy l o b =
    put_before (sums_of l) l (drop (length l) o) (sums_inside (length l) 0 (open_at l) l b)
    ∙ ap (λ (n : ℕ). mend l ++ drop n o) (sym (put_length (sums_of l) l))

-- ---- the call's promise

module _ (l : List ℕ) (found : Result ℕ ListRefusal) (o₀ : List ℕ) (e₀ : List (List ℕ)) (first : Passes l [] [] found o₀ e₀) (o : List ℕ) (e : List (List ℕ)) where
  bytes_stay : o₀ ++ o ≡ o
  bytes_stay = ap (λ (x : List ℕ). x ++ o) (no_bytes l found o₀ e₀ first)

  rows_stay : e₀ ++ e ≡ e
  rows_stay = ap (λ (x : List (List ℕ)). x ++ e) (no_rows l found o₀ e₀ first)

  stay : (r : ListRefusal) (a : ListAnswer Counts) → list_says (Err r) ≡ a → ◌≡◌ {A = List ℕ × List (List ℕ)} (leaves (plainly a) (mend l) o, rows_after a (changes l) e) (o, e)
  stay r (refused_whole n) q = refl
  stay r (refused_at n k) q = refl
  stay (refusal.Whole x) (gives_all c) q = cc
  stay (refusal.At x i) (gives_all c) q = cc

  -- A refusal leaves both as they were.
  refused_all : (r : ListRefusal) → list_says (Err r) ≡ mend_answer l (length o) (length e) → Mends l o e (Err r) (o₀ ++ o) (e₀ ++ e)
  refused_all r says =
      record {
        answer = says;
        after = ap₂ (λ (x : List ℕ) (y : List (List ℕ)). (x, y)) bytes_stay rows_stay ∙ sym (stay r (mend_answer l (length o) (length e)) says);
      }

  -- So a refusal of the pass does,
  pub pass_refused : (r : ListRefusal) → found ≡ Err r → Mends l o e (Err r) (o₀ ++ o) (e₀ ++ e)
  pass_refused r is = refused_all r (answered_refused l found o₀ e₀ first r o e is)

  -- Else there is room for both, and the second pass, over a copy, leaves what is owed.
  pub mends_accepted : (k : ℕ) (c : Counts) (x o' : List ℕ) (e' : List (List ℕ)) (again : Result ℕ ListRefusal) → found ≡ Ok k
      → list_says (Ok c) ≡ room_answer (length l) k (length (o₀ ++ o)) (length (e₀ ++ e)) → Bytes l
      → x ≡ written (take (length (o₀ ++ o)) l) (o₀ ++ o) → Passes l x (e₀ ++ e) again o' e' → Mends l o e (Ok c) o' e'
  mends_accepted k c x o' e' again is q b copied second =
      let says = answered l found o₀ e₀ first k (Ok c) o e is q in
      let room = (room_given (length l) (length (changes l)) (length o) (length e) c (records_then (records_answer l) _ c (sym says)).1) in
      let copy : x ≡ written l o = copied ∙ copy_written l (o₀ ++ o) (rw bytes_stay room.1) ∙ ap (written l) bytes_stay in
      let bytes : o' ≡ written (mend l) o = second.output ∙ ap (put_sums (sums_of l)) copy ∙ put_copy l o b in
      let size : 0 + length (changes l) ≡ length (changes l) = omega arith in
      let rows : e' ≡ over (changes l) e =
      second.rows
      ∙ ap (λ (y : List (List ℕ)). sets y 0 (changes l)) rows_stay
      ∙ sets-eq (changes l) e 0 (omega (arith, room.2))
      ∙ ap (λ (n : ℕ). changes l ++ drop n e) size in
      record {
        answer = says;
        after = ap₂ (λ (y : List ℕ) (z : List (List ℕ)). (y, z)) bytes rows
            ∙ ap (λ (a : ListAnswer Counts). (leaves (plainly a) (mend l) o, rows_after a (changes l) e)) says;
      }
