-- Steps from the first record on give the records that are read, and no others.
use Rattle.std.proofs.Common.{◌≡◌, ℕ, zero, suc, ◌+◌, ◌^◌, ◌<◌, ◌≤◌, Bool, true, false, not, eqb, ltb, List, length, take, drop, sym, refl, ap, ◌∙◌, subst, ap₂, arith, length-drop, drop-drop, le-ltb}
use Rattle.pkt.proofs.Choice.{pick_yes, pick_no}
use Rattle.pcap.specs.Pcap.{file_header}
use Rattle.pcap.specs.Read.{Recorded, Records, in_front, number, record_at, record_size, is_broken, records_in}
use Rattle.pcap.proofs.Pcap.{file_header_length}
use Rattle.reading.specs.Reading.{header_size, spot_at, more_at, past_at, count_past}
use Rattle.reading.specs.Steps.{recorded_at, Steps, ends, breaks, goes, StepsRead}
use Rattle.reading.specs.declared.Spot.{Spot}
use Rattle.reading.proofs.Starts.{starts_take, take_starts}
use Rattle.reading.proofs.Broken.{broken_no, more_yes}

-- ---- a record that is read

-- it takes its header's bytes at least
pub size_more : (l : List ℕ) → 16 ≤ record_size l
unfolding record_size
size_more l = omega arith

-- the record that a step finds is the one that is read there
spot_is : (l : List ℕ) (at k : ℕ) → recorded_at l (spot_at l at k) ≡ record_at (drop at l)
unfolding record_at
spot_is l at k =
    ap (λ (t : List ℕ). record { stamped = record { sec = number 4 0 (drop at l); usec = number 4 4 (drop at l); packet = take (number 4 8 (drop at l)) t }; original = number 4 12 (drop at l) }) (sym (drop-drop 16 at l))

-- ---- the records behind the header

-- From a place behind the file header on, the steps give the records that are read there.
steps_from : (m : ℕ) (l : List ℕ) (at k : ℕ) → header_size ≤ at → length (drop at l) < m → Steps l at k (records_in m (drop at l))
unfolding records_in
steps_from zero l at k h f = absurd (omega arith)
steps_from (suc m) l at k h f = go (eqb (length (drop at l)) 0) refl (is_broken (drop at l)) refl (steps_from m l (at + record_size (drop at l)) (suc k))
  where
    low : ltb at header_size ≡ false
    low = le-ltb at header_size h

    go : (b : Bool) → eqb (length (drop at l)) 0 ≡ b → (c : Bool) → is_broken (drop at l) ≡ c
        → (header_size ≤ at + record_size (drop at l) → length (drop (at + record_size (drop at l)) l) < m
        → Steps l (at + record_size (drop at l)) (suc k) (records_in m (drop (at + record_size (drop at l)) l)))
        → Steps l at k (records_in (suc m) (drop at l))
    go true e c u ih = subst (Steps l at k) (sym (pick_yes _ _ e)) (ends at k (pick_no _ _ low ∙ pick_yes _ _ e))
    go false e true u ih = subst (Steps l at k) (sym (pick_no _ _ e ∙ pick_yes _ _ u)) (breaks at k (pick_no _ _ low ∙ pick_no _ _ e ∙ pick_yes _ _ u))
    go false e false u ih =
        let d : List ℕ = drop at l in
        let rest : Records = records_in m (drop (record_size d) d) in
        let more : more_at l at ≡ true = pick_no _ _ low ∙ ap not u in
        let past : past_at l at ≡ at + record_size d = pick_yes _ _ more in
        let next = ih (omega arith) (omega (arith, length-drop at l, length-drop (at + record_size d) l, size_more d, (broken_no d u).0)) in
        let there : Steps l (past_at l at) (suc k) rest = rw (past, drop-drop (record_size d) at l) next in
        subst (Steps l at k) (ap (λ (r : Recorded). in_front r rest) (spot_is l at k) ∙ sym (pick_no _ _ e ∙ pick_no _ _ u))
        (goes at k (spot_at l at k) rest (pick_no _ _ low ∙ pick_no _ _ e ∙ pick_no _ _ u) refl there)

-- ---- no others

-- A place has one step, so what follows is one too.
only : (l : List ℕ) (at k : ℕ) (rs rs' : Records) → Steps l at k rs → Steps l at k rs' → rs ≡ rs'
only l _ _ _ _ (ends at k e) (ends _ _ e') = refl
only l _ _ _ _ (ends at k e) (breaks _ _ e') = cc (sym e ∙ e')
only l _ _ _ _ (ends at k e) (goes _ _ s rs e' n t) = cc (sym e ∙ e')
only l _ _ _ _ (breaks at k e) (ends _ _ e') = cc (sym e ∙ e')
only l _ _ _ _ (breaks at k e) (breaks _ _ e') = refl
only l _ _ _ _ (breaks at k e) (goes _ _ s rs e' n t) = cc (sym e ∙ e')
only l _ _ _ _ (goes at k s rs e n t) (ends _ _ e') = cc (sym e ∙ e')
only l _ _ _ _ (goes at k s rs e n t) (breaks _ _ e') = cc (sym e ∙ e')
only l _ _ _ _ (goes at k s rs e n t) (goes _ _ s' rs' e' n' t') =
    let one : s ≡ s' = cc (sym e ∙ e') in
    ap₂ (λ (x : Spot) (r : Records). in_front (recorded_at l x) r) one (only l (past_at l at) (suc k) rs rs' t t')

-- ---- the count

-- A record takes 16 bytes or more and ends within the capture, so the next count is below 2 ^ 64.
counts : (l : List ℕ) (at k : ℕ) → length l < 2 ^ 64 → k ≤ at → more_at l at ≡ true → (count_past l at k ≡ suc k) × (suc k ≤ past_at l at)
counts l at k b h m =
    let w = broken_no _ (more_yes l at m).1 in
    let d = length-drop at l in
    let p : past_at l at ≡ at + record_size (drop at l) = pick_yes _ _ m in (
      pick_yes _ _ m ∙ omega (arith, w.0),
      omega (arith, p, size_more (drop at l)),
    )

pub steps_read : StepsRead
steps_read =
    record {
      opens = λ l e. ap (λ (n : ℕ). take n l) (sym file_header_length) ∙ starts_take file_header l e;
      opens_all = λ l e. take_starts file_header l (ap (λ (n : ℕ). take n l) file_header_length ∙ e);
      unopened = λ l e k. rw e (refl, refl);
      reads = λ l e. rw e (steps_from (suc (length (drop header_size l))) l header_size 0 (omega arith) (omega arith));
      reads_only = only;
      counts = counts;
    }
