-- Steps lead to the end of a capture that is whole, and else to its refusal.
use Rattle.std.proofs.Common.{◌≡◌, ℕ, zero, suc, ◌+◌, ◌≤◌, Bool, true, false, not, eqb, ltb, List, length, drop, sym, refl, ap, ◌∙◌, true≢false, arith, length-drop, ne_eqb}
use Rattle.std.specs.Prelude.{Some, None}
use Rattle.pkt.specs.Answers.{ListAnswer, refused_at, gives_all}
use Rattle.pkt.proofs.Choice.{fails, pick_yes, pick_no}
use Rattle.pcap.specs.Pcap.{file_header}
use Rattle.pcap.specs.Read.{Recorded, Records, whole, broken_after, in_front, number, record_size, is_broken, records_of}
use Rattle.reading.specs.Reading.{starts_with, header_size, open_at, Next, spot_at, step_at, more_at, past_at}
use Rattle.reading.specs.Steps.{recorded_at, Steps, ends, breaks, goes}
use Rattle.reading.specs.Ends.{all_of, records_answer, last_from, last_of, to_the_end, StepsEnd}
use Rattle.reading.specs.declared.Spot.{Spot}
use Rattle.reading.proofs.Broken.{broken_no, more_yes}
use Rattle.reading.proofs.Stepping.{size_more, steps_read}

-- ---- a step finds a record exactly where a whole one stands

pub there_found : (l : List ℕ) (at k : ℕ) → more_at l at ≡ true → step_at l at k ≡ gives_all (Some (spot_at l at k))
there_found l at k m =
    let y = more_yes l at m in
    let some = ne_eqb (length (drop at l)) 0 (λ (z : length (drop at l) ≡ 0). omega (arith, (broken_no (drop at l) y.1).0)) in
    pick_no _ _ y.0 ∙ pick_no _ _ some ∙ pick_no _ _ y.1

pub found_there : (l : List ℕ) (at k : ℕ) (s : Spot) → step_at l at k ≡ gives_all (Some s) → more_at l at ≡ true
found_there l at k s e = go (ltb at header_size) refl (eqb (length (drop at l)) 0) refl (is_broken (drop at l)) refl
  where
    go : (a : Bool) → ltb at header_size ≡ a → (b : Bool) → eqb (length (drop at l)) 0 ≡ b → (c : Bool) → is_broken (drop at l) ≡ c → more_at l at ≡ true
    go true t b u c v = cc (sym e ∙ pick_yes _ _ t)
    go false t true u c v = cc (sym e ∙ pick_no _ _ t ∙ pick_yes _ _ u)
    go false t false u true v = cc (sym e ∙ pick_no _ _ t ∙ pick_no _ _ u ∙ pick_yes _ _ v)
    go false t false u false v = pick_no _ _ t ∙ ap not v

size_is : (l : List ℕ) → record_size l ≡ 16 + number 4 8 l
unfolding record_size
size_is l = refl

-- where the record that a step finds lies
pub spot_within : (l : List ℕ) (at : ℕ) → more_at l at ≡ true → (at + 16 + number 4 8 (drop at l) ≤ length l) × (past_at l at ≡ at + 16 + number 4 8 (drop at l))
spot_within l at e =
    let w = broken_no (drop at l) (more_yes l at e).1 in
    let z = size_is (drop at l) in
    let p : past_at l at ≡ at + record_size (drop at l) = pick_yes _ _ e in (
      omega (arith, w.0, w.2, length-drop at l),
      omega arith,
    )

-- ---- the last step

-- it is the one where no record stands
pub stops : (most k at : ℕ) (l : List ℕ) → more_at l at ≡ false → last_from most k at l ≡ step_at l at k
unfolding last_from
stops zero k at l e = refl
stops (suc most) k at l e = pick_no _ _ e

pub goes_on : (most k at : ℕ) (l : List ℕ) → more_at l at ≡ true → last_from (suc most) k at l ≡ last_from most (suc k) (past_at l at) l
unfolding last_from
goes_on most k at l e = pick_yes _ _ e

-- what is answered behind k records
abbrev behind : ℕ → Records → ListAnswer Next
behind k (whole rs) = gives_all None
behind k (broken_after rs) = refused_at 25 (k + length rs)

behind_one : (k : ℕ) (r : Recorded) (rs : Records) → behind (suc k) rs ≡ behind k (in_front r rs)
behind_one k r (whole rs) = refl
behind_one k r (broken_after rs) = ap (refused_at 25) (omega arith)

-- From a place on the steps lead to the end of the records that they give, or to the one that is broken.
lasts : (l : List ℕ) (most : ℕ) (at k : ℕ) (rs : Records) → length (drop at l) ≤ most → Steps l at k rs → last_from most k at l ≡ behind k rs
unfolding last_from
lasts l most _ _ _ f (ends at k e) = stops most k at l (fails _ (λ m. true≢false (cc (sym e ∙ there_found l at k m)))) ∙ e
lasts l most _ _ _ f (breaks at k e) = stops most k at l (fails _ (λ m. true≢false (cc (sym e ∙ there_found l at k m)))) ∙ e ∙ ap (refused_at 25) (omega arith)
lasts l zero _ _ _ f (goes at k s rs e n t) =
    let w = broken_no (drop at l) (more_yes l at (found_there l at k s e)).1 in
    absurd (omega (arith, w.0))
lasts l (suc most) _ _ _ f (goes at k s rs e n t) =
    let m = found_there l at k s e in
    let w = broken_no (drop at l) (more_yes l at m).1 in
    let p : past_at l at ≡ at + record_size (drop at l) = pick_yes _ _ m in
    pick_yes _ _ m ∙ lasts l most (past_at l at) (suc k) rs (omega (arith, p, length-drop at l, length-drop (past_at l at) l, size_more (drop at l), w.0)) t ∙ behind_one k (recorded_at l s) rs

pub steps_end : StepsEnd
steps_end l = go (starts_with file_header l) refl
  where
    told : (rs : Records) → behind 0 rs ≡ to_the_end (all_of rs)
    told (whole rs) = refl
    told (broken_after rs) = ap (refused_at 25) (omega arith)

    go : (b : Bool) → starts_with file_header l ≡ b → last_of l ≡ to_the_end (records_answer l)
    go true e =
        let rs : Records = records_of (drop header_size l) in
        lasts l (length l) (open_at l) 0 rs (omega (arith, length-drop (open_at l) l)) (steps_read.reads l e) ∙ told rs ∙ sym (ap to_the_end (pick_yes _ _ e))
    go false e = stops (length l) 0 (open_at l) l (rw e) ∙ (steps_read.unopened l e 0).0 ∙ sym (ap to_the_end (pick_no _ _ e))
