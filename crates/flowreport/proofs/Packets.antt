-- The packets that steps find are those of the records that are read.
use mathlib.Core.Path.{◌≡◌, refl, sym, ap, ap₂, ◌∙◌}
use Prim.Native.Nat.{ℕ, zero, suc, ◌≤◌}
use native.Mathlib.Omega.{arith}
use mathlib.Core.Bool.{Bool, true, false, true≢false}
use mathlib.Core.List.{List, [], ◌∷◌, map}
use lib.ListN.{length, drop, length-drop}
use Rattle.pkt.specs.Answers.{refused_whole, gives_all}
use Rattle.pkt.proofs.Choice.{fails, pick_yes, pick_no}
use Rattle.pcap.specs.Pcap.{file_header}
use Rattle.pcap.specs.Read.{Recorded, Records, whole, broken_after, in_front, records_of}
use Rattle.reading.specs.Reading.{starts_with, header_size, open_at, spot_at, packet_at, more_at, past_at}
use Rattle.reading.specs.Steps.{recorded_at, Steps, ends, breaks, goes}
use Rattle.reading.specs.Ends.{all_of}
use Rattle.reading.specs.declared.Spot.{Spot}
use Rattle.reading.proofs.Stepping.{steps_read}
use Rattle.reading.proofs.Ending.{there_found, found_there, spot_within}
use Rattle.flowreport.specs.Gather.{packets_from, packets_of, PacketsRead}

-- ---- one step: where a record stands its packet comes first, and where none does there are no more

pub packets_turn : (m k at : ℕ) (l : List ℕ) → more_at l at ≡ true → packets_from (suc m) k at l ≡ packet_at l (spot_at l at k) ∷ packets_from m (suc k) (past_at l at) l
unfolding packets_from
packets_turn m k at l e = pick_yes _ _ e

pub packets_end : (m k at : ℕ) (l : List ℕ) → more_at l at ≡ false → packets_from m k at l ≡ []
unfolding packets_from
packets_end zero k at l e = refl
packets_end (suc m) k at l e = pick_no _ _ e

-- ---- all of them

-- the packets of records, also where a broken one follows
unfoldable packets_in : Records → List (List ℕ)
packets_in (whole rs) = map (λ r. r.stamped.packet) rs
packets_in (broken_after rs) = map (λ r. r.stamped.packet) rs

front_packet : (r : Recorded) (w : Records) → packets_in (in_front r w) ≡ r.stamped.packet ∷ packets_in w
unfolding packets_in
front_packet r (whole rs) = refl
front_packet r (broken_after rs) = refl

-- what steps give, from a place on
packets_steps : (l : List ℕ) (m at k : ℕ) (rs : Records) → length (drop at l) ≤ m → Steps l at k rs → packets_from m k at l ≡ packets_in rs
unfolding packets_in
packets_steps l m _ _ _ f (ends at k e) = packets_end m k at l (fails _ (λ t. true≢false (cc (sym e ∙ there_found l at k t))))
packets_steps l m _ _ _ f (breaks at k e) = packets_end m k at l (fails _ (λ t. true≢false (cc (sym e ∙ there_found l at k t))))
packets_steps l zero _ _ _ f (goes at k s rs e n t) =
    let w = spot_within l at (found_there l at k s e) in
    absurd (omega (arith, w.0, length-drop at l))
packets_steps l (suc m) _ _ _ f (goes at k s rs e n t) =
    let h = found_there l at k s e in
    let w = spot_within l at h in
    let is : spot_at l at k ≡ s = cc (sym (there_found l at k h) ∙ e) in
    packets_turn m k at l h
    ∙ ap₂ (λ (x : Spot) (ps : List (List ℕ)). packet_at l x ∷ ps) is
    (packets_steps l m (past_at l at) (suc k) rs (omega (arith, w.0, w.1, length-drop at l, length-drop (past_at l at) l)) t)
    ∙ sym (front_packet (recorded_at l s) rs)

-- .. where no record is broken
packets_whole : (w : Records) (rs : List Recorded) → all_of w ≡ gives_all rs → packets_in w ≡ map (λ r. r.stamped.packet) rs
unfolding packets_in
packets_whole (whole ws) rs e = let same : ws ≡ rs = cc e in ap (map (λ r. r.stamped.packet)) same
packets_whole (broken_after ws) rs e = let z : ◌≡◌ {A = ℕ} 0 1 = cc e in absurd (omega arith)

pub packets_read : PacketsRead
packets_read l rs e = go (starts_with file_header l) refl
  where
    go : (b : Bool) → starts_with file_header l ≡ b → packets_of l ≡ map (λ r. r.stamped.packet) rs
    go true h =
        let w : Records = records_of (drop header_size l) in
        packets_steps l (length l) (open_at l) 0 w (omega (arith, length-drop (open_at l) l)) (steps_read.reads l h)
        ∙ packets_whole w rs (sym (pick_yes _ _ h) ∙ e)
    go false h = let z : ◌≡◌ {A = ℕ} 0 1 = cc (sym (pick_no _ (refused_whole 23) h) ∙ e) in absurd (omega arith)
