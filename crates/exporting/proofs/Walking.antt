-- A walk through a capture by steps: the records that are behind it, and those that are left.
use mathlib.Core.Path.{◌≡◌, refl, sym, ap, ◌∙◌}
use Prim.Native.Nat.{ℕ, suc, ◌≤◌}
use native.Mathlib.Omega.{arith}
use mathlib.Core.Bool.{true, false, true≢false}
use mathlib.Core.Logic.{◌⊎◌, inl, inr}
use mathlib.Core.List.{List, [], ◌∷◌, ◌++◌, append-nil}
use lib.ListN.{length, drop, length-append}
use Rattle.std.specs.Prelude.{None}
use Rattle.pkt.specs.Answers.{refused_at, gives_all}
use Rattle.pkt.proofs.Choice.{pick_yes}
use Rattle.pcap.specs.Pcap.{file_header}
use Rattle.pcap.specs.Read.{Recorded, Records, whole, broken_after, in_front, records_of}
use Rattle.reading.specs.Reading.{starts_with, header_size, open_at, spot_at, step_at, more_at, past_at}
use Rattle.reading.specs.Steps.{recorded_at, Steps, ends, breaks, goes}
use Rattle.reading.specs.Ends.{all_of, records_answer}
use Rattle.reading.specs.declared.Spot.{Spot}
use Rattle.reading.proofs.Stepping.{steps_read}
use Rattle.reading.proofs.Ending.{there_found, found_there, spot_within}

-- records, and behind them others
unfoldable pub joined : List Recorded → Records → Records
joined [] rs = rs
joined (r ∷ ds) rs = in_front r (joined ds rs)

joined_more : (ds : List Recorded) (r : Recorded) (rs : Records) → joined (ds ++ r ∷ []) rs ≡ joined ds (in_front r rs)
unfolding joined
joined_more [] r rs = refl
joined_more (d ∷ ds) r rs = ap (in_front d) (joined_more ds r rs)

pub joined_whole : (ds rs : List Recorded) → joined ds (whole rs) ≡ whole (ds ++ rs)
unfolding joined
joined_whole [] rs = refl
joined_whole (d ∷ ds) rs = ap (in_front d) (joined_whole ds rs)

joined_broken : (ds rs : List Recorded) → joined ds (broken_after rs) ≡ broken_after (ds ++ rs)
unfolding joined
joined_broken [] rs = refl
joined_broken (d ∷ ds) rs = ap (in_front d) (joined_broken ds rs)

-- A walk at a place of the capture l, with the records `done` behind it, and `rest` left.
pub record Walk (l : List ℕ) (at : ℕ) (done : List Recorded) (rest : Records) : Type 0 where
  pub steps : Steps l at (length done) rest
  pub all : joined done rest ≡ records_of (drop header_size l)
  pub few : length done ≤ at

-- It begins with all records left, where the capture starts with the file header.
pub walk_start : (l : List ℕ) → starts_with file_header l ≡ true → Walk l (open_at l) [] (records_of (drop header_size l))
unfolding joined
walk_start l e = record { steps = steps_read.reads l e; all = refl; few = omega arith }

-- the record at the place of a walk
abbrev pub record_here : List ℕ → ℕ → List Recorded → Recorded
record_here l at done = recorded_at l (spot_at l at (length done))

-- Where a record stands there, a step finds it, and it is the next.
pub walk_next : (l : List ℕ) (at : ℕ) (done : List Recorded) (rest : Records) → more_at l at ≡ true → Walk l at done rest
    → (left : Records) × (rest ≡ in_front (record_here l at done) left) × Walk l (past_at l at) (done ++ record_here l at done ∷ []) left
walk_next l at done rest more w = go w.steps w.all
  where
    one : length (done ++ record_here l at done ∷ []) ≡ suc (length done)
    one = length-append done (record_here l at done ∷ []) ∙ omega arith

    go : {rest : Records} → Steps l at (length done) rest → joined done rest ≡ records_of (drop header_size l)
        → (left : Records) × (rest ≡ in_front (record_here l at done) left) × Walk l (past_at l at) (done ++ record_here l at done ∷ []) left
    go (ends _ _ e) all = absurd (true≢false (cc (sym e ∙ there_found l at (length done) more)))
    go (breaks _ _ e) all = absurd (true≢false (cc (sym e ∙ there_found l at (length done) more)))
    go (goes _ _ s left e n next) all =
        let is : s ≡ spot_at l at (length done) = cc (sym e ∙ there_found l at (length done) more) in
        let first : in_front (recorded_at l s) left ≡ in_front (record_here l at done) left = ap (λ (x : Spot). in_front (recorded_at l x) left) is in (
          left,
          first,
          record {
            steps = rw one next;
            all = joined_more done (record_here l at done) left ∙ ap (joined done) (sym first) ∙ all;
            few = omega (arith, one, w.few, (spot_within l at more).1);
          },
        )

-- Where none stands there, it is at the end, or at a record that is broken; and all records are behind it.
pub walk_end : (l : List ℕ) (at : ℕ) (done : List Recorded) (rest : Records) → starts_with file_header l ≡ true → more_at l at ≡ false → Walk l at done rest
    → ((step_at l at (length done) ≡ gives_all None) × (records_answer l ≡ gives_all done))
    ⊎ ((step_at l at (length done) ≡ refused_at 25 (length done)) × (records_answer l ≡ refused_at 25 (length done)))
walk_end l at done rest header none w = go w.steps w.all
  where
    read : records_answer l ≡ all_of (records_of (drop header_size l))
    read = pick_yes _ _ header

    go : {rest : Records} → Steps l at (length done) rest → joined done rest ≡ records_of (drop header_size l)
        → ((step_at l at (length done) ≡ gives_all None) × (records_answer l ≡ gives_all done))
        ⊎ ((step_at l at (length done) ≡ refused_at 25 (length done)) × (records_answer l ≡ refused_at 25 (length done)))
    go (ends _ _ e) all = inl (e, read ∙ ap all_of (sym all ∙ joined_whole done [] ∙ ap whole (append-nil done)))
    go (breaks _ _ e) all = inr (e, read ∙ ap all_of (sym all ∙ joined_broken done [] ∙ ap broken_after (append-nil done)))
    go (goes _ _ s left e n next) all = absurd (true≢false (sym (found_there l at (length done) s e) ∙ none))
