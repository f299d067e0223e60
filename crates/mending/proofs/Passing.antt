-- What a pass has in hand after so many records: what is left, done from there, comes to the whole.
use mathlib.Core.Path.{◌≡◌, refl, sym, ap, ap₂, subst, ◌∙◌}
use Prim.Native.Nat.{ℕ, zero, suc, ◌+◌, ◌-◌, ◌^◌, ◌≤◌, ◌<◌}
use native.Mathlib.Omega.{arith}
use Rattle.std.proofs.Common.{true≢false}
use mathlib.Core.Bool.{true, false}
use mathlib.Core.List.{List, [], ◌∷◌, ◌++◌}
use lib.ListN.{length}
use lib.Seq.{sets, length-sets}
use Rattle.std.specs.Prelude.{Ok, Err, Some, None}
use Rattle.pkt.specs.Answers.{Answer, refused, gives, ListAnswer, refused_whole, refused_at, gives_all, list_says}
use Rattle.pkt.specs.declared.refusal.ListRefusal.{ListRefusal}
use Rattle.pkt.specs.declared.refusal.ListRefusal.TheVariants as refusal
use Rattle.pkt.proofs.Choice.{fails, pick_yes, pick_no}
use Rattle.pcap.specs.Read.{Recorded}
use Rattle.inspect.specs.declared.check.Whole.{Whole}
use Rattle.inspect.specs.Check.{examine_answer}
use Rattle.inspect.specs.declared.header.IpRead.{IpRead}
use Rattle.inspect.specs.declared.check.Kind.{Kind}
use Rattle.inspect.specs.declared.check.Kind.TheVariants.{Tcp, Udp, Bare, Icmp}
use Rattle.reading.specs.Reading.{Next, open_at, spot_at, packet_at, step_at, more_at, past_at, count_past}
use Rattle.reading.specs.Ends.{records_answer, last_from, last_of, to_the_end}
use Rattle.reading.specs.declared.Spot.{Spot}
use Rattle.reading.proofs.Stepping.{steps_read}
use Rattle.reading.proofs.Ending.{there_found, found_there, spot_within, stops, goes_on, steps_end}
use Rattle.mending.specs.Sums.{part_fields, fields_of, sums_in}
use Rattle.mending.specs.Mend.{Listed, listed, sums_at, sums_from, sums_of, put_sums, changes_of, changes, and_then_all}
use Rattle.mending.specs.Pass.{PutAsks, Put, Passes}
use Rattle.mending.specs.declared.sums.SumField.{SumField}
use Rattle.mending.proofs.Changes.{changes_append, changes_few, changes_count, sets_append}
use Rattle.mending.proofs.Placing.{put_append, put_length}

-- ---- a packet has at most two fields

part_few : (k : Kind) (h : IpRead) (p : List ℕ) → length (part_fields k h p) ≤ 1
unfolding part_fields
part_few Tcp h p = omega arith
part_few Udp h p = omega arith
part_few Bare h p = omega arith
part_few Icmp h p = omega arith

pub sums_few : (p : List ℕ) → length (sums_in p) ≤ 2
unfolding sums_in
sums_few p = go (examine_answer p)
  where
    go : (a : Answer Whole) → length (fields_of a p) ≤ 2
    go (refused n) = omega arith
    go (gives w) = omega (arith, part_few w.kind w.header p)

listed_length : (k which start : ℕ) (fs : List SumField) → length (listed k which start fs) ≡ length fs
listed_length k which start [] = refl
listed_length k which start (f ∷ fs) = ap suc (listed_length k (suc which) start fs)

-- ---- a step that finds a record

changes_two : (l : List ℕ) (at k : ℕ) → more_at l at ≡ true → length (changes_of (sums_at l (step_at l at k))) ≤ 2
unfolding sums_at
changes_two l at k e =
    let s = spot_at l at k in
    rw (there_found l at k e)
    (omega (
      arith,
      changes_few (listed k 0 (at + 16) (sums_in (packet_at l s))),
      listed_length k 0 (at + 16) (sums_in (packet_at l s)),
      sums_few (packet_at l s),
    ))

-- the record that a step found
found_is : (l : List ℕ) (at k : ℕ) (s : Spot) → gives_all (Some s) ≡ step_at l at k → (more_at l at ≡ true) × (s ≡ spot_at l at k)
found_is l at k s e =
    let m = found_there l at k s (sym e) in
    let q : ◌≡◌ {A = ListAnswer Next} (gives_all (Some s)) (gives_all (Some (spot_at l at k))) = e ∙ there_found l at k m in
    (m, cc)

pub spot_asks : (l : List ℕ) (at k c : ℕ) (s : Spot) → gives_all (Some s) ≡ step_at l at k → c ≤ at → PutAsks l s c
spot_asks l at k c s e few =
    let f = found_is l at k s e in
    subst (λ (t : Spot). PutAsks l t c) (sym f.1) (record { within = (spot_within l at f.0).0; few = omega arith })

-- and a step that found none
none_there : (l : List ℕ) (at k : ℕ) → gives_all None ≡ step_at l at k → more_at l at ≡ false
none_there l at k e = fails _ (λ m. true≢false (cc (e ∙ there_found l at k m)))

refused_there : (l : List ℕ) (at k : ℕ) (r : ListRefusal) → list_says {A = Next} (Err r) ≡ step_at l at k → more_at l at ≡ false
refused_there l at k (refusal.Whole x) e = fails _ (λ m. true≢false (cc (e ∙ there_found l at k m)))
refused_there l at k (refusal.At x i) e = fails _ (λ m. true≢false (cc (e ∙ there_found l at k m)))

-- ---- a turn

pub sums_turn : (m : ℕ) (l : List ℕ) (at k : ℕ) → more_at l at ≡ true
    → sums_from (suc m) k at l ≡ sums_at l (step_at l at k) ++ sums_from m (suc k) (past_at l at) l
unfolding sums_from
sums_turn m l at k e = pick_yes _ _ e

pub sums_end : (m : ℕ) (l : List ℕ) (at k : ℕ) → more_at l at ≡ false → sums_from m k at l ≡ []
unfolding sums_from
sums_end zero l at k e = refl
sums_end (suc m) l at k e = pick_no _ _ e

-- where a pass through l, with the output os and the list es at first, is: the place, the records and the changes before it, the turns that are
-- left, the output and the list
pub record Facts (l os : List ℕ) (es : List (List ℕ)) (at k c m : ℕ) (o : List ℕ) (e : List (List ℕ)) : Type 0 where
  pub enough : length l - at ≤ m
  pub number_fits : k ≤ at
  pub changes_fit : c ≤ at
  pub output : put_sums (sums_from m k at l) o ≡ put_sums (sums_of l) os
  pub rows : sets e c (changes_of (sums_from m k at l)) ≡ sets es 0 (changes_of (sums_of l))
  pub count : c + length (changes_of (sums_from m k at l)) ≡ length (changes_of (sums_of l))
  pub last : last_from m k at l ≡ last_of l
  pub long_output : length o ≡ length os
  pub long_rows : length e ≡ length es

pub at_start : (l os : List ℕ) (es : List (List ℕ)) → Facts l os es (open_at l) 0 0 (length l) os es
at_start l os es =
    record {
      enough = omega arith;
      number_fits = omega arith;
      changes_fit = omega arith;
      output = refl;
      rows = refl;
      count = omega arith;
      last = refl;
      long_output = refl;
      long_rows = refl;
    }

pub at_next : (l os : List ℕ) (es : List (List ℕ)) (at k c m : ℕ) (o : List ℕ) (e : List (List ℕ)) → more_at l at ≡ true → Facts l os es at k c m o e
    → Facts l os es (past_at l at) (suc k) (c + length (changes_of (sums_at l (step_at l at k)))) (m - 1)
    (put_sums (sums_at l (step_at l at k)) o) (sets e c (changes_of (sums_at l (step_at l at k))))
at_next l os es at k c m o e h f =
    let w = spot_within l at h in
    let ss : List Listed = sums_at l (step_at l at k) in
    let ts : List Listed = sums_from (m - 1) (suc k) (past_at l at) l in
    let one : m ≡ suc (m - 1) = omega (arith, w.0, f.enough) in
    let all : sums_from m k at l ≡ ss ++ ts = ap (λ (j : ℕ). sums_from j k at l) one ∙ sums_turn (m - 1) l at k h in
    record {
      enough = omega (arith, w.0, w.1, f.enough);
      number_fits = omega (arith, w.1, f.number_fits);
      changes_fit = omega (arith, w.1, f.changes_fit, changes_two l at k h);
      output = sym (put_append ss ts o) ∙ ap (λ (a : List Listed). put_sums a o) (sym all) ∙ f.output;
      rows = sym (sets_append c (changes_of ss) (changes_of ts) e) ∙ ap (λ (a : List (List ℕ)). sets e c a) (sym (changes_append ss ts))
          ∙ ap (λ (a : List Listed). sets e c (changes_of a)) (sym all) ∙ f.rows;
      count = omega (arith, changes_count ss ts, ap (λ (a : List Listed). length (changes_of a)) all, f.count);
      last = sym (ap (λ (j : ℕ). last_from j k at l) one ∙ goes_on (m - 1) k at l h) ∙ f.last;
      long_output = put_length ss o ∙ f.long_output;
      long_rows = length-sets e c (changes_of ss) ∙ f.long_rows;
    }

-- what is answered of the records where the steps end
ended_all : (a : ListAnswer (List Recorded)) (b : ListAnswer ℕ) → gives_all None ≡ to_the_end a → and_then_all a b ≡ b
ended_all (gives_all rs) b e = refl
ended_all (refused_whole n) b e = cc
ended_all (refused_at n k) b e = cc

-- .. and where the last refuses
ended_refused : (a : ListAnswer (List Recorded)) (b : ListAnswer ℕ) (r : ListRefusal) → list_says {A = Next} (Err r) ≡ to_the_end a
    → list_says (Err r) ≡ and_then_all a b
ended_refused (gives_all rs) b (refusal.Whole x) e = cc
ended_refused (gives_all rs) b (refusal.At x i) e = cc
ended_refused (refused_whole n) b (refusal.Whole x) e = ap refused_whole (cc)
ended_refused (refused_whole n) b (refusal.At x i) e = cc
ended_refused (refused_at n k) b (refusal.Whole x) e = cc
ended_refused (refused_at n k) b (refusal.At x i) e = ap₂ refused_at (cc) (cc)

module _ (l os : List ℕ) (es : List (List ℕ)) (at k c m : ℕ) (o : List ℕ) (e : List (List ℕ)) (f : Facts l os es at k c m o e) where
  -- where no record stands
  record Ended : Type 0 where
    output : o ≡ put_sums (sums_of l) os
    rows : e ≡ sets es 0 (changes l)
    count : c ≡ length (changes l)
    last : step_at l at k ≡ to_the_end (records_answer l)

  ended : more_at l at ≡ false → Ended
  unfolding put_sums changes_of
  ended h =
      let none : sums_from m k at l ≡ [] = sums_end m l at k h in
      let none-changed : changes_of (sums_from m k at l) ≡ [] = ap changes_of none in
      record {
        output = ap (λ (a : List Listed). put_sums a o) (sym none) ∙ f.output;
        rows = ap (λ (a : List (List ℕ)). sets e c a) (sym none-changed) ∙ f.rows;
        count = omega (arith, f.count, ap length none-changed);
        last = sym (stops m k at l h) ∙ f.last ∙ steps_end l;
      }

  pub at_end : gives_all None ≡ step_at l at k → Passes l os es (Ok c) o e
  at_end s =
      let w = ended (none_there l at k s) in
      record { output = w.output; rows = w.rows; says = ap gives_all w.count ∙ sym (ended_all (records_answer l) _ (s ∙ w.last)) }

  pub at_refusal : (r : ListRefusal) → list_says {A = Next} (Err r) ≡ step_at l at k → Passes l os es (Err r) o e
  at_refusal r s =
      let w = ended (refused_there l at k r s) in
      record { output = w.output; rows = w.rows; says = ended_refused (records_answer l) _ r (s ∙ w.last) }

-- the reader's count, and the bytes that are left, of which there are fewer
pub next_count : (l : List ℕ) (at k : ℕ) → length l < 2 ^ 64 → k ≤ at → more_at l at ≡ true → count_past l at k ≡ suc k
next_count l at k b h e = (steps_read.counts l at k b h e).0

pub falls : (l : List ℕ) (at : ℕ) → more_at l at ≡ true → length l - past_at l at < length l - at
falls l at e = let w = spot_within l at e in omega (arith, w.0, w.1)

-- A turn of the loop: what `put` leaves and where the reader then stands.
pub turn : (l os : List ℕ) (es : List (List ℕ)) (at k c m : ℕ) (o : List ℕ) (e : List (List ℕ)) (s : Spot) (at' k' c' : ℕ) (o' : List ℕ)
    (e' : List (List ℕ)) → length l < 2 ^ 64 → gives_all (Some s) ≡ step_at l at k → at' ≡ past_at l at → k' ≡ count_past l at k
    → Put (listed s.number 0 s.start (sums_in (packet_at l s))) c o e c' o' e' → Facts l os es at k c m o e → Facts l os es at' k' c' (m - 1) o' e'
unfolding sums_at
turn l os es at k c m o e s at' k' c' o' e' few is is_at is_k put f =
    let h = (found_is l at k s is).0 in
    let next = next_count l at k few f.number_fits h in
    let q : Put (sums_at l (step_at l at k)) c o e c' o' e' = subst (λ (a : ListAnswer Next). Put (sums_at l a) c o e c' o' e') is put in
    rw (is_at, is_k, next, q.count, q.output, q.rows) (at_next l os es at k c m o e h f)

-- There are fewer bytes left.
pub falls_found : (l : List ℕ) (at k : ℕ) (s : Spot) → gives_all (Some s) ≡ step_at l at k → length l - past_at l at < length l - at
falls_found l at k s is = falls l at (found_is l at k s is).0
