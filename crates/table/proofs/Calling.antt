-- What each call of a table leads to, by what its steps answered.
use Rattle.std.specs.Prelude.{Option, None, Some, Result, Ok, Err}
use mathlib.Core.Path.{◌≡◌, refl, sym, ap, ◌∙◌, subst}
use mathlib.Core.Bool.{Bool, true, false, cond}
use mathlib.Core.List.{List}
use Prim.Native.Nat.{ℕ, ◌+◌, ◌*◌, ◌≤◌}
use native.Mathlib.Omega.{arith}
use lib.Dec.{ltb}
use lib.ListN.{length, set, length-replicate}
use Rattle.pkt.specs.Answers.{Answer, refused, gives, and_then, mapped, says}
use Rattle.pkt.specs.Refusal.{number_of}
use Rattle.pkt.specs.declared.refusal.Refusal.{Refusal}
use Rattle.pkt.specs.Written.{zeros}
use Rattle.pkt.proofs.Choice.{pick_yes, pick_no}
use Rattle.pkt.proofs.Deciding.{past}
use Rattle.inspect.specs.declared.header.IpRead.{IpRead}
use Rattle.assembly.specs.declared.Key.{Key}
use Rattle.assembly.specs.declared.Rec.{Rec}
use Rattle.assembly.specs.Assembly.{State, opened, step}
use Rattle.assembly.specs.Piece.{Piece}
use Rattle.assembly.specs.Carried.{key_of, broken, fit_answer}
use Rattle.assembly.specs.View.{view, record_of, piece}
use Rattle.table.specs.declared.Slot.{Slot}
use Rattle.table.specs.declared.Landing.{Landing}
use Rattle.table.specs.declared.After.{After}
use Rattle.assembly.specs.declared.Outcome.{Outcome}
use Rattle.table.specs.Slots.{slot_bytes, slot_map, part_of, with_part, free_slot, state_at, key_from, free_from, table_fits, Sized}
use Rattle.table.specs.Steps.{landing_of, Lands, FitsSlot, OutOf}
use Rattle.table.specs.Table.{Placing, placing, opened_at, placed_at, place_for, stepped_by, piece_for, table_take, Tables, held_for, discard_answer, slots_without, part_without, Discards, Outing, out_of, out_answer, slot_in, datagram_in, TakesOut}
use Rattle.table.proofs.Parts.{part_back, part_again}
use Rattle.table.proofs.Stepping.{any_number}

-- equal answers leave the same
pub tables_as : (a b : Answer Placing) (t : List Slot) (d m : List ℕ) (r : After Outcome) (d' m' : List ℕ) → a ≡ b → Tables b t d m r d' m' → Tables a t d m r d' m'
tables_as a b t d m r d' m' e x = subst (λ (y : Answer Placing). Tables y t d m r d' m') (sym e) x

-- a refusal leaves all as it was
pub refused_tables : (n : ℕ) (t : List Slot) (d m : List ℕ) (r : After Outcome) → (r.table ≡ t) × (says r.answer ≡ refused n) → Tables (refused n) t d m r d m
refused_tables n t d m r e = record { answer = e.1; slots_are = e.0; payloads_are = refl; maps_are = refl }

-- the same before anything is stored
pub lands_as : (a b : Answer Placing) (d m : List ℕ) (x : Result Landing Refusal) (d' m' : List ℕ) → a ≡ b → Lands b d m x d' m' → Lands a d m x d' m'
lands_as a b d m x d' m' e l = subst (λ (y : Answer Placing). Lands y d m x d' m') (sym e) l

pub refused_lands : (e : Refusal) (d m : List ℕ) → Lands (refused (number_of e)) d m (Err e) d m
refused_lands e d m =
    record {
      below = λ y q. let z : ◌≡◌ {A = ℕ} 0 1 = cc in absurd (omega arith);
      answer = refl;
      payloads_are = refl;
      maps_are = refl;
    }

-- ---- 9 and 20

-- what fits is the header that was asked about
pub fit_same : (C far n : ℕ) (h p : IpRead) → fit_answer C far n h ≡ gives p → p ≡ h
unfolding fit_answer
fit_same C far n h p e = go (broken h.mf n) (ltb C (8 * h.off + n)) e
  where
    go : (a b : Bool) → cond a (refused 9) (cond b (refused far) (gives h)) ≡ gives p → p ≡ h
    go a b q = let x = past a 9 (cond b (refused far) (gives h)) p q in let y = past b far (gives h) p x.1 in sym (cc y.1)

pub fits_slot : (far n : ℕ) (h p : IpRead) → fit_answer slot_bytes far n h ≡ gives p → FitsSlot p n
fits_slot far n h p e =
    let same = fit_same slot_bytes far n h p e in
    any_number slot_bytes far 20 n p (ap (fit_answer slot_bytes far n) same ∙ e)

module _ (t : List Slot) (d m : List ℕ) (h : IpRead) (b : List ℕ) where
  pub piece_refused : (n : ℕ) → fit_answer slot_bytes 20 (length b) h ≡ refused n → piece_for t d m h b ≡ refused n
  unfolding piece_for
  piece_refused n e = ap (λ (x : Answer IpRead). and_then x (λ g. mapped (stepped_by (piece h.off h.mf b)) (place_for t d m (key_of h)))) e

  pub piece_placed : (p : IpRead) → fit_answer slot_bytes 20 (length b) h ≡ gives p
      → piece_for t d m h b ≡ mapped (stepped_by (piece p.off p.mf b)) (place_for t d m (key_of p))
  unfolding piece_for
  piece_placed p e =
      ap (λ (x : Answer IpRead). and_then x (λ g. mapped (stepped_by (piece h.off h.mf b)) (place_for t d m (key_of h)))) e
      ∙ ap (λ (q : IpRead). mapped (stepped_by (piece q.off q.mf b)) (place_for t d m (key_of q))) (sym (fit_same slot_bytes 20 (length b) h p e))

-- ---- 11 and the header

module _ (t : List Slot) (d m l : List ℕ) where
  pub table_eleven : table_fits t (length d) (length m) ≡ false → table_take t d m l ≡ refused 11
  unfolding table_take
  table_eleven e = pick_no _ _ e

  pub table_usable : table_fits t (length d) (length m) ≡ true → table_take t d m l ≡ landing_of t d m l
  unfolding table_take
  table_usable u = pick_yes _ _ u

-- ---- the slot

module _ (t : List Slot) (d m : List ℕ) (k : Key) (p : Piece) where
  -- no slot has the key
  pub place_new : key_from 0 k t ≡ None → mapped (stepped_by p) (place_for t d m k) ≡ mapped (stepped_by p) (opened_at k (free_from 0 t))
  place_new e = ap (λ (f : Option ℕ). mapped (stepped_by p) (placed_at t d m k f)) e

  -- slot i has it
  pub place_at : (i : ℕ) → key_from 0 k t ≡ Some i → mapped (stepped_by p) (place_for t d m k) ≡ gives (placing i (step (state_at t d m i) p))
  place_at i e = ap (λ (f : Option ℕ). mapped (stepped_by p) (placed_at t d m k f)) e

  -- none is free
  pub new_full : free_from 0 t ≡ None → mapped (stepped_by p) (opened_at k (free_from 0 t)) ≡ refused 19
  new_full e = ap (λ (f : Option ℕ). mapped (stepped_by p) (opened_at k f)) e

  -- slot i is
  pub new_at : (i : ℕ) → free_from 0 t ≡ Some i → mapped (stepped_by p) (opened_at k (free_from 0 t)) ≡ gives (placing i (step (opened k slot_bytes slot_map) p))
  new_at i e = ap (λ (f : Option ℕ). mapped (stepped_by p) (opened_at k f)) e

-- A step on slot i once it was opened is the step on an opened assembly.
pub opened_step : (d m d₁ m₁ : List ℕ) (k : Key) (x : Rec) (i : ℕ) (p : Piece) (r : Result Landing Refusal) (d' m' : List ℕ) → Sized i (length d) (length m)
    → x ≡ record_of (opened k slot_bytes slot_map) → d₁ ≡ with_part slot_bytes i (zeros slot_bytes) d → m₁ ≡ with_part slot_map i (zeros slot_map) m
    → Lands (gives (placing i (step (view x (part_of slot_bytes i d₁) (part_of slot_map i m₁)) p))) d₁ m₁ r d' m'
    → Lands (gives (placing i (step (opened k slot_bytes slot_map) p))) d m r d' m'
opened_step d m d₁ m₁ k x i p r d' m' at ex ed em y =
    let zd : length (zeros slot_bytes) ≡ slot_bytes = length-replicate {A = ℕ} slot_bytes 0 in
    let zm : length (zeros slot_map) ≡ slot_map = length-replicate {A = ℕ} slot_map 0 in
    let id : slot_bytes * i ≤ length d = omega (arith, at.one, at.payloads) in
    let im : slot_map * i ≤ length m = omega (arith, at.one, at.maps) in
    let pd : part_of slot_bytes i d₁ ≡ zeros slot_bytes = ap (part_of slot_bytes i) ed ∙ part_back slot_bytes i (zeros slot_bytes) d zd id in
    let pm : part_of slot_map i m₁ ≡ zeros slot_map = ap (part_of slot_map i) em ∙ part_back slot_map i (zeros slot_map) m zm im in
    let s : view x (part_of slot_bytes i d₁) (part_of slot_map i m₁) ≡ opened k slot_bytes slot_map =
    ap (λ (z : Rec). view z (part_of slot_bytes i d₁) (part_of slot_map i m₁)) ex
    ∙ ap (λ (z : List ℕ). view (record_of (opened k slot_bytes slot_map)) z (part_of slot_map i m₁)) pd
    ∙ ap (λ (z : List ℕ). view (record_of (opened k slot_bytes slot_map)) (zeros slot_bytes) z) pm in
    let w = lands_as _ _ d₁ m₁ r d' m' (ap (λ (z : State). gives (placing i (step z p))) (sym s)) y in
    record {
      below = w.below;
      answer = w.answer;
      payloads_are = w.payloads_are ∙ ap (with_part slot_bytes i _) ed ∙ part_again slot_bytes i (zeros slot_bytes) _ d zd id;
      maps_are = w.maps_are ∙ ap (with_part slot_map i _) em ∙ part_again slot_map i (zeros slot_map) _ m zm im;
    }

-- ---- discarding

module _ (t : List Slot) (d m : List ℕ) (k : Key) where
  abbrev here : Answer ℕ
  here = discard_answer t (length d) (length m) k

  pub discard_eleven : table_fits t (length d) (length m) ≡ false → here ≡ refused 11
  unfolding discard_answer
  discard_eleven e = pick_no _ _ e

  pub discard_found : (f : Option ℕ) → table_fits t (length d) (length m) ≡ true → key_from 0 k t ≡ f → here ≡ held_for f
  unfolding discard_answer
  discard_found f u e = pick_yes _ _ u ∙ ap held_for e

  pub discard_refused : (n : ℕ) (r : After (Unit {0})) → here ≡ refused n → (r.table ≡ t) × (says r.answer ≡ refused n) → Discards t d m k r d m
  discard_refused n r a e =
      record {
        answer = e.1 ∙ sym (ap (mapped (λ i. tt {0})) a);
        slots_are = e.0 ∙ sym (ap (λ (x : Answer ℕ). slots_without x t) a);
        payloads_are = sym (ap (λ (x : Answer ℕ). part_without slot_bytes x d) a);
        maps_are = sym (ap (λ (x : Answer ℕ). part_without slot_map x m) a);
      }

  pub discard_done : (i : ℕ) (u : List Slot) (d' m' : List ℕ) → here ≡ gives i → u ≡ set t i free_slot → d' ≡ with_part slot_bytes i (zeros slot_bytes) d
      → m' ≡ with_part slot_map i (zeros slot_map) m → Discards t d m k (record { table = u; answer = Ok tt }) d' m'
  discard_done i u d' m' a eu ed em =
      record {
        answer = sym (ap (mapped (λ i. tt {0})) a);
        slots_are = eu ∙ sym (ap (λ (x : Answer ℕ). slots_without x t) a);
        payloads_are = ed ∙ sym (ap (λ (x : Answer ℕ). part_without slot_bytes x d) a);
        maps_are = em ∙ sym (ap (λ (x : Answer ℕ). part_without slot_map x m) a);
      }

-- ---- taking out

module _ (t : List Slot) (d m : List ℕ) (k : Key) (o : List ℕ) where
  abbrev out : Answer Outing
  out = out_answer t d m k (length o)

  pub out_eleven : table_fits t (length d) (length m) ≡ false → out ≡ refused 11
  unfolding out_answer
  out_eleven e = pick_no _ _ e

  pub out_absent : table_fits t (length d) (length m) ≡ true → key_from 0 k t ≡ None → out ≡ refused 27
  unfolding out_answer
  out_absent u e = pick_yes _ _ u ∙ ap (λ (f : Option ℕ). and_then (held_for f) (λ i. out_of (state_at t d m i) i (length o))) e

  pub out_at : (i : ℕ) → table_fits t (length d) (length m) ≡ true → key_from 0 k t ≡ Some i → out ≡ out_of (state_at t d m i) i (length o)
  unfolding out_answer
  out_at i u e = pick_yes _ _ u ∙ ap (λ (f : Option ℕ). and_then (held_for f) (λ i. out_of (state_at t d m i) i (length o))) e

  pub out_refused : (n : ℕ) (r : After ℕ) → out ≡ refused n → (r.table ≡ t) × (says r.answer ≡ refused n) → TakesOut t d m k o r d m o
  out_refused n r a e =
      record {
        answer = e.1 ∙ sym (ap (mapped (λ x. length x.datagram)) a);
        slots_are = e.0 ∙ sym (ap (λ (x : Answer Outing). slots_without (slot_in x) t) a);
        payloads_are = sym (ap (λ (x : Answer Outing). part_without slot_bytes (slot_in x) d) a);
        maps_are = sym (ap (λ (x : Answer Outing). part_without slot_map (slot_in x) m) a);
        output_is = sym (ap (λ (x : Answer Outing). datagram_in x o) a);
      }

  pub out_done : (i : ℕ) (r : After ℕ) (d' m' o' : List ℕ) → out ≡ out_of (state_at t d m i) i (length o) → OutOf t i d m o r d' m' o' → TakesOut t d m k o r d' m' o'
  out_done i r d' m' o' a x =
      record {
        answer = x.answer ∙ sym (ap (mapped (λ y. length y.datagram)) a);
        slots_are = x.slots_are ∙ sym (ap (λ (y : Answer Outing). slots_without (slot_in y) t) a);
        payloads_are = x.payloads_are ∙ sym (ap (λ (y : Answer Outing). part_without slot_bytes (slot_in y) d) a);
        maps_are = x.maps_are ∙ sym (ap (λ (y : Answer Outing). part_without slot_map (slot_in y) m) a);
        output_is = x.output_is ∙ sym (ap (λ (y : Answer Outing). datagram_in y o) a);
      }
