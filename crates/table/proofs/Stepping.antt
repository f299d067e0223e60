-- What the steps of a table's calls lead to.
use Rattle.std.specs.Prelude.{Option, None, Some, Result, Ok, Err}
use mathlib.Core.Path.{◌≡◌, refl, sym, ap, subst, ◌∙◌}
use mathlib.Core.Bool.{Bool, true, false, not, ◌&&◌, cond}
use mathlib.Core.List.{List, []}
use Prim.Native.Nat.{ℕ, ◌+◌, ◌*◌, ◌≤◌, ◌<◌}
use native.Mathlib.Omega.{arith}
use lib.ListN.{length, set, take, get_or, length-take}
use lib.Dec.{ltb}
use borrow.Author.Tests.{lt-ltb, le-ltb}
use Rattle.pkt.specs.Answers.{Answer, refused, gives, and_then, mapped, fitting, says}
use Rattle.pkt.specs.Refusal.{number_of}
use Rattle.pkt.specs.declared.refusal.Refusal.{Refusal}
use Rattle.pkt.specs.Written.{written}
use Rattle.pkt.proofs.Choice.{pick_yes, pick_no}
use Rattle.pkt.proofs.Deciding.{past}
use Rattle.inspect.specs.declared.header.IpRead.{IpRead}
use Rattle.assembly.specs.declared.Rec.{Rec}
use Rattle.assembly.specs.declared.Taken.{Taken}
use Rattle.assembly.specs.declared.step.Progress.{Progress}
use Rattle.assembly.specs.declared.step.Progress.TheVariants as progress
use Rattle.assembly.specs.Answers.{Steps, Standing, standing_of, stands}
use Rattle.assembly.specs.declared.Outcome.{Outcome}
use Rattle.assembly.specs.declared.Outcome.TheVariants.{Waiting, Complete, Spoilt}
use Rattle.assembly.specs.Assembly.{State, step, outcome}
use Rattle.assembly.specs.Assembly.{total_fits, record_fits, held_to, complete, bytes_below, held_bytes}
use Rattle.assembly.specs.Calls.{ready, put_answer, Puts, any_progress}
use Rattle.assembly.specs.Carried.{broken, fit_answer}
use Rattle.assembly.specs.View.{view, piece}
use Rattle.assembly.proofs.Steps.{steps_as}
use Rattle.assembly.proofs.Calls.{put_by}
use Rattle.table.specs.declared.Slot.{Slot}
use Rattle.table.specs.declared.Landing.{Landing}
use Rattle.table.specs.declared.After.{After}
use Rattle.table.specs.Slots.{slots, slot_bytes, slot_map, part_of, with_part, free_slot, state_at}
use Rattle.table.specs.Table.{Placing, placing, slots_after, Tables, Outing, outing, out_of, slots_without, part_without, slot_in, datagram_in}
use Rattle.table.specs.Steps.{Stored, landed_of, Lands, PutAsks, Occupied, length_in, MovedOut, OutOf}
use Rattle.table.proofs.Lowest.{usable_record}
use Rattle.table.proofs.Parts.{lent, back, lent_part, back_part, payload_length, map_length, first_of}

-- ---- a step on a slot

abbrev landing : ℕ → Taken → Landing
landing i r = record { slot = i; taken = r }

-- a record that fits makes a slot's state ready
slot_ready : (r : Rec) (p m : List ℕ) → length p ≡ slot_bytes → length m ≡ slot_map
    → record_fits slot_bytes r.total r.floor ≡ true → ready (view r p m) ≡ true
unfolding ready
slot_ready r p m e f h = simp (e, f, h)

-- where nothing is refused, the number for what is too far says nothing
pub any_number : (C far other n : ℕ) (h : IpRead) → fit_answer C far n h ≡ gives h → fit_answer C other n h ≡ gives h
unfolding fit_answer
any_number C far other n h e =
    let a = past (broken h.mf n) 9 _ h e in
    let b = past (ltb C (8 * h.off + n)) far _ h a.1 in
    pick_no _ _ a.0 ∙ pick_no _ _ b.0

module _ (i : ℕ) (x : Rec) (h : IpRead) (b d m : List ℕ) (asks : PutAsks x i h (length b) (length d) (length m)) where
  -- nothing is refused
  put_given : put_answer (view x (part_of slot_bytes i d) (part_of slot_map i m)) h b
      ≡ gives (step (view x (part_of slot_bytes i d) (part_of slot_map i m)) (piece h.off h.mf b))
  put_given =
      let l = payload_length i (length m) d asks.sized in
      let k = map_length i (length d) m asks.sized in
      put_by _ h b (gives h) (slot_ready x _ _ l k asks.fits)
      (ap (λ (n : ℕ). fit_answer n 10 (length b) h) l ∙ any_number slot_bytes 20 10 (length b) h asks.has_room)

  module _ (a : Result Taken Refusal) (d₁ m₁ : List ℕ) (call : Puts (view x (lent slot_bytes i d) (lent slot_map i m)) h b a d₁ m₁) where
    -- so the call is a step on the slot's state
    pub put_slot : Steps (gives (step (view x (part_of slot_bytes i d) (part_of slot_map i m)) (piece h.off h.mf b)))
        (view x (part_of slot_bytes i d) (part_of slot_map i m)) a d₁ m₁
    put_slot =
        steps_as _ _ (sym put_given)
        (subst (λ (p : List ℕ). Puts (view x (part_of slot_bytes i d) p) h b a d₁ m₁) (lent_part slot_map i m)
        (subst (λ (p : List ℕ). Puts (view x p (lent slot_map i m)) h b a d₁ m₁) (lent_part slot_bytes i d) call))

    -- it does not refuse,
    pub put_taken : (e : Refusal) → a ≡ Err e → ⊥
    put_taken e q = let w = sym (ap says q) ∙ put_slot.answer in let z : ◌≡◌ {A = ℕ} 0 1 = cc in omega arith

  module _ (a : Taken) (d₁ m₁ : List ℕ) (call : Puts (view x (lent slot_bytes i d) (lent slot_map i m)) h b (Ok a) d₁ m₁) where
    -- and lands there
    pub put_lands : Lands (gives (placing i (step (view x (part_of slot_bytes i d) (part_of slot_map i m)) (piece h.off h.mf b))))
        d m (Ok (record { slot = i; taken = a })) (back slot_bytes i d d₁) (back slot_map i m m₁)
    put_lands =
        let e = put_slot (Ok a) d₁ m₁ call in
        record {
          below = λ y q. let z : ◌≡◌ {A = Landing} (record { slot = i; taken = a }) y = cc in subst (λ (w : Landing). w.slot < slots) z asks.sized.one;
          answer = ap (λ (y : Answer Taken). mapped (λ r. landing i r) y) e.answer;
          payloads_are = back_part slot_bytes i d d₁ ∙ ap (λ (p : List ℕ). with_part slot_bytes i p d) e.payload_is;
          maps_are = back_part slot_map i m m₁ ∙ ap (λ (p : List ℕ). with_part slot_map i p m) e.map_is;
        }

-- ---- what has landed is stored

abbrev answers_by : Answer Landing → Answer Outcome
answers_by x = mapped (λ y. y.taken.answer) x

abbrev slots_by : Answer Landing → List Slot → List Slot
slots_by (gives x) t = set t x.slot (record { used = true; rec = x.taken.rec })
slots_by (refused n) t = t

-- with the answer and the slots after it
lands_stored : (a : Answer Placing) (t : List Slot) (d m : List ℕ) (x : Result Landing Refusal) (d' m' : List ℕ) (r : After Outcome) → Lands a d m x d' m'
    → says r.answer ≡ answers_by (says x) → r.table ≡ slots_by (says x) t → Tables a t d m r d' m'
lands_stored a t d m x d' m' r l q s =
    record {
      answer = q ∙ ap answers_by l.answer ∙ outcomes a;
      slots_are = s ∙ ap (λ (y : Answer Landing). slots_by y t) l.answer ∙ all_slots a;
      payloads_are = l.payloads_are;
      maps_are = l.maps_are;
    }
  where
    outcomes : (b : Answer Placing) → answers_by (mapped landed_of b) ≡ mapped (λ y. outcome y.state) b
    outcomes (gives y) = refl
    outcomes (refused n) = refl

    all_slots : (b : Answer Placing) → slots_by (mapped landed_of b) t ≡ slots_after b t
    all_slots (gives y) = refl
    all_slots (refused n) = refl

pub stored_lands : (a : Answer Placing) (t : List Slot) (d m : List ℕ) (x : Landing) (d' m' : List ℕ) (r : After Outcome) → Lands a d m (Ok x) d' m'
    → Stored t x r → Tables a t d m r d' m'
stored_lands a t d m x d' m' r l s = lands_stored a t d m (Ok x) d' m' r l (ap says s.answer) s.slots_are

pub refused_stored : (a : Answer Placing) (t : List Slot) (d m : List ℕ) (e : Refusal) (d' m' : List ℕ) (r : After Outcome) → Lands a d m (Err e) d' m'
    → (r.table ≡ t) × (says r.answer ≡ refused (number_of e)) → Tables a t d m r d' m'
refused_stored a t d m e d' m' r l s = lands_stored a t d m (Err e) d' m' r l s.1 s.0

-- ---- an occupied slot of a usable table

-- an opened record fits
pub opened_fits : record_fits slot_bytes None 0 ≡ true
unfolding record_fits total_fits
opened_fits = refl

-- 11 is not given of an occupied slot
held_stands : (t : List Slot) (i : ℕ) (d m : List ℕ) → Occupied t i (length d) (length m)
    → any_progress (view (get_or t i free_slot).rec (lent slot_bytes i d) (lent slot_map i m)) ≡ gives (standing_of (state_at t d m i))
held_stands t i d m h =
    let x : Rec = (get_or t i free_slot).rec in
    let f = usable_record t i (length d) (length m) h.usable h.used in
    let l = payload_length i (length m) d h.sized in
    let k = map_length i (length d) m h.sized in
    ap (λ (p : List ℕ). any_progress (view x p (lent slot_map i m))) (lent_part slot_bytes i d)
    ∙ ap (λ (p : List ℕ). any_progress (view x (part_of slot_bytes i d) p)) (lent_part slot_map i m)
    ∙ pick_yes _ _ (slot_ready x _ _ l k f)

-- ---- the length of a complete datagram

-- what progress says of it
abbrev pub length_by : Progress → Answer ℕ
length_by progress.Waiting = refused 27
length_by (progress.Complete n) = gives n
length_by progress.Spoilt = refused 27

-- whether an outcome is complete
abbrev is_done : Outcome → Bool
is_done Waiting = false
is_done Complete = true
is_done Spoilt = false

-- .. as a state's is
complete_done : (s : State) → complete s ≡ is_done (outcome s)
unfolding complete outcome
complete_done s = go s.spoilt (held_to s.map s.total)
  where
    go : (a b : Bool) → (not a && b) ≡ is_done (cond a Spoilt (cond b Complete Waiting))
    go true b = refl
    go false true = refl
    go false false = refl

-- the same by how an assembly stands
abbrev length_of : Standing → Answer ℕ
length_of x = cond (is_done x.answer) (gives x.bytes) (refused 27)

-- the two say the same
length_by_lem : (p : Progress) (s : State) → stands p ≡ standing_of s → length_by p ≡ length_in s
length_by_lem p s e = same p ∙ ap length_of e ∙ ap (λ (b : Bool). cond b (gives (length (held_bytes s))) (refused 27)) (sym (complete_done s))
  where
    same : (q : Progress) → length_by q ≡ length_of (stands q)
    same progress.Waiting = refl
    same (progress.Complete n) = refl
    same progress.Spoilt = refl

-- of an occupied slot
module _ (t : List Slot) (i : ℕ) (d m : List ℕ) (h : Occupied t i (length d) (length m)) where
  abbrev told : Answer Standing
  told = any_progress (view (get_or t i free_slot).rec (lent slot_bytes i d) (lent slot_map i m))

  -- 11 is not given,
  pub never_eleven : (n : ℕ) → refused n ≡ told → ⊥
  never_eleven n e = let w = e ∙ held_stands t i d m h in let z : ◌≡◌ {A = ℕ} 0 1 = cc in omega arith

  -- and progress p, which is q, tells the length
  pub length_told : (p q : Progress) → gives (stands p) ≡ told → p ≡ q → length_by q ≡ length_in (state_at t d m i)
  length_told p q e g = let w = e ∙ held_stands t i d m h in ap length_by (sym g) ∙ length_by_lem p (state_at t d m i) (cc w)

-- a length that is given is that of what is held
pub length_held : (s : State) (n : ℕ) → gives n ≡ length_in s → n ≡ length (held_bytes s)
length_held s n e = go (complete s) e
  where
    go : (b : Bool) → gives n ≡ cond b (gives (length (held_bytes s))) (refused 27) → n ≡ length (held_bytes s)
    go true q = cc
    go false q = let z : ◌≡◌ {A = ℕ} 0 1 = cc in absurd (omega arith)

-- ---- taking out

-- what is held is the first so many bytes of the payload
held_front : (s : State) → take (length (held_bytes s)) s.payload ≡ held_bytes s
unfolding held_bytes bytes_below
held_front s = go (complete s) s.total
  where
    below : (o : Option ℕ) → take (length (bytes_below o s.payload)) s.payload ≡ bytes_below o s.payload
    below None = refl
    below (Some n) = first_of n s.payload

    go : (b : Bool) (o : Option ℕ)
        → take (length (cond b (bytes_below o s.payload) [])) s.payload ≡ cond b (bytes_below o s.payload) []
    go true o = below o
    go false o = refl

-- so it has no more bytes
pub held_most : (s : State) → length (held_bytes s) ≤ length s.payload
held_most s = omega (arith, simp length-take at (ap length (held_front s)))

-- the answer by the length, then by the room
pub out_by_lem : (s : State) (i room : ℕ) (a : Answer ℕ) → a ≡ length_in s
    → out_of s i room ≡ and_then a (λ n. mapped (λ k. outing s i) (fitting n room))
out_by_lem s i room a e = go (complete s) ∙ ap (λ (x : Answer ℕ). and_then x (λ n. mapped (λ k. outing s i) (fitting n room))) (sym e)
  where
    go : (b : Bool) → cond b (mapped (λ k. outing s i) (fitting (length (held_bytes s)) room)) (refused 27)
        ≡ and_then (cond b (gives (length (held_bytes s))) (refused 27)) (λ n. mapped (λ k. outing s i) (fitting n room))
    go true = refl
    go false = refl

-- .. 3 where the length is above the room, and else the datagram
pub out_full : (s : State) (i room n : ℕ) → gives n ≡ length_in s → room < n → out_of s i room ≡ refused 3
out_full s i room n e h = out_by_lem s i room (gives n) e ∙ ap (mapped (λ k. outing s i)) (pick_yes _ _ (lt-ltb room n h))

pub out_fitting : (s : State) (i room n : ℕ) → gives n ≡ length_in s → n ≤ room → out_of s i room ≡ gives (outing s i)
out_fitting s i room n e h = out_by_lem s i room (gives n) e ∙ ap (mapped (λ k. outing s i)) (pick_no _ _ (le-ltb room n h))

-- what that answer leaves: all as it was, or the slot emptied and the datagram in the output
pub out_stayed : (t : List Slot) (i n : ℕ) (d m o : List ℕ) (r : After ℕ) → out_of (state_at t d m i) i (length o) ≡ refused n → r.table ≡ t
    → says r.answer ≡ refused n → OutOf t i d m o r d m o
out_stayed t i n d m o r e s q =
    record {
      answer = q ∙ ap (λ (a : Answer Outing). mapped (λ x. length x.datagram) a) (sym e);
      slots_are = s ∙ ap (λ (a : Answer Outing). slots_without (slot_in a) t) (sym e);
      payloads_are = ap (λ (a : Answer Outing). part_without slot_bytes (slot_in a) d) (sym e);
      maps_are = ap (λ (a : Answer Outing). part_without slot_map (slot_in a) m) (sym e);
      output_is = ap (λ (a : Answer Outing). datagram_in a o) (sym e);
    }

pub out_moved : (t : List Slot) (i n : ℕ) (d m o d' m' o' : List ℕ) (r : After ℕ)
    → out_of (state_at t d m i) i (length o) ≡ gives (outing (state_at t d m i) i)
    → n ≡ length (held_bytes (state_at t d m i)) → MovedOut t i n d m o r d' m' o' → OutOf t i d m o r d' m' o'
out_moved t i n d m o d' m' o' r e l c =
    let s : State = state_at t d m i in
    let f : take n (part_of slot_bytes i d) ≡ held_bytes s = ap (λ (k : ℕ). take k (part_of slot_bytes i d)) l ∙ held_front s in
    record {
      answer = c.answer ∙ ap gives l ∙ ap (λ (a : Answer Outing). mapped (λ x. length x.datagram) a) (sym e);
      slots_are = c.slots_are ∙ ap (λ (a : Answer Outing). slots_without (slot_in a) t) (sym e);
      payloads_are = c.payloads_are ∙ ap (λ (a : Answer Outing). part_without slot_bytes (slot_in a) d) (sym e);
      maps_are = c.maps_are ∙ ap (λ (a : Answer Outing). part_without slot_map (slot_in a) m) (sym e);
      output_is = c.output_is ∙ ap (λ (x : List ℕ). written x o) f ∙ ap (λ (a : Answer Outing). datagram_in a o) (sym e);
    }
