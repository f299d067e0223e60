-- The three ways of a step, and the two tests of a piece.
use mathlib.Core.Path.{◌≡◌, refl, sym, ap, subst, ◌∙◌}
use mathlib.Core.Bool.{Bool, true, false, not, ◌&&◌, ◌||◌, cond}
use Rattle.std.specs.Prelude.{Option, None, Some, unwrap_or, Result, Ok, Err}
use mathlib.Core.List.{List, []}
use Prim.Native.Nat.{ℕ, ◌≤◌}
use native.Mathlib.Omega.{arith}
use borrow.Author.Tests.{leb-true, le-leb}
use lib.ListN.{length, length-take}
use Rattle.assembly.specs.declared.Rec.{Rec}
use Rattle.assembly.specs.declared.Taken.{Taken}
use Rattle.assembly.specs.declared.Outcome.{Outcome}
use Rattle.assembly.specs.declared.Outcome.TheVariants.{Waiting, Complete, Spoilt}
use Rattle.pkt.specs.Answers.{Answer, refused, gives}
use Rattle.pkt.specs.Refusal.{number_of}
use Rattle.pkt.specs.declared.refusal.Refusal.{Refusal}
use Rattle.assembly.specs.View.{view, record_of}
use Rattle.assembly.specs.Answers.{reply, reply_of, Steps, standing, standing_of}
use Rattle.assembly.specs.Piece.{Piece, start, end}
use Rattle.assembly.specs.Assembly.{State, cleared, clashes, end_clash, byte_clash, accept, step, held_to, outcome, new_total, total_fits, complete, bytes_below, held_bytes}
use Rattle.pkt.proofs.Choice.{pick_yes, pick_no}

module _ (s : State) (p : Piece) where
  pub step_spoilt : s.spoilt ≡ true → step s p ≡ s
  unfolding step
  step_spoilt e = pick_yes _ _ e

  pub step_clash : s.spoilt ≡ false → clashes s p ≡ true → step s p ≡ cleared s.key (length s.payload) (length s.map) true
  unfolding step
  step_clash e h = pick_no _ _ e ∙ pick_yes _ _ h

  pub step_accept : s.spoilt ≡ false → clashes s p ≡ false → step s p ≡ accept s p
  unfolding step
  step_accept e h = pick_no _ _ e ∙ pick_no _ _ h

  pub clashes_end : end_clash s.total s.floor p.mf (end p) ≡ true → clashes s p ≡ true
  unfolding clashes
  clashes_end e = ap (λ (b : Bool). b || byte_clash s.payload s.map (start p) p.body) e

  pub clashes_byte : end_clash s.total s.floor p.mf (end p) ≡ false → clashes s p ≡ byte_clash s.payload s.map (start p) p.body
  unfolding clashes
  clashes_byte e = ap (λ (b : Bool). b || byte_clash s.payload s.map (start p) p.body) e

-- the same, from what the code asked of a record and a piece; t is what it made of them
pub stays : (s : State) (p : Piece) → s.spoilt ≡ true → s ≡ step s p
stays s p e = sym (step_spoilt s p e)

pub spoils : (s t : State) (p : Piece) (b : Bool) → s.spoilt ≡ false → b ≡ clashes s p → b ≡ true
    → t ≡ cleared s.key (length s.payload) (length s.map) true → t ≡ step s p
spoils s t p b e h q x = x ∙ sym (step_clash s p e (sym h ∙ q))

pub merges : (s t : State) (p : Piece) (b : Bool) → s.spoilt ≡ false → b ≡ clashes s p → b ≡ false → t ≡ accept s p → t ≡ step s p
merges s t p b e h q x = x ∙ sym (step_accept s p e (sym h ∙ q))

pub state_path : {s s' : State} → s.key ≡ s'.key → s.payload ≡ s'.payload → s.map ≡ s'.map → s.total ≡ s'.total → s.floor ≡ s'.floor
    → s.spoilt ≡ s'.spoilt → s ≡ s'
state_path k a b c d e = λ i. record { key = k i; payload = a i; map = b i; total = c i; floor = d i; spoilt = e i }

-- ---- the three answers
pub outcome_spoilt : (s : State) → s.spoilt ≡ true → outcome s ≡ Spoilt
unfolding outcome
outcome_spoilt s e = pick_yes _ _ e

pub outcome_plain : (s : State) (b : Bool) → s.spoilt ≡ false → held_to s.map s.total ≡ b → outcome s ≡ cond b Complete Waiting
unfolding outcome
outcome_plain s b e h =
    pick_no _ _ e
    ∙ ap (λ (t : Bool). cond t Complete Waiting) h

-- ---- what is held of a complete datagram
pub held_spoilt : (s : State) → s.spoilt ≡ true → held_bytes s ≡ []
unfolding held_bytes complete
held_spoilt s e = ap (λ (b : Bool). cond (not b && held_to s.map s.total) (bytes_below s.total s.payload) []) e

pub held_plain : (s : State) (b : Bool) → s.spoilt ≡ false → held_to s.map s.total ≡ b
    → held_bytes s ≡ cond b (bytes_below s.total s.payload) []
unfolding held_bytes complete
held_plain s b e h =
    ap (λ (t : Bool). cond (not t && held_to s.map s.total) (bytes_below s.total s.payload) []) e
    ∙ ap (λ (t : Bool). cond t (bytes_below s.total s.payload) []) h

-- ---- a total that fits
pub fits_of : (C : ℕ) (o : Option ℕ) → ((t : ℕ) → o ≡ Some t → t ≤ C) → total_fits C o ≡ true
unfolding total_fits
fits_of C None h = refl
fits_of C (Some t) h = le-leb t C (h t refl)

pub fits_at : (C : ℕ) (o : Option ℕ) (t : ℕ) → total_fits C o ≡ true → o ≡ Some t → t ≤ C
unfolding total_fits
fits_at C None t e q = let z : ◌≡◌ {A = ℕ} 0 1 = cc in absurd (omega arith)
fits_at C (Some u) t e q = let z : t ≡ u = cc in omega (arith, leb-true u C e)

-- a wider buffer has room for it too
pub fits_more : (C D : ℕ) (o : Option ℕ) → C ≤ D → total_fits C o ≡ true → total_fits D o ≡ true
fits_more C D o h e = fits_of D o (λ t q. omega (arith, fits_at C o t e q))

-- a step keeps it
pub step_fits : (C : ℕ) (s : State) (p : Piece) → total_fits C s.total ≡ true → end p ≤ C → total_fits C (step s p).total ≡ true
unfolding accept new_total total_fits
step_fits C s p e h = spoilt s.spoilt refl
  where
    more : (b : Bool) → total_fits C (new_total b s.total (end p)) ≡ true
    more true = e
    more false = le-leb (end p) C h

    clash : s.spoilt ≡ false → (b : Bool) → clashes s p ≡ b → total_fits C (step s p).total ≡ true
    clash n true q = ap (λ (s' : State). total_fits C s'.total) (step_clash s p n q)
    clash n false q = ap (λ (s' : State). total_fits C s'.total) (step_accept s p n q) ∙ more p.mf

    spoilt : (b : Bool) → s.spoilt ≡ b → total_fits C (step s p).total ≡ true
    spoilt true q = ap (λ (s' : State). total_fits C s'.total) (step_spoilt s p q) ∙ e
    spoilt false q = clash q (clashes s p) refl

-- ---- the record of a state, and the state of a record
pub view_of : (s : State) → view (record_of s) s.payload s.map ≡ s
view_of s = refl

pub record_of_lem : (r : Rec) (d m : List ℕ) → record_of (view r d m) ≡ r
record_of_lem r d m = refl

-- ---- a call that takes a piece

-- a step was taken to t, whose record and buffers are there after it
pub moved : (r : Rec) (d m : List ℕ) (s t : State) (a : Taken) → view r d m ≡ t → a ≡ reply (outcome (view r d m)) r → Steps (gives t) s (Ok a) d m
moved r d m s t a e h =
    record {
      answer = ap gives h ∙ ap (λ (s' : State). gives (reply_of s')) e;
      payload_is = ap (λ (s' : State). s'.payload) e;
      map_is = ap (λ (s' : State). s'.map) e;
    }

-- a refusal leaves the buffers as they were
pub refused_steps : (s : State) (e : Refusal) → Steps (refused (number_of e)) s (Err e) s.payload s.map
refused_steps s e = record { answer = refl; payload_is = refl; map_is = refl }

pub steps_as : {s : State} {r : Result Taken Refusal} {d m : List ℕ} (a b : Answer State) → a ≡ b → Steps b s r d m → Steps a s r d m
steps_as {s} {r} {d} {m} a b e x = subst (λ (y : Answer State). Steps y s r d m) (sym e) x

-- ---- how an assembly stands
pub stands_as : (s : State) (o : Outcome) (n : ℕ) → outcome s ≡ o → length (held_bytes s) ≡ n → standing o n ≡ standing_of s
stands_as s o n e h = λ i. standing (sym e i) (sym h i)

-- as many bytes are below a total that fits a payload buffer d; none where it is not known
pub total_length : (o : Option ℕ) (d : List ℕ) → total_fits (length d) o ≡ true → length (bytes_below o d) ≡ unwrap_or o 0
unfolding bytes_below
total_length None d e = refl
total_length (Some t) d e = simp length-take (omega (arith, fits_at (length d) (Some t) t e refl))
