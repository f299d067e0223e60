-- What the public calls' tests tell, and the ways of their answers.
use mathlib.Core.Path.{◌≡◌, refl, sym, ap, ◌∙◌}
use mathlib.Core.Bool.{Bool, true, false, ◌&&◌, cond}
use mathlib.Core.List.{List, ◌++◌}
use Prim.Native.Nat.{ℕ, ◌+◌, ◌*◌, ◌/◌, ◌%◌, ◌≤◌}
use native.Mathlib.Omega.{arith}
use lib.ListN.{length, take}
use lib.Dec.{leb, eqb}
use borrow.Author.Tests.{leb-true, leb-false, le-leb, lt-leb, eqb-true, eq-eqb}
use Rattle.std.specs.Prelude.{Result, Ok, Err}
use Rattle.pkt.specs.Answers.{Answer, refused, gives, mapped, says}
use Rattle.pkt.specs.declared.refusal.Refusal.{Refusal}
use Rattle.pkt.specs.declared.refusal.Refusal.TheVariants.{BadAssembly}
use Rattle.inspect.specs.Header.{length_field, data_of}
use Rattle.inspect.specs.declared.header.IpRead.{IpRead}
use Rattle.assembly.specs.declared.Key.{Key}
use Rattle.assembly.specs.declared.Rec.{Rec}
use Rattle.assembly.specs.Piece.{Piece}
use Rattle.assembly.specs.Assembly.{State, cleared, opened, step, total_fits, record_fits, record_valid}
use Rattle.assembly.specs.View.{view, record_of, piece}
use Rattle.assembly.specs.Answers.{payload_after, map_after}
use Rattle.assembly.specs.Carried.{piece_of, fit_answer, head_answer, piece_answer}
use Rattle.assembly.specs.Calls.{sized, usable, open_answer, Opens, take_answer, ready, put_answer}
use Rattle.pkt.proofs.Choice.{and_both, pick_yes, pick_no}
use Rattle.assembly.proofs.Steps.{record_of_lem}
use Rattle.assembly.proofs.Carrying.{fit_maps, piece_by, carried_front}

-- ---- putting, for any capacity

-- as many bytes of a map as have a bit for each block of p bytes
pub bits_enough : (p m : ℕ) → leb (p / 64 + (p % 64 + 63) / 64) m ≡ leb p (64 * m)
bits_enough p m = go (leb p (64 * m)) refl
  where
    go : (b : Bool) → leb p (64 * m) ≡ b → leb (p / 64 + (p % 64 + 63) / 64) m ≡ b
    go true e = le-leb (p / 64 + (p % 64 + 63) / 64) m (omega (arith, leb-true p (64 * m) e))
    go false e = lt-leb (p / 64 + (p % 64 + 63) / 64) m (omega (arith, leb-false p (64 * m) e))

pub record Ready (s : State) : Type 0 where
  pub room : length s.payload ≤ 64 * length s.map
  pub total_fits_lem : total_fits (length s.payload) s.total ≡ true

pub ready_is : (s : State) → ready s ≡ true → Ready s
unfolding ready record_fits
ready_is s e =
    let t = and_both (leb (length s.payload) (64 * length s.map)) (record_valid s) e in
    record { room = leb-true _ _ t.0; total_fits_lem = (and_both (total_fits (length s.payload) s.total) _ t.1).0 }

pub put_eleven : (s : State) (h : IpRead) (b : List ℕ) → ready s ≡ false → put_answer s h b ≡ refused 11
unfolding put_answer
put_eleven s h b e = pick_no _ _ e

pub put_by : (s : State) (h : IpRead) (b : List ℕ) (a : Answer IpRead) → ready s ≡ true → fit_answer (length s.payload) 10 (length b) h ≡ a
    → put_answer s h b ≡ mapped (λ g. step s (piece g.off g.mf b)) a
unfolding put_answer
put_by s h b a e f = pick_yes _ _ e ∙ ap (λ (x : Answer IpRead). mapped (λ g. step s (piece g.off g.mf b)) x) f

module _ (C M : ℕ) where
  sized_is : (p m : ℕ) → sized C M p m ≡ true → (p ≡ C) × (m ≡ M)
  unfolding sized
  sized_is p m e = let t = and_both (eqb p C) (eqb m M) e in (eqb-true _ _ t.0, eqb-true _ _ t.1)

  pub record Usable (s : State) : Type 0 where
    pub payload_is : length s.payload ≡ C
    pub map_is : length s.map ≡ M
    pub total_fits_lem : total_fits (length s.payload) s.total ≡ true

  pub usable_is : (s : State) → usable C M s ≡ true → Usable s
  unfolding usable record_fits
  usable_is s e =
      let t = and_both (sized C M (length s.payload) (length s.map)) (record_valid s) e in
      let z = sized_is (length s.payload) (length s.map) t.0 in
      record { payload_is = z.0; map_is = z.1; total_fits_lem = (and_both (total_fits (length s.payload) s.total) _ t.1).0 }

  pub usable_of : (s : State) → length s.payload ≡ C → length s.map ≡ M → record_valid s ≡ true → usable C M s ≡ true
  unfolding usable sized
  usable_of s d m v = simp (eq-eqb _ _ d, eq-eqb _ _ m, v)

  -- of buffers with those sizes the record decides; no other are usable
  pub usable_sized : (s : State) → sized C M (length s.payload) (length s.map) ≡ true → usable C M s ≡ record_fits C s.total s.floor
  unfolding usable
  usable_sized s e =
      ap (λ (b : Bool). b && record_valid s) e
      ∙ ap (λ (n : ℕ). record_fits n s.total s.floor) (sized_is (length s.payload) (length s.map) e).0

  pub usable_not : (s : State) → sized C M (length s.payload) (length s.map) ≡ false → usable C M s ≡ false
  unfolding usable
  usable_not s e = ap (λ (b : Bool). b && record_valid s) e

  -- Bytes after the total length are ignored.
  pub take_front : (s : State) (l r : List ℕ) → 20 ≤ length_field l → length_field l ≤ length l → take_answer C M s (take (length_field l) l ++ r) ≡ take_answer C M s l
  unfolding take_answer
  take_front s l r long there = ap (λ (a : Answer Piece). cond (usable C M s) (mapped (step s) a) (refused 11)) (carried_front C s.key l r long there)

  -- ---- opening
  opens_by : (k : Key) (d m d' m' : List ℕ) (r : Result Rec Refusal) (a : Answer State) → open_answer C M k (length d) (length m) ≡ a
      → says r ≡ mapped record_of a → d' ≡ payload_after a d → m' ≡ map_after a m → Opens C M k d m r d' m'
  opens_by k d m d' m' r a e x y z =
      record {
        answer = x ∙ ap (λ (b : Answer State). mapped record_of b) (sym e);
        payload_is = y ∙ ap (λ (b : Answer State). payload_after b d) (sym e);
        map_is = z ∙ ap (λ (b : Answer State). map_after b m) (sym e);
      }

  pub opens_yes : (k : Key) (d m d' m' : List ℕ) (r : Rec) → sized C M (length d) (length m) ≡ true
      → view r d' m' ≡ cleared k (length d) (length m) false → Opens C M k d m (Ok r) d' m'
  unfolding open_answer
  opens_yes k d m d' m' r e q =
      let z = sized_is (length d) (length m) e in
      let w : view r d' m' ≡ opened k C M = q ∙ ap (λ (n : ℕ). cleared k n (length m) false) z.0 ∙ ap (λ (n : ℕ). cleared k C n false) z.1 in
      opens_by k d m d' m' (Ok r) (gives (opened k C M)) (pick_yes _ _ e)
      (ap gives (sym (record_of_lem r d' m') ∙ ap record_of w)) (ap (λ (s : State). s.payload) w) (ap (λ (s : State). s.map) w)

  pub opens_no : (k : Key) (d m : List ℕ) → sized C M (length d) (length m) ≡ false → Opens C M k d m (Err BadAssembly) d m
  unfolding open_answer
  opens_no k d m e = opens_by k d m d m (Err BadAssembly) (refused 11) (pick_no _ _ e) refl refl refl

  -- the same, where b is the answer of the test
  pub opens_refused : (k : Key) (d m : List ℕ) (b : Bool) → b ≡ sized C M (length d) (length m) → b ≡ false → Opens C M k d m (Err BadAssembly) d m
  opens_refused k d m b e q = opens_no k d m (sym e ∙ q)

  -- ---- taking
  pub take_eleven : (s : State) (l : List ℕ) → usable C M s ≡ false → take_answer C M s l ≡ refused 11
  unfolding take_answer
  take_eleven s l e = pick_no _ _ e

  pub take_by : (s : State) (l : List ℕ) (a : Answer Piece) → usable C M s ≡ true → piece_answer C s.key l ≡ a → take_answer C M s l ≡ mapped (step s) a
  unfolding take_answer
  take_by s l a e h = pick_yes _ _ e ∙ ap (λ (b : Answer Piece). mapped (step s) b) h

  -- An assembly that 11 does not refuse is ready, where the map has a bit for each block.
  pub usable_ready : (s : State) → C ≤ 64 * M → usable C M s ≡ true → ready s ≡ true
  unfolding usable ready
  usable_ready s room e =
      let t = and_both (sized C M (length s.payload) (length s.map)) (record_valid s) e in
      let z = sized_is (length s.payload) (length s.map) t.0 in
      let w = le-leb (length s.payload) (64 * length s.map) (omega (arith, z.0, z.1)) in
      simp (w, t.1)

  -- Taking a packet is putting the piece behind its header.
  pub take_put : (s : State) (l : List ℕ) (h : IpRead) → C ≤ 64 * M → usable C M s ≡ true → head_answer s.key l ≡ gives h
      → take_answer C M s l ≡ put_answer s h (data_of h l)
  take_put s l h room u e =
      let c : length s.payload ≡ C = (usable_is s u).payload_is in
      take_by s l _ u (piece_by C s.key l (gives h) e)
      ∙ twice (fit_answer C 10 (length (data_of h l)) h)
      ∙ fit_maps (λ g. step s (piece_of l g)) (λ g. step s (piece g.off g.mf (data_of h l))) C 10 (length (data_of h l)) h refl
      ∙ sym (put_by s h (data_of h l) _ (usable_ready s room u) (ap (λ (n : ℕ). fit_answer n 10 (length (data_of h l)) h) c))
    where
      twice : (a : Answer IpRead) → mapped (step s) (mapped (piece_of l) a) ≡ mapped (λ g. step s (piece_of l g)) a
      twice (refused n) = refl
      twice (gives g) = refl
