-- Pieces cut from one payload agree with each other, and an assembly of them is complete exactly when they cover the payload.
use mathlib.Core.Path.{◌≡◌, refl, sym, ap, ◌∙◌}
use mathlib.Core.Logic.{◌↔◌, ◌⊎◌, inl, inr}
use mathlib.Core.Bool.{Bool, true, false, not, true≢false, Bool-discrete}
use Rattle.std.specs.Prelude.{Option, None, Some}
use mathlib.Core.List.Memᴰ
use mathlib.Core.List.{List, [], ◌∷◌, Memᴰ}
use Prim.Native.Nat.{ℕ, zero, suc, ◌+◌, ◌*◌, ◌-◌, ◌/◌, ◌%◌, ◌≤◌, ◌<◌, min}
use native.Mathlib.Omega.{arith}
use lib.ListN.{length, get_or, take}
use lib.Seq.{slice, length-slice, ext_get_or, get_or-take, get_or-drop, length-take-le}
use borrow.Author.Tests.{eqb-true, eqb-false, not-true, not-false}
use Rattle.assembly.specs.declared.Key.{Key}
use Rattle.assembly.specs.Piece.{Piece, end, Holds, byte_at, Contradict, differ, two_ends, more_after, after_more, Acceptable, Contradictory}
use Rattle.assembly.specs.Map.{marked}
use Rattle.assembly.specs.Assembly.{State, opened, run, held_to, complete}
use Rattle.assembly.specs.Cut.{requested, Part, Covers}
use Rattle.pkt.proofs.Choice.{and_both}
use Rattle.assembly.proofs.Marks.{marked_true, marked_of}
use Rattle.assembly.proofs.Pieces.{SomeOf, NoneOf, any, holds?}
use Rattle.assembly.proofs.Describes.{Good, Describes, spoiled, sound, run_describes}

-- ---- document 01's "Complete: total known and every byte below it held", for any accepted pieces
pub complete_exactly : (κ : Key) (C M : ℕ) (s : State) (ps : List Piece) → ((q : Piece) → Memᴰ q ps → Acceptable C q) → Good κ C M s ps
    → (complete s ≡ true) ↔ ((t : ℕ) × (s.total ≡ Some t) × Covers ps t)
unfolding complete held_to Covers SomeOf NoneOf
complete_exactly κ C M s ps ok g = (λ e. known s.total refl (and_both (not s.spoilt) (held_to s.map s.total) e).1, λ h. rw (g.plain, h.1) (marked_of s.map ((h.0 + 7) / 8) (λ b hb. let q = h.2 (8 * b) (omega arith) in g.bit_in q.0 q.1 b q.2)))
  where
    held : (t : ℕ) → s.total ≡ Some t → (k : ℕ) → k < t → (q : Piece) → Memᴰ q ps → Holds q (8 * (k / 8)) → (b : Bool) → q.mf ≡ b → Holds q k
    held t et k hk q m h true e = let w = (ok q m).whole e in record { from = omega arith; till = omega arith }
    held t et k hk q m h false e =
        let r = g.total_in q m e in
        let z : t ≡ end q = cc in
        record { from = omega arith; till = omega arith }

    covers : (t : ℕ) → s.total ≡ Some t → marked s.map ((t + 7) / 8) ≡ true → (k : ℕ) → k < t
        → SomeOf (λ p. Holds p (8 * (k / 8))) ps ⊎ NoneOf (λ p. Holds p (8 * (k / 8))) ps → SomeOf (λ p. Holds p k) ps
    covers t et e k hk (inl q) = (q.0, q.1, held t et k hk q.0 q.1 q.2 q.0.mf refl)
    covers t et e k hk (inr f) = absurd (omega (arith, marked_true s.map ((t + 7) / 8) e (k / 8) (omega arith), g.bit_out (k / 8) f))

    known : (o : Option ℕ) → s.total ≡ o → held_to s.map o ≡ true → (t : ℕ) × (s.total ≡ Some t) × Covers ps t
    known None eo e = absurd (true≢false (sym e))
    known (Some t) eo e = (t, eo, λ k hk. covers t eo e k hk (any (λ p. holds? p (8 * (k / 8))) ps))

-- what a part is
pub record OfPayload (d : List ℕ) (p : Piece) : Type 0 where
  pub below : end p ≤ length d
  pub bytes : (k : ℕ) → Holds p k → byte_at p k ≡ get_or d k 0
  pub last : p.mf ≡ false → end p ≡ length d
  pub more : p.mf ≡ true → end p < length d
  pub whole : p.mf ≡ true → length p.body % 8 ≡ 0

cut_of : (d : List ℕ) (off len : ℕ) → 8 * off ≤ length d → OfPayload d (requested d off len)
unfolding requested
cut_of d off len h =
    record {
      below = omega (arith, size);
      bytes = λ k hk. byte k (omega arith) (omega (arith, size, hk.till));
      last = λ e. omega (arith, size, eqb-true t (length d) (not-false _ e));
      more = λ e. omega (arith, size, eqb-false t (length d) (not-true _ e));
      whole = λ e. omega (arith, size, eqb-false t (length d) (not-true _ e));
    }
  where
    f : ℕ
    f = min (8 * off) (length d)

    t : ℕ
    t = min (8 * off + 8 * len) (length d)

    size : length (slice f t d) ≡ t - f
    size = length-slice f t d (omega arith)

    byte : (k : ℕ) → 8 * off ≤ k → k < t → get_or (slice f t d) (k - 8 * off) 0 ≡ get_or d k 0
    byte k lo hi =
        let z : f + (k - 8 * off) ≡ k = omega arith in
        rw (get_or-drop f (take t d), z) (get_or-take t d k 0 hi)

-- Any cut, past the end too, is a whole number of blocks where more follow.
pub requested_whole : (d : List ℕ) (off len : ℕ) → (requested d off len).mf ≡ true → length (requested d off len).body % 8 ≡ 0
unfolding requested
requested_whole d off len e =
    let f : ℕ = min (8 * off) (length d) in
    let t : ℕ = min (8 * off + 8 * len) (length d) in
    let size : length (slice f t d) ≡ t - f = length-slice f t d (omega arith) in
    omega (arith, size, eqb-false t (length d) (not-true _ e))

-- A cut past the end is empty, and ends where it starts.
pub requested_past : (d : List ℕ) (off len : ℕ) → length d < 8 * off → end (requested d off len) ≡ 8 * off
unfolding requested
requested_past d off len h =
    let f : ℕ = min (8 * off) (length d) in
    let t : ℕ = min (8 * off + 8 * len) (length d) in
    let size : length (slice f t d) ≡ t - f = length-slice f t d (omega arith) in
    omega arith

pub part_of : {d : List ℕ} {p : Piece} → Part d p → OfPayload d p
part_of {d} {p} h = rw h.built (cut_of d h.off h.len h.within)

pub part_acceptable : (C : ℕ) (d : List ℕ) (p : Piece) → length d ≤ C → Part d p → Acceptable C p
part_acceptable C d p fits h = let o = part_of h in record { whole = o.whole; fits = omega arith }

agree : {d : List ℕ} {p q : Piece} → OfPayload d p → OfPayload d q → Contradict p q → ⊥
agree a b (differ k hp hq ne) = ne (a.bytes k hp ∙ sym (b.bytes k hq))
agree a b (two_ends mp mq ne) = ne (a.last mp ∙ sym (b.last mq))
agree a b (more_after mp mq le) = omega (arith, a.more mp, b.last mq)
agree a b (after_more mp mq le) = omega (arith, a.last mp, b.more mq)

pub parts_agree : (d : List ℕ) (ps : List Piece) → ((p : Piece) → Memᴰ p ps → Part d p) → Contradictory ps → ⊥
parts_agree d ps parts c = agree (part_of (parts c.one c.one_in)) (part_of (parts c.other c.other_in)) c.clash

pub mem_length : {p : Piece} {ps : List Piece} → Memᴰ p ps → 0 < length ps
mem_length {p} {ps = []} m = absurd (Memᴰ.not-nil m)
mem_length {p} {ps = q ∷ ps} m = omega arith

first : (ps : List Piece) → 0 < length ps → (p : Piece) × (Memᴰ p ps)
first [] h = absurd (omega arith)
first (p ∷ ps) h = (p, Memᴰ.head refl)

-- ---- all built from one payload that fits: accepted (`part_acceptable`), never spoilt, complete exactly when covered, and then it is held
module _ (κ : Key) (C M : ℕ) (d : List ℕ) (ps : List Piece) (room : C ≤ 64 * M) (fits : length d ≤ C) (parts : (p : Piece) → Memᴰ p ps → Part d p) where
  parts_ok : (q : Piece) → Memᴰ q ps → Acceptable C q
  parts_ok q m = part_acceptable C d q fits (parts q m)

  pub parts_good : Good κ C M (run (opened κ C M) ps) ps
  parts_good = go (run_describes κ C M ps room parts_ok)
    where
      go : Describes κ C M (run (opened κ C M) ps) ps → Good κ C M (run (opened κ C M) ps) ps
      go (spoiled c e) = absurd (parts_agree d ps parts c)
      go (sound n g) = g

  -- a known total is the payload's length
  parts_total : (t : ℕ) → (run (opened κ C M) ps).total ≡ Some t → (t ≡ length d) × (0 < length ps)
  unfolding SomeOf NoneOf
  parts_total t e = go (any (λ q. Bool-discrete q.mf false) ps)
    where
      go : SomeOf (λ q. q.mf ≡ false) ps ⊎ NoneOf (λ q. q.mf ≡ false) ps → (t ≡ length d) × (0 < length ps)
      go (inl q) =
          let h = parts_good.total_in q.0 q.1 q.2 in
          let z : t ≡ end q.0 = cc in
          (z ∙ (part_of (parts q.0 q.1)).last q.2, mem_length q.1)
      go (inr f) = let h = parts_good.total_out f in let z : ◌≡◌ {A = ℕ} 0 1 = cc in absurd (omega arith)

  -- covered by at least one piece: one of them is the last
  parts_last : 0 < length ps → Covers ps (length d) → (run (opened κ C M) ps).total ≡ Some (length d)
  unfolding SomeOf Covers
  parts_last h cov = go (length d) refl
    where
      ends : (q : Piece) → Memᴰ q ps → length d ≤ end q → (b : Bool) → q.mf ≡ b → (run (opened κ C M) ps).total ≡ Some (length d)
      ends q m le true e = absurd (omega (arith, (part_of (parts q m)).more e))
      ends q m le false e = parts_good.total_in q m e ∙ ap Some ((part_of (parts q m)).last e)

      go : (n : ℕ) → length d ≡ n → (run (opened κ C M) ps).total ≡ Some (length d)
      go zero e = let q = first ps h in ends q.0 q.1 (omega arith) q.0.mf refl
      go (suc n) e = let q = cov n (omega arith) in ends q.0 q.1 (omega (arith, q.2.till)) q.0.mf refl

  pub parts_never_spoilt : (run (opened κ C M) ps).spoilt ≡ false
  parts_never_spoilt = parts_good.plain

  pub parts_complete : (complete (run (opened κ C M) ps) ≡ true) ↔ ((0 < length ps) × Covers ps (length d))
  unfolding Covers
  parts_complete = (
    λ e.
        let h = (complete_exactly κ C M (run (opened κ C M) ps) ps parts_ok parts_good).0 e in
        let t = parts_total h.0 h.1 in
        (t.1, λ k hk. h.2 k (omega (arith, t.0))),
    λ h. (complete_exactly κ C M (run (opened κ C M) ps) ps parts_ok parts_good).1 (length d, parts_last h.0 h.1, h.1),
  )

  pub parts_held : complete (run (opened κ C M) ps) ≡ true → ((run (opened κ C M) ps).total ≡ Some (length d)) × (take (length d) (run (opened κ C M) ps).payload ≡ d)
  unfolding Covers SomeOf
  parts_held e = (
    parts_last c.0 c.1,
    ext_get_or 0 (take (length d) (run (opened κ C M) ps).payload) d
        size
        (λ k hk. byte k (rw size at hk)),
  )
    where
      c : (0 < length ps) × Covers ps (length d)
      c = parts_complete.0 e

      size : length (take (length d) (run (opened κ C M) ps).payload) ≡ length d
      size = length-take-le (length d) (run (opened κ C M) ps).payload (omega (arith, parts_good.size))

      byte : (k : ℕ) → k < length d → get_or (take (length d) (run (opened κ C M) ps).payload) k 0 ≡ get_or d k 0
      byte k hk =
          let q = c.1 k hk in
          get_or-take (length d) (run (opened κ C M) ps).payload k 0 hk ∙ parts_good.byte_in q.0 q.1 k q.2 ∙ (part_of (parts q.0 q.1)).bytes k q.2
