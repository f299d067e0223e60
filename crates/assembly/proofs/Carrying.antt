-- What is known of a header that an assembly accepts, and of the piece that its packet carries.
use mathlib.Core.Path.{◌≡◌, refl, sym, ap, ◌∙◌}
use mathlib.Core.Bool.{Bool, true, false, not, ◌&&◌, cond}
use mathlib.Core.List.{List, ◌++◌}
use Prim.Native.Nat.{ℕ, ◌+◌, ◌-◌, ◌*◌, ◌%◌, ◌≤◌}
use native.Mathlib.Omega.{arith}
use lib.ListN.{length, take}
use lib.Dec.{ltb, eqb}
use borrow.Author.Tests.{ltb-true, ltb-false, lt-ltb, le-ltb, eqb-true, eq-eqb, not-false}
use Rattle.pkt.specs.Answers.{Answer, refused, gives, and_then, mapped}
use Rattle.std.specs.Prelude.{Err}
use Rattle.pkt.specs.Refusal.{number_of}
use Rattle.assembly.specs.declared.carried.Misfit.{Misfit}
use Rattle.assembly.specs.declared.carried.Misfit.TheVariants.{NotBlocks, TooFar}
use Rattle.assembly.specs.Answers.{fit_says, refusal_of}
use Rattle.inspect.specs.Header.{length_field, read_answer, data_of}
use Rattle.inspect.specs.declared.header.IpRead.{IpRead}
use Rattle.pkt.proofs.Deciding.{past, held}
use Rattle.inspect.proofs.Numbers.{part_front}
use Rattle.inspect.proofs.Reading.{read_framed, read_total, read_front}
use Rattle.assembly.specs.declared.Key.{Key}
use Rattle.assembly.specs.Piece.{Piece, Acceptable}
use Rattle.assembly.specs.View.{piece}
use Rattle.assembly.specs.Carried.{key_of, same_key, piece_of, broken, fit_answer, keyed_answer, head_answer, piece_answer}
use Rattle.pkt.proofs.Choice.{and_no, pick_yes, pick_no}

-- An end is above c where what is left of c behind n bytes is below the start.
pub end_above : (c s n : ℕ) → n ≤ c → ltb (c - n) s ≡ ltb c (s + n)
end_above c s n h = go (ltb c (s + n)) refl
  where
    go : (b : Bool) → ltb c (s + n) ≡ b → ltb (c - n) s ≡ b
    go true e = lt-ltb (c - n) s (omega (arith, ltb-true c (s + n) e))
    go false e = le-ltb (c - n) s (omega (arith, ltb-false c (s + n) e))

pub head_by : (k : Key) (l : List ℕ) (a : Answer IpRead) → read_answer l ≡ a → head_answer k l ≡ and_then a (keyed_answer k)
unfolding head_answer
head_by k l a e = ap (λ (b : Answer IpRead). and_then b (keyed_answer k)) e

-- A header by its key g, of which b tells whether it is the assembly's: it is given, or refused by 8.
pub same_key_given : (k g : Key) (h : IpRead) (b : Bool) → g ≡ key_of h → b ≡ same_key g k → b ≡ true → gives h ≡ keyed_answer k h
unfolding keyed_answer
same_key_given k g h b e t q = sym (pick_yes _ _ (ap (λ (x : Key). same_key x k) (sym e) ∙ sym t ∙ q))

pub other_key_eight : (k g : Key) (h : IpRead) (b : Bool) → g ≡ key_of h → b ≡ same_key g k → b ≡ false → refused 8 ≡ keyed_answer k h
unfolding keyed_answer
other_key_eight k g h b e t q = sym (pick_no _ _ (ap (λ (x : Key). same_key x k) (sym e) ∙ sym t ∙ q))

-- What accepting a header h of the packet l tells, up to its key.
pub record Keyed (k : Key) (l : List ℕ) (h : IpRead) : Type 0 where
  pub read : read_answer l ≡ gives h
  pub key_is : same_key (key_of h) k ≡ true

pub keyed_by_lem : (k : Key) (l : List ℕ) (h : IpRead) → head_answer k l ≡ gives h → Keyed k l h
unfolding head_answer keyed_answer
keyed_by_lem k l h e = go (read_answer l) refl e
  where
    go : (a : Answer IpRead) → read_answer l ≡ a → and_then a (keyed_answer k) ≡ gives h → Keyed k l h
    go (refused n) r q = let z : ◌≡◌ {A = ℕ} 0 1 = cc in absurd (omega arith)
    go (gives g) r q = let t = held (same_key (key_of g) k) 8 g h q in rw (← t.1) (record { read = r; key_is = t.0 })

-- ---- 9, and 10 or another number

-- The answer is the header itself, or a refusal: what is made of it is made of that header.
pub fit_maps : {A : Type 0} (f g : IpRead → A) (C far n : ℕ) (h : IpRead) → f h ≡ g h → mapped f (fit_answer C far n h) ≡ mapped g (fit_answer C far n h)
unfolding fit_answer
fit_maps f g C far n h e = go (broken h.mf n) (ltb C (8 * h.off + n))
  where
    go : (a b : Bool) → mapped f (cond a (refused 9) (cond b (refused far) (gives h))) ≡ mapped g (cond a (refused 9) (cond b (refused far) (gives h)))
    go true b = refl
    go false true = refl
    go false false = ap gives e

-- A piece that has no place is refused by 9 or 10 in an assembly's payload buffer.
pub fit_refused : (m : Misfit) → fit_says 10 (Err m) ≡ refused (number_of (refusal_of m))
fit_refused NotBlocks = refl
fit_refused TooFar = refl

-- What is known of a header h that n bytes behind it fit, and were answered by g.
pub record Fitted (C n : ℕ) (h g : IpRead) : Type 0 where
  pub is : h ≡ g
  pub blocks : h.mf ≡ true → n % 8 ≡ 0
  pub fits : 8 * h.off + n ≤ C

pub fitted : (C far n : ℕ) (h g : IpRead) → fit_answer C far n h ≡ gives g → Fitted C n h g
unfolding fit_answer broken
fitted C far n h g e =
    let a = past (broken h.mf n) 9 _ g e in
    let b = past (ltb C (8 * h.off + n)) far _ g a.1 in
    record {
      is = cc b.1;
      blocks = λ m. eqb-true _ _ (not-false _ (and_no h.mf _ a.0 m));
      fits = ltb-false _ _ b.0;
    }

-- ---- the piece

-- what is made of a header with the key
abbrev carried_by : ℕ → List ℕ → Answer IpRead → Answer Piece
carried_by C l a = and_then a (λ h. mapped (piece_of l) (fit_answer C 10 (length (data_of h l)) h))

pub piece_by : (C : ℕ) (k : Key) (l : List ℕ) (a : Answer IpRead) → head_answer k l ≡ a → piece_answer C k l ≡ carried_by C l a
unfolding piece_answer
piece_by C k l a e = ap (carried_by C l) e

-- A piece that a packet is accepted with is neither refused by 9 nor by 10.
pub acceptable : (C : ℕ) (k : Key) (l : List ℕ) (p : Piece) → piece_answer C k l ≡ gives p → Acceptable C p
unfolding piece_answer
acceptable C k l p e = go (head_answer k l) e
  where
    behind : (h : IpRead) (a : Answer IpRead) → fit_answer C 10 (length (data_of h l)) h ≡ a → mapped (piece_of l) a ≡ gives p → Acceptable C p
    behind h (refused n) r q = let z : ◌≡◌ {A = ℕ} 0 1 = cc in absurd (omega arith)
    behind h (gives g) r q =
        let f = fitted C 10 (length (data_of h l)) h g r in
        let z : piece_of l h ≡ p = ap (piece_of l) f.is ∙ cc in
        rw (← z) (record { whole = f.blocks; fits = f.fits })

    go : (a : Answer IpRead) → carried_by C l a ≡ gives p → Acceptable C p
    go (refused n) q = let z : ◌≡◌ {A = ℕ} 0 1 = cc in absurd (omega arith)
    go (gives h) q = behind h (fit_answer C 10 (length (data_of h l)) h) refl q

-- ---- equal keys

-- Keys are equal where their four fields are.
in_pairs : (a b c d : Bool) → (a && (b && (c && d))) ≡ (((a && b) && c) && d)
in_pairs true true c d = refl
in_pairs true false c d = refl
in_pairs false b c d = refl

pub fields_equal : (a b : Key) (r : Bool) → r ≡ (eqb a.saddr b.saddr && (eqb a.daddr b.daddr && (eqb a.id b.id && eqb a.protocol b.protocol))) → r ≡ same_key a b
unfolding same_key
fields_equal a b r e = e ∙ in_pairs (eqb a.saddr b.saddr) (eqb a.daddr b.daddr) (eqb a.id b.id) (eqb a.protocol b.protocol)

pub is_same : (a b : Key) → a ≡ b → same_key a b ≡ true
unfolding same_key
is_same a b e =
    simp (
      eq-eqb a.saddr b.saddr (ap (λ (k : Key). k.saddr) e),
      eq-eqb a.daddr b.daddr (ap (λ (k : Key). k.daddr) e),
      eq-eqb a.id b.id (ap (λ (k : Key). k.id) e),
      eq-eqb a.protocol b.protocol (ap (λ (k : Key). k.protocol) e),
    )

-- A packet whose header is read, has the key, and is neither refused by 9 nor by 10, is accepted.
pub accepted : (C : ℕ) (k : Key) (l : List ℕ) (h : IpRead) → read_answer l ≡ gives h → key_of h ≡ k → Acceptable C (piece_of l h)
    → piece_answer C k l ≡ gives (piece_of l h)
unfolding keyed_answer fit_answer broken
accepted C k l h e key ok =
    let n : ℕ = length (data_of h l) in
    piece_by C k l (gives h) (head_by k l (gives h) e ∙ pick_yes _ _ (is_same _ _ key))
    ∙ ap (mapped (piece_of l)) (pick_no _ _ (nine h.mf refl) ∙ pick_no _ _ (le-ltb C (8 * h.off + n) ok.fits))
  where
    nine : (b : Bool) → h.mf ≡ b → (b && not (eqb (length (data_of h l) % 8) 0)) ≡ false
    nine true m = ap not (eq-eqb _ _ (ok.whole m))
    nine false m = refl

-- Bytes after the total length are ignored: the piece is that of the first bytes, as many as the total length says, whatever is behind them.
pub carried_front : (C : ℕ) (k : Key) (l r : List ℕ) → 20 ≤ length_field l → length_field l ≤ length l → piece_answer C k (take (length_field l) l ++ r) ≡ piece_answer C k l
unfolding piece_answer head_answer
carried_front C k l r long there =
    ap (λ (a : Answer IpRead). carried_by C m (and_then a (keyed_answer k))) (read_front l r long there)
    ∙ go (head_answer k l) refl
  where
    m : List ℕ
    m = take (length_field l) l ++ r

    alike : (h : IpRead) → data_of h m ≡ data_of h l → carried_by C m (gives h) ≡ carried_by C l (gives h)
    alike h same =
        ap (λ (d : List ℕ). mapped (piece_of m) (fit_answer C 10 (length d) h)) same
        ∙ fit_maps (piece_of m) (piece_of l) C 10 (length (data_of h l)) h (ap (λ (d : List ℕ). piece h.off h.mf d) same)

    go : (a : Answer IpRead) → head_answer k l ≡ a → carried_by C m a ≡ carried_by C l a
    go (refused n) e = refl
    go (gives h) e =
        let r = (keyed_by_lem k l h e).read in
        let f = read_framed l h r in
        alike h (part_front h.start (h.end - h.start) (length_field l) l _ (omega (arith, read_total l h r)) there)
