-- A state told by the pieces taken, as a set: the opened state tells none, a step tells one more, and two states that tell the same
-- pieces are equal. So order and repeats do not show, and a state is spoilt exactly when two pieces contradict each other.
use mathlib.Core.Path.{◌≡◌, refl, sym, ap, ◌∙◌}
use mathlib.Core.Logic.{◌↔◌, ◌⊎◌, inl, inr, ⊎_elim}
use mathlib.Core.Bool.{Bool, true, false, not, cond, true≢false, Bool-discrete}
use Rattle.std.specs.Prelude.{Option, None, Some}
use mathlib.Core.List.Memᴰ
use mathlib.Core.List.{List, [], ◌∷◌, reverse_aux, Memᴰ}
use Prim.Native.Nat.{ℕ, suc, ◌+◌, ◌*◌, ◌/◌, ◌≤◌, ◌<◌, max}
use native.Mathlib.Decide.{ℕ_discrete, dec_le, dec_lt}
use native.Mathlib.Omega.{arith}
use lib.ListN.{length, get_or, length-replicate}
use lib.Seq.{sets, length-sets, ext_get_or}
use lib.Dec.{ltb, eqb}
use borrow.Author.Tests.{ltb-true, ltb-false, leb-true, leb-false, eqb-true, eqb-false, not-true, not-false}
use Rattle.assembly.specs.declared.Key.{Key}
use Rattle.assembly.specs.Map.{block_bit, mark}
use Rattle.assembly.specs.Piece.{Piece, start, end, Holds, byte_at, Contradict, differ, two_ends, more_after, after_more, Acceptable, Contradictory, Same}
use Rattle.assembly.specs.Assembly.{State, cleared, opened, byte_clash, end_clash, clashes, new_total, new_floor, accept, step, run}
use Rattle.pkt.proofs.Choice.{or_cases, or_no, both}
use Rattle.assembly.proofs.Marks.{IsMap, map_mark, bit_mark_out, bit_mark_in, map_ext, get_d_zeros, map_zeros, bit_zeros}
use Rattle.assembly.proofs.Bytes.{get_d_sets_out, get_d_sets_in}
use Rattle.assembly.proofs.Blocks.{ClashAt, byte_clash_true, byte_clash_false}
use Rattle.assembly.proofs.Steps.{state_path}
use Rattle.assembly.proofs.Pieces.{Same·sym, Contradict·sym, Contradict·irrefl, Contradictory·same, SomeOf, NoneOf, all_cons, any, holds?, in_block}

-- a state that is not spoilt, after the pieces ps. (A piece has a byte in block b exactly if it holds place 8·b: `in_block`)
pub record Good (κ : Key) (C M : ℕ) (s : State) (ps : List Piece) : Type 0 where
  pub key_is : s.key ≡ κ
  pub plain : s.spoilt ≡ false
  pub size : length s.payload ≡ C
  pub is_map : IsMap M s.map
  pub byte_in : (p : Piece) → Memᴰ p ps → (k : ℕ) → Holds p k → get_or s.payload k 0 ≡ byte_at p k
  pub byte_out : (k : ℕ) → NoneOf (λ p. Holds p k) ps → get_or s.payload k 0 ≡ 0
  pub bit_in : (p : Piece) → Memᴰ p ps → (b : ℕ) → Holds p (8 * b) → block_bit s.map b ≡ 1
  pub bit_out : (b : ℕ) → NoneOf (λ p. Holds p (8 * b)) ps → block_bit s.map b ≡ 0
  pub total_in : (p : Piece) → Memᴰ p ps → p.mf ≡ false → s.total ≡ Some (end p)
  pub total_out : NoneOf (λ p. p.mf ≡ false) ps → s.total ≡ None
  pub floor_in : (p : Piece) → Memᴰ p ps → p.mf ≡ true → end p < s.floor
  pub floor_out : (s.floor ≡ 0) ⊎ SomeOf (λ p. (p.mf ≡ true) × (s.floor ≡ suc (end p))) ps

pub data Describes (κ : Key) (C M : ℕ) (s : State) (ps : List Piece) : Type 0 where
  spoiled : Contradictory ps → s ≡ cleared κ C M true → Describes κ C M s ps
  sound : (Contradictory ps → ⊥) → Good κ C M s ps → Describes κ C M s ps

-- ---- 1. the opened state describes no piece
pub opened_describes : (κ : Key) (C M : ℕ) → Describes κ C M (opened κ C M) []
opened_describes κ C M =
    sound (λ c. Memᴰ.not-nil c.one_in)
    (record {
      key_is = refl;
      plain = refl;
      size = length-replicate C 0;
      is_map = map_zeros M;
      byte_in = λ p m. absurd (Memᴰ.not-nil m);
      byte_out = λ k f. get_d_zeros C k;
      bit_in = λ p m. absurd (Memᴰ.not-nil m);
      bit_out = λ b f. bit_zeros M b;
      total_in = λ p m. absurd (Memᴰ.not-nil m);
      total_out = λ f. refl;
      floor_in = λ p m. absurd (Memᴰ.not-nil m);
      floor_out = inl refl;
    })

end_same : (f t e : ℕ) → end_clash (Some t) f false e ≡ false → t ≡ e
unfolding end_clash
end_same f t e h = eqb-true t e (not-false _ (or_no (not (eqb t e)) (ltb e f) h).0)

end_floor : (t : Option ℕ) (f e : ℕ) → end_clash t f false e ≡ false → f ≤ e
unfolding end_clash
end_floor None f e h = ltb-false e f h
end_floor (Some t) f e h = ltb-false e f (or_no (not (eqb t e)) (ltb e f) h).1

end_total : (f t e : ℕ) → end_clash (Some t) f true e ≡ false → e < t
unfolding end_clash
end_total f t e h = leb-false t e h

-- ---- 2. the test finds exactly the contradictions
module _ (κ : Key) (C M : ℕ) (s : State) (ps : List Piece) (ok : (q : Piece) → Memᴰ q ps → Acceptable C q) (g : Good κ C M s ps) (p : Piece) where
  -- a member with MF clear has the known total for its end; one with MF set has the floor less one
  total_from : (t : ℕ) → s.total ≡ Some t → SomeOf (λ q. (q.mf ≡ false) × (end q ≡ t)) ps
  unfolding SomeOf
  total_from t e = go (any (λ q. Bool-discrete q.mf false) ps)
    where
      go : SomeOf (λ q. q.mf ≡ false) ps ⊎ NoneOf (λ q. q.mf ≡ false) ps → SomeOf (λ q. (q.mf ≡ false) × (end q ≡ t)) ps
      go (inl q) = let h = g.total_in q.0 q.1 q.2 in (q.0, q.1, (q.2, cc))
      go (inr f) = let h = g.total_out f in let z : ◌≡◌ {A = ℕ} 0 1 = cc in absurd (omega arith)

  floor_from : p.mf ≡ false → end p < s.floor → SomeOf (λ q. Contradict q p) ps
  unfolding SomeOf
  floor_from mp h = go g.floor_out
    where
      go : (s.floor ≡ 0) ⊎ SomeOf (λ q. (q.mf ≡ true) × (s.floor ≡ suc (end q))) ps → SomeOf (λ q. Contradict q p) ps
      go (inl z) = absurd (omega arith)
      go (inr q) = (q.0, q.1, more_after q.2.0 mp (omega (arith, q.2.1)))

  end_true : (t : Option ℕ) → s.total ≡ t → (b : Bool) → p.mf ≡ b → end_clash t s.floor b (end p) ≡ true → SomeOf (λ q. Contradict q p) ps
  unfolding end_clash SomeOf
  end_true None et true eb e = absurd (true≢false (sym e))
  end_true (Some t) et true eb e =
      let q = total_from t et in
      (q.0, q.1, after_more q.2.0 eb (omega (arith, leb-true t (end p) e, q.2.1)))
  end_true None et false eb e = floor_from eb (ltb-true _ _ e)
  end_true (Some t) et false eb e = go (or_cases (not (eqb t (end p))) (ltb (end p) s.floor) e)
    where
      go : (not (eqb t (end p)) ≡ true) ⊎ (ltb (end p) s.floor ≡ true) → SomeOf (λ q. Contradict q p) ps
      go (inl h) =
          let q = total_from t et in
          (q.0, q.1, two_ends q.2.0 eb (λ z. eqb-false t (end p) (not-true _ h) (sym q.2.1 ∙ z)))
      go (inr h) = floor_from eb (ltb-true _ _ h)

  -- a member with a byte in a block where p's byte at k is tested: it holds k too, or p goes past its end
  byte_true : ClashAt s.payload s.map (start p) p.body → SomeOf (λ q. Contradict q p) ps
  unfolding SomeOf
  byte_true c = go (any (λ q. holds? q (8 * (c.place / 8))) ps)
    where
      past : (q : Piece) → Holds q (8 * (c.place / 8)) → Acceptable C q → ¬ (c.place < end q) → (b b' : Bool) → q.mf ≡ b → p.mf ≡ b' → Contradict q p
      past q h a n true b' eq ep = let w = a.whole eq in absurd (omega arith)
      past q h a n false true eq ep = after_more eq ep (omega arith)
      past q h a n false false eq ep = two_ends eq ep (λ z. omega arith)

      at : (q : Piece) → Memᴰ q ps → Holds q (8 * (c.place / 8)) → Dec (c.place < end q) → Contradict q p
      at q m h (yes y) =
          let hq : Holds q c.place = record { from = omega arith; till = y } in
          differ c.place hq (record { from = c.from; till = c.till })
          (λ z. c.other (g.byte_in q m c.place hq ∙ z))
      at q m h (no n) = past q h (ok q m) n q.mf p.mf refl refl

      go : SomeOf (λ q. Holds q (8 * (c.place / 8))) ps ⊎ NoneOf (λ q. Holds q (8 * (c.place / 8))) ps → SomeOf (λ q. Contradict q p) ps
      go (inl q) = (q.0, q.1, at q.0 q.1 q.2 (dec_lt c.place (end q.0)))
      go (inr f) = absurd (omega (arith, g.bit_out (c.place / 8) f, c.is_set))

  pub test_true : clashes s p ≡ true → SomeOf (λ q. Contradict q p) ps
  unfolding clashes
  test_true e = go (or_cases (end_clash s.total s.floor p.mf (end p)) (byte_clash s.payload s.map (start p) p.body) e)
    where
      go : (end_clash s.total s.floor p.mf (end p) ≡ true) ⊎ (byte_clash s.payload s.map (start p) p.body ≡ true) → SomeOf (λ q. Contradict q p) ps
      go (inl h) = end_true s.total refl p.mf refl h
      go (inr h) = byte_true (byte_clash_true _ _ _ _ h)

  pub test_false : clashes s p ≡ false → NoneOf (λ q. Contradict q p) ps
  unfolding clashes NoneOf
  test_false e q m c = go c
    where
      no_end : end_clash s.total s.floor p.mf (end p) ≡ false
      no_end = (or_no (end_clash s.total s.floor p.mf (end p)) (byte_clash s.payload s.map (start p) p.body) e).0

      no_byte : byte_clash s.payload s.map (start p) p.body ≡ false
      no_byte = (or_no (end_clash s.total s.floor p.mf (end p)) (byte_clash s.payload s.map (start p) p.body) e).1

      go : Contradict q p → ⊥
      go (differ k hq hp ne) =
          ne (sym (g.byte_in q m k hq)
          ∙ byte_clash_false _ _ _ _ no_byte k hp.from hp.till (g.bit_in q m (k / 8) ((in_block q (k / 8)).0 (k, hq, refl))))
      go (two_ends mq mp ne) = ne (end_same s.floor (end q) (end p) (rw (g.total_in q m mq, mp) at no_end))
      go (more_after mq mp le) = omega (arith, g.floor_in q m mq, end_floor s.total s.floor (end p) (rw mp at no_end))
      go (after_more mq mp le) = omega (arith, end_total s.floor (end q) (end p) (rw (g.total_in q m mq, mp) at no_end))

  pub accept_good : C ≤ 64 * M → Acceptable C p → NoneOf (λ q. Contradict q p) ps → Good κ C M (accept s p) (p ∷ ps)
  unfolding accept NoneOf SomeOf new_total new_floor
  accept_good room a f =
      record {
        key_is = g.key_is;
        plain = refl;
        size = length-sets s.payload (start p) p.body ∙ g.size;
        is_map = map_mark M s.map p.off n g.is_map;
        byte_in = all_cons {P = λ q. (k : ℕ) → Holds q k → get_or (sets s.payload (start p) p.body) k 0 ≡ byte_at q k} own (λ q m k h. old q m k h (holds? p k));
        byte_out = λ k no_one. out k (no_one p (Memᴰ.head refl)) ∙ g.byte_out k (λ q m. no_one q (Memᴰ.tail m));
        bit_in = all_cons {P = λ q. (b : ℕ) → Holds q (8 * b) → block_bit (mark s.map p.off n) b ≡ 1} own_bit (λ q m b h. old_bit q m b h (holds? p (8 * b)));
        bit_out = λ b no_one. out_bit b (no_one p (Memᴰ.head refl)) ∙ g.bit_out b (λ q m. no_one q (Memᴰ.tail m));
        total_in = all_cons {P = λ q. q.mf ≡ false → new_total p.mf s.total (end p) ≡ Some (end q)} (λ e. own_total p.mf e) (λ q m e. old_total q m e p.mf refl);
        total_out = λ no_one. out_total p.mf (no_one p (Memᴰ.head refl)) ∙ g.total_out (λ q m. no_one q (Memᴰ.tail m));
        floor_in = all_cons {P = λ q. q.mf ≡ true → end q < new_floor p.mf s.floor (end p)} (λ e. own_floor p.mf e) (λ q m e. old_floor q m e p.mf);
        floor_out = from_floor p.mf refl g.floor_out;
      }
    where
      n : ℕ
      n = (length p.body + 7) / 8

      fits : start p + length p.body ≤ length s.payload
      fits = rw g.size a.fits

      room_bits : p.off + n ≤ 8 * M
      room_bits = omega (arith, a.fits)

      own : (k : ℕ) → Holds p k → get_or (sets s.payload (start p) p.body) k 0 ≡ byte_at p k
      own k h = get_d_sets_in s.payload (start p) p.body k fits h.from h.till

      out : (k : ℕ) → (Holds p k → ⊥) → get_or (sets s.payload (start p) p.body) k 0 ≡ get_or s.payload k 0
      out k h = get_d_sets_out s.payload (start p) p.body k (λ lo. past (dec_lt k (end p)) lo)
        where
          past : Dec (k < end p) → start p ≤ k → start p + length p.body ≤ k
          past (yes y) lo = absurd (h (record { from = lo; till = y }))
          past (no z) lo = omega arith

      same_byte : (q : Piece) → Memᴰ q ps → (k : ℕ) → Holds q k → Holds p k → Dec (byte_at q k ≡ byte_at p k) → byte_at p k ≡ byte_at q k
      same_byte q m k hq hp (yes e) = sym e
      same_byte q m k hq hp (no ne) = absurd (f q m (differ k hq hp ne))

      old : (q : Piece) → Memᴰ q ps → (k : ℕ) → Holds q k → Dec (Holds p k) → get_or (sets s.payload (start p) p.body) k 0 ≡ byte_at q k
      old q m k h (yes y) = own k y ∙ same_byte q m k h y (ℕ_discrete (byte_at q k) (byte_at p k))
      old q m k h (no z) = out k z ∙ g.byte_in q m k h

      own_bit : (b : ℕ) → Holds p (8 * b) → block_bit (mark s.map p.off n) b ≡ 1
      own_bit b h = bit_mark_in M s.map p.off n b g.is_map room_bits (omega arith) (omega arith)

      out_bit : (b : ℕ) → (Holds p (8 * b) → ⊥) → block_bit (mark s.map p.off n) b ≡ block_bit s.map b
      out_bit b h = bit_mark_out M s.map p.off n b g.is_map room_bits (λ lo. past (dec_lt (8 * b) (end p)) lo)
        where
          past : Dec (8 * b < end p) → p.off ≤ b → p.off + n ≤ b
          past (yes y) lo = absurd (h (record { from = omega arith; till = y }))
          past (no z) lo = omega arith

      old_bit : (q : Piece) → Memᴰ q ps → (b : ℕ) → Holds q (8 * b) → Dec (Holds p (8 * b)) → block_bit (mark s.map p.off n) b ≡ 1
      old_bit q m b h (yes y) = own_bit b y
      old_bit q m b h (no z) = out_bit b z ∙ g.bit_in q m b h

      own_total : (b : Bool) → b ≡ false → new_total b s.total (end p) ≡ Some (end p)
      own_total true e = absurd (true≢false e)
      own_total false e = refl

      same_end : (q : Piece) → Memᴰ q ps → q.mf ≡ false → p.mf ≡ false → Dec (end q ≡ end p) → Some (end p) ≡ Some (end q)
      same_end q m eq ep (yes e) = ap Some (sym e)
      same_end q m eq ep (no ne) = absurd (f q m (two_ends eq ep ne))

      old_total : (q : Piece) → Memᴰ q ps → q.mf ≡ false → (b : Bool) → p.mf ≡ b → new_total b s.total (end p) ≡ Some (end q)
      old_total q m e true eb = g.total_in q m e
      old_total q m e false eb = same_end q m e eb (ℕ_discrete (end q) (end p))

      out_total : (b : Bool) → (b ≡ false → ⊥) → new_total b s.total (end p) ≡ s.total
      out_total true h = refl
      out_total false h = absurd (h refl)

      own_floor : (b : Bool) → b ≡ true → end p < new_floor b s.floor (end p)
      own_floor true e = omega arith
      own_floor false e = absurd (true≢false (sym e))

      old_floor : (q : Piece) → Memᴰ q ps → q.mf ≡ true → (b : Bool) → end q < new_floor b s.floor (end p)
      old_floor q m e true = omega (arith, g.floor_in q m e)
      old_floor q m e false = g.floor_in q m e

      from_floor : (b : Bool) → p.mf ≡ b → (s.floor ≡ 0) ⊎ SomeOf (λ q. (q.mf ≡ true) × (s.floor ≡ suc (end q))) ps
          → (new_floor b s.floor (end p) ≡ 0) ⊎ SomeOf (λ q. (q.mf ≡ true) × (new_floor b s.floor (end p) ≡ suc (end q))) (p ∷ ps)
      from_floor false eb (inl z) = inl z
      from_floor false eb (inr q) = inr (q.0, Memᴰ.tail q.1, q.2)
      from_floor true eb (inl z) = inr (p, Memᴰ.head refl, (eb, omega arith))
      from_floor true eb (inr q) = larger (dec_le (end p) (end q.0))
        where
          larger : Dec (end p ≤ end q.0) → (max s.floor (end p + 1) ≡ 0) ⊎ SomeOf (λ r. (r.mf ≡ true) × (max s.floor (end p + 1) ≡ suc (end r))) (p ∷ ps)
          larger (yes h) = inr (q.0, Memᴰ.tail q.1, (q.2.0, omega (arith, q.2.1)))
          larger (no h) = inr (p, Memᴰ.head refl, (eb, omega (arith, q.2.1)))

more : {ps : List Piece} (p : Piece) → Contradictory ps → Contradictory (p ∷ ps)
more p c = record { one = c.one; other = c.other; one_in = Memᴰ.tail c.one_in; other_in = Memᴰ.tail c.other_in; clash = c.clash }

-- no two contradict each other, and none contradicts p: nor do any two of them with p
still : {ps : List Piece} {p : Piece} → (Contradictory ps → ⊥) → NoneOf (λ q. Contradict q p) ps → Contradictory (p ∷ ps) → ⊥
unfolding NoneOf
still {ps} {p} n f c =
    all_cons {P = λ x. (y : Piece) → Memᴰ y (p ∷ ps) → Contradict x y → ⊥}
    (all_cons {P = λ y. Contradict p y → ⊥} (λ h. Contradict·irrefl h) (λ q m h. f q m (Contradict·sym h)))
    (λ q m. all_cons {P = λ y. Contradict q y → ⊥} (f q m) (λ r k h. n (record { one = q; other = r; one_in = m; other_in = k; clash = h })))
    c.one c.one_in c.other c.other_in c.clash

pub step_describes : (κ : Key) (C M : ℕ) (s : State) (ps : List Piece) (p : Piece) → C ≤ 64 * M → ((q : Piece) → Memᴰ q (p ∷ ps) → Acceptable C q)
    → Describes κ C M s ps → Describes κ C M (step s p) (p ∷ ps)
unfolding step SomeOf
step_describes κ C M s ps p room ok d = go d s.spoilt refl
  where
    old : (q : Piece) → Memᴰ q ps → Acceptable C q
    old q m = ok q (Memᴰ.tail m)

    found : SomeOf (λ q. Contradict q p) ps → Contradictory (p ∷ ps)
    found q = record { one = q.0; other = p; one_in = Memᴰ.tail q.1; other_in = Memᴰ.head refl; clash = q.2 }

    test : (Contradictory ps → ⊥) → Good κ C M s ps → (b : Bool) → clashes s p ≡ b
        → Describes κ C M (cond b (cleared s.key (length s.payload) (length s.map) true) (accept s p)) (p ∷ ps)
    test n g true e = spoiled (found (test_true κ C M s ps old g p e)) (rw (g.key_is, g.size, g.is_map.size) refl)
    test n g false e =
        let f = test_false κ C M s ps old g p e in
        sound (still n f) (accept_good κ C M s ps old g p room (ok p (Memᴰ.head refl)) f)

    go : Describes κ C M s ps → (b : Bool) → s.spoilt ≡ b
        → Describes κ C M (cond b s (cond (clashes s p) (cleared s.key (length s.payload) (length s.map) true) (accept s p))) (p ∷ ps)
    go (spoiled c e) true h = spoiled (more p c) e
    go (spoiled c e) false h = absurd (both (ap (λ (t : State). t.spoilt) e) h)
    go (sound n g) true h = absurd (both h g.plain)
    go (sound n g) false h = test n g (clashes s p) refl

one_good : (κ : Key) (C M : ℕ) (s s' : State) (ps qs : List Piece) → Same ps qs → Good κ C M s ps → Good κ C M s' qs → s ≡ s'
unfolding SomeOf NoneOf
one_good κ C M s s' ps qs same g g' =
    state_path (g.key_is ∙ sym g'.key_is)
    (ext_get_or 0 s.payload s'.payload (g.size ∙ sym g'.size) (λ k h. byte k (any (λ p. holds? p k) ps)))
    (map_ext M s.map s'.map g.is_map g'.is_map (λ b. bits b (any (λ p. holds? p (8 * b)) ps)))
    (total (any (λ p. Bool-discrete p.mf false) ps))
    (floors g.floor_out g'.floor_out)
    (g.plain ∙ sym g'.plain)
  where
    back : {P : Piece → Type 0} → NoneOf P ps → NoneOf P qs
    back f q m = f q (same.from q m)

    byte : (k : ℕ) → SomeOf (λ p. Holds p k) ps ⊎ NoneOf (λ p. Holds p k) ps → get_or s.payload k 0 ≡ get_or s'.payload k 0
    byte k (inl p) = g.byte_in p.0 p.1 k p.2 ∙ sym (g'.byte_in p.0 (same.to p.0 p.1) k p.2)
    byte k (inr f) = g.byte_out k f ∙ sym (g'.byte_out k (back f))

    bits : (b : ℕ) → SomeOf (λ p. Holds p (8 * b)) ps ⊎ NoneOf (λ p. Holds p (8 * b)) ps → block_bit s.map b ≡ block_bit s'.map b
    bits b (inl p) = g.bit_in p.0 p.1 b p.2 ∙ sym (g'.bit_in p.0 (same.to p.0 p.1) b p.2)
    bits b (inr f) = g.bit_out b f ∙ sym (g'.bit_out b (back f))

    total : SomeOf (λ p. p.mf ≡ false) ps ⊎ NoneOf (λ p. p.mf ≡ false) ps → s.total ≡ s'.total
    total (inl p) = g.total_in p.0 p.1 p.2 ∙ sym (g'.total_in p.0 (same.to p.0 p.1) p.2)
    total (inr f) = g.total_out f ∙ sym (g'.total_out (back f))

    floors : (s.floor ≡ 0) ⊎ SomeOf (λ p. (p.mf ≡ true) × (s.floor ≡ suc (end p))) ps
        → (s'.floor ≡ 0) ⊎ SomeOf (λ p. (p.mf ≡ true) × (s'.floor ≡ suc (end p))) qs → s.floor ≡ s'.floor
    floors (inl z) (inl z') = z ∙ sym z'
    floors (inl z) (inr q) = absurd (omega (arith, g.floor_in q.0 (same.from q.0 q.1) q.2.0))
    floors (inr p) (inl z') = absurd (omega (arith, g'.floor_in p.0 (same.to p.0 p.1) p.2.0))
    floors (inr p) (inr q) =
        omega (arith, p.2.1, q.2.1, g.floor_in q.0 (same.from q.0 q.1) q.2.0, g'.floor_in p.0 (same.to p.0 p.1) p.2.0)

-- ---- 3. a list of pieces, as a set, has one state
pub one_state : (κ : Key) (C M : ℕ) (s s' : State) (ps qs : List Piece) → Same ps qs → Describes κ C M s ps → Describes κ C M s' qs → s ≡ s'
one_state κ C M s s' ps qs same (spoiled c e) (spoiled c' e') = e ∙ sym e'
one_state κ C M s s' ps qs same (spoiled c e) (sound n' g') = absurd (n' (Contradictory·same same c))
one_state κ C M s s' ps qs same (sound n g) (spoiled c' e') = absurd (n (Contradictory·same (Same·sym same) c'))
one_state κ C M s s' ps qs same (sound n g) (sound n' g') = one_good κ C M s s' ps qs same g g'

-- ---- 4. any order, any repeats
rev_in : (ps qs : List Piece) (q : Piece) → Memᴰ q ps ⊎ Memᴰ q qs → Memᴰ q (reverse_aux ps qs)
rev_in [] qs q (inl m) = absurd (Memᴰ.not-nil m)
rev_in [] qs q (inr m) = m
rev_in (p ∷ ps) qs q (inl m) = rev_in ps (p ∷ qs) q (⊎_elim (λ (e : q ≡ p). inr (Memᴰ.head e)) (λ (h : Memᴰ q ps). inl h) (Memᴰ.cases_cons m))
rev_in (p ∷ ps) qs q (inr m) = rev_in ps (p ∷ qs) q (inr (Memᴰ.tail m))

rev_out : (ps qs : List Piece) (q : Piece) → Memᴰ q (reverse_aux ps qs) → Memᴰ q ps ⊎ (Memᴰ q qs)
rev_out [] qs q m = inr m
rev_out (p ∷ ps) qs q m = go (rev_out ps (p ∷ qs) q m)
  where
    go : Memᴰ q ps ⊎ (Memᴰ q (p ∷ qs)) → (Memᴰ q (p ∷ ps)) ⊎ (Memᴰ q qs)
    go (inl h) = inl (Memᴰ.tail h)
    go (inr h) = ⊎_elim (λ (e : q ≡ p). inl (Memᴰ.head e)) (λ (k : Memᴰ q qs). inr k) (Memᴰ.cases_cons h)

same_good : {κ : Key} {C M : ℕ} {s : State} {ps qs : List Piece} → Same ps qs → Good κ C M s ps → Good κ C M s qs
unfolding SomeOf NoneOf
same_good {κ} {C} {M} {s} {ps} {qs} same g =
    record {
      key_is = g.key_is;
      plain = g.plain;
      size = g.size;
      is_map = g.is_map;
      byte_in = λ p m. g.byte_in p (same.from p m);
      byte_out = λ k f. g.byte_out k (λ q m. f q (same.to q m));
      bit_in = λ p m. g.bit_in p (same.from p m);
      bit_out = λ b f. g.bit_out b (λ q m. f q (same.to q m));
      total_in = λ p m. g.total_in p (same.from p m);
      total_out = λ f. g.total_out (λ q m. f q (same.to q m));
      floor_in = λ p m. g.floor_in p (same.from p m);
      floor_out = ⊎_elim (λ (z : s.floor ≡ 0). inl z) (λ (q : SomeOf (λ p. (p.mf ≡ true) × (s.floor ≡ suc (end p))) ps). inr (q.0, same.to q.0 q.1, q.2)) g.floor_out;
    }

same_describes : {κ : Key} {C M : ℕ} {s : State} {ps qs : List Piece} → Same ps qs → Describes κ C M s ps → Describes κ C M s qs
same_describes same (spoiled c e) = spoiled (Contradictory·same same c) e
same_describes same (sound n g) = sound (λ c. n (Contradictory·same (Same·sym same) c)) (same_good same g)

run_from : (κ : Key) (C M : ℕ) (s : State) (ps qs : List Piece) → C ≤ 64 * M → ((q : Piece) → Memᴰ q (reverse_aux ps qs) → Acceptable C q)
    → Describes κ C M s qs → Describes κ C M (run s ps) (reverse_aux ps qs)
unfolding run
run_from κ C M s [] qs room ok d = d
run_from κ C M s (p ∷ ps) qs room ok d =
    run_from κ C M (step s p) ps (p ∷ qs) room ok (step_describes κ C M s qs p room (λ q m. ok q (rev_in ps (p ∷ qs) q (inr m))) d)

pub run_describes : (κ : Key) (C M : ℕ) (ps : List Piece) → C ≤ 64 * M → ((q : Piece) → Memᴰ q ps → Acceptable C q) → Describes κ C M (run (opened κ C M) ps) ps
run_describes κ C M ps room ok =
    same_describes (record { to = λ q m. ⊎_elim (λ (h : Memᴰ q ps). h) (λ (h : Memᴰ q []). absurd (Memᴰ.not-nil h)) (rev_out ps [] q m); from = λ q m. rev_in ps [] q (inl m) })
    (run_from κ C M (opened κ C M) ps [] room (λ q m. ok q (⊎_elim (λ (h : Memᴰ q ps). h) (λ (h : Memᴰ q []). absurd (Memᴰ.not-nil h)) (rev_out ps [] q m))) (opened_describes κ C M))

pub any_order : (κ : Key) (C M : ℕ) (ps qs : List Piece) → C ≤ 64 * M → ((q : Piece) → Memᴰ q ps → Acceptable C q) → Same ps qs → run (opened κ C M) ps ≡ run (opened κ C M) qs
any_order κ C M ps qs room ok same =
    one_state κ C M (run (opened κ C M) ps) (run (opened κ C M) qs) ps qs same (run_describes κ C M ps room ok)
    (run_describes κ C M qs room (λ q m. ok q (same.from q m)))

pub spoilt_exactly : (κ : Key) (C M : ℕ) (ps : List Piece) → C ≤ 64 * M → ((q : Piece) → Memᴰ q ps → Acceptable C q)
    → ((run (opened κ C M) ps).spoilt ≡ true) ↔ Contradictory ps
spoilt_exactly κ C M ps room ok = go (run_describes κ C M ps room ok)
  where
    go : Describes κ C M (run (opened κ C M) ps) ps → ((run (opened κ C M) ps).spoilt ≡ true) ↔ Contradictory ps
    go (spoiled c e) = (λ h. c, λ h. ap (λ (s : State). s.spoilt) e)
    go (sound n g) = (λ h. absurd (both h g.plain), λ c. absurd (n c))
