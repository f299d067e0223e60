-- Each field of a capture holds its old number before mending and its new one after it, since no two of them overlap.
use mathlib.Core.Path.{◌≡◌, refl, sym, ap, ◌∙◌}
use mathlib.Core.Logic.{◌⊎◌, inl, inr}
use mathlib.Core.Bool.{Bool, true, false}
use Prim.Native.Nat.{ℕ, zero, suc, ◌+◌, ◌-◌, ◌≤◌, ◌<◌}
use native.Mathlib.Omega.{arith}
use mathlib.Core.List.{List, [], ◌∷◌, ◌++◌, append_assoc}
use lib.ListN.{length, get_or, take, drop, length-append, length-drop}
use lib.Seq.{take-length, drop_at, get_or-drop}
use lib.Dec.{eqb, leb, ltb}
use borrow.Author.Tests.{leb-true, leb-false, ltb-true, ltb-false, eqb-true, eqb-false}
use Rattle.pkt.specs.Answers.{Answer, refused, gives}
use Rattle.pkt.specs.Rfc791.{ip_sum_at}
use Rattle.pkt.specs.Fields.{Bytes, value}
use Rattle.inspect.specs.declared.check.Whole.{Whole}
use Rattle.inspect.specs.Header.{field_at}
use Rattle.inspect.specs.Check.{examine_answer}
use Rattle.inspect.specs.declared.header.IpRead.{IpRead}
use Rattle.inspect.specs.declared.check.Kind.{Kind}
use Rattle.inspect.specs.declared.check.Kind.TheVariants.{Tcp, Udp, Bare, Icmp}
use Rattle.inspect.proofs.Numbers.{drop_bytes, field_front}
use Rattle.inspect.proofs.Reading.{framed}
use Rattle.mending.specs.Sums.{renewed, ip_sum, field_of, part_fields, fields_of, sums_in, put_fields, mend_packet}
use Rattle.mending.specs.Packets.{AllWithin, PacketsMended}
use Rattle.mending.specs.Mend.{Listed, listed, put_sums}
use Rattle.mending.specs.Captures.{Covers, Unlisted, AllHold}
use Rattle.mending.specs.declared.sums.SumField.{SumField}
use Rattle.mending.proofs.Renewed.{renewed_length, field_before, field_here, field_drop}
use Rattle.mending.proofs.Wholes.{known}
use Rattle.mending.proofs.Placing.{put_length, put_bytes, Missed, put_missed}
use Rattle.mending.proofs.Laid.{Laid, stops, goes, sums_by}
use Rattle.mending.proofs.Records.{packet_bytes, rest_bytes, mended_by}

-- ---- the fields of a packet

-- each of them holds its old number in p, and its new one in q
unfoldable FieldsHold : List SumField → List ℕ → List ℕ → Type 0
FieldsHold [] p q = Unit {0}
FieldsHold (f ∷ fs) p q = (field_at p f.at 2 ≡ f.old) × (field_at q f.at 2 ≡ f.new) × FieldsHold fs p q

module _ (p : List ℕ) (x : ℕ) where
  -- the header's alone
  one_holds : AllWithin (field_of p ip_sum_at x ∷ []) p → FieldsHold (field_of p ip_sum_at x ∷ []) p (put_fields (field_of p ip_sum_at x ∷ []) p)
  unfolding AllWithin FieldsHold put_fields
  one_holds (h, few, t) = (refl, field_here ip_sum_at x p h few, tt)

  -- .. and one that stands behind it
  two_hold : (at y : ℕ) → 20 ≤ at → AllWithin (field_of p ip_sum_at x ∷ field_of p at y ∷ []) p
      → FieldsHold (field_of p ip_sum_at x ∷ field_of p at y ∷ []) p (put_fields (field_of p ip_sum_at x ∷ field_of p at y ∷ []) p)
  unfolding AllWithin FieldsHold put_fields
  two_hold at y behind (h, few, (g, few', t)) =
      let q : List ℕ = renewed ip_sum_at x p in (
        refl,
        field_before ip_sum_at 2 at y q (omega arith) ∙ field_here ip_sum_at x p h few,
        (refl, field_here at y q (omega (arith, renewed_length ip_sum_at x p)) few', tt),
      )

  parts_hold : (k : Kind) (h : IpRead) → 20 ≤ h.start → AllWithin (field_of p ip_sum_at x ∷ part_fields k h p) p
      → FieldsHold (field_of p ip_sum_at x ∷ part_fields k h p) p (put_fields (field_of p ip_sum_at x ∷ part_fields k h p) p)
  unfolding part_fields
  parts_hold Tcp h least w = two_hold _ _ (omega arith) w
  parts_hold Udp h least w = two_hold _ _ (omega arith) w
  parts_hold Bare h least w = one_holds w
  parts_hold Icmp h least w = two_hold _ _ (omega arith) w

fields_hold : (p : List ℕ) → AllWithin (sums_in p) p → FieldsHold (sums_in p) p (mend_packet p)
unfolding sums_in FieldsHold
fields_hold p w = go (examine_answer p) refl w
  where
    go : (a : Answer Whole) → examine_answer p ≡ a → AllWithin (fields_of a p) p → FieldsHold (fields_of a p) p (put_fields (fields_of a p) p)
    go (refused n) e w = tt
    go (gives g) e w = parts_hold p (ip_sum g.header p) g.kind g.header (framed p g.header (known p g.header g.kind e).frame).least w

-- ---- a packet within a capture

-- A number in the packet p behind a is read from p.
field_amid : (a p r : List ℕ) (start i : ℕ) → length a ≡ start → i + 2 ≤ length p → field_at (a ++ (p ++ r)) (start + i) 2 ≡ field_at p i 2
field_amid a p r start i e h =
    sym (field_drop i 2 start (a ++ (p ++ r)))
    ∙ ap (λ (l : List ℕ). field_at l i 2) (drop_at a (p ++ r) start e ∙ ap (λ (t : List ℕ). t ++ r) (sym (take-length p)))
    ∙ field_front i 2 (length p) p r h (omega arith)

hold_listed : (k which start : ℕ) (fs : List SumField) (a p r a' q r' : List ℕ) → length a ≡ start → length a' ≡ start → length q ≡ length p
    → AllWithin fs p → FieldsHold fs p q → AllHold (listed k which start fs) (a ++ (p ++ r)) (a' ++ (q ++ r'))
unfolding AllWithin FieldsHold AllHold
hold_listed k which start [] a p r a' q r' here here' size w h = tt
hold_listed k which start (f ∷ fs) a p r a' q r' here here' size (i, few, w) (old, new, h) = (
  field_amid a p r start f.at here i ∙ old,
  field_amid a' q r' start f.at here' (omega arith) ∙ new,
  hold_listed k (suc which) start fs a p r a' q r' here here' size w h,
)

hold_append : (ss ts : List Listed) (l l' : List ℕ) → AllHold ss l l' → AllHold ts l l' → AllHold (ss ++ ts) l l'
unfolding AllHold
hold_append [] ts l l' h g = g
hold_append (s ∷ ss) ts l l' (old, new, h) g = (old, new, hold_append ss ts l l' h g)

module _ (pm : PacketsMended) where
  pub hold_mended : {r : List ℕ} (v : Laid r) (k at : ℕ) (a a' : List ℕ) → length a ≡ at → length a' ≡ at → Bytes r
      → AllHold (sums_by v k at) (a ++ r) (a' ++ mended_by v)
  unfolding sums_by mended_by AllHold
  hold_mended (stops l e) k at a a' here here' b = tt
  hold_mended (goes h p r sixteen names few v) k at a a' here here' b =
      let q : List ℕ = mend_packet p in
      let size = pm.size p in
      let next : ℕ = at + (16 + length p) in
      let l : List ℕ = a ++ (h ++ (p ++ r)) in
      let l' : List ℕ = a' ++ (h ++ (q ++ mended_by v)) in
      let w = pm.within p (packet_bytes h p r b) in
      let first : (a ++ h) ++ (p ++ r) ≡ l = simp append_assoc in
      let first' : (a' ++ h) ++ (q ++ mended_by v) ≡ l' = simp append_assoc in
      let then : (a ++ (h ++ p)) ++ r ≡ l = simp append_assoc in
      let then' : (a' ++ (h ++ q)) ++ mended_by v ≡ l' = simp append_assoc in
      let one : AllHold (listed k 0 (at + 16) (sums_in p)) l l' =
      rw (first, first') at (hold_listed k 0 (at + 16) (sums_in p) (a ++ h) p r (a' ++ h) q (mended_by v)
      (omega (arith, length-append a h)) (omega (arith, length-append a' h)) size w (fields_hold p w)) in
      let others : AllHold (sums_by v (suc k) next) l l' =
      rw (then, then') at (hold_mended v (suc k) next (a ++ (h ++ p)) (a' ++ (h ++ q))
      (omega (arith, length-append a (h ++ p), length-append h p)) (omega (arith, length-append a' (h ++ q), length-append h q)) (rest_bytes h p r b)) in
      hold_append (listed k 0 (at + 16) (sums_in p)) (sums_by v (suc k) next) l l' one others

-- ---- a place that no change has

-- Two bytes are told by their number.
two_only : (l l' : List ℕ) → length l ≡ length l' → Bytes l → Bytes l' → value 0 (take 2 l) ≡ value 0 (take 2 l')
    → (i : ℕ) → i < 2 → get_or l i 0 ≡ get_or l' i 0
unfolding value
two_only [] [] n b b' e i h = refl
two_only [] (y ∷ l') n b b' e i h = absurd (omega arith)
two_only (x ∷ l) [] n b b' e i h = absurd (omega arith)
two_only (x ∷ []) (y ∷ []) n b b' e zero h = omega arith
two_only (x ∷ []) (y ∷ []) n b b' e (suc i) h = refl
two_only (x ∷ []) (y ∷ z ∷ l') n b b' e i h = absurd (omega arith)
two_only (x ∷ w ∷ l) (y ∷ []) n b b' e i h = absurd (omega arith)
two_only (x ∷ w ∷ l) (y ∷ z ∷ l') n b b' e zero h = omega (arith, b 0, b 1, b' 0, b' 1)
two_only (x ∷ w ∷ l) (y ∷ z ∷ l') n b b' e (suc zero) h = omega (arith, b 0, b 1, b' 0, b' 1)
two_only (x ∷ w ∷ l) (y ∷ z ∷ l') n b b' e (suc (suc i)) h = absurd (omega arith)

module _ (l l' : List ℕ) (size : length l ≡ length l') (b : Bytes l) (b' : Bytes l') where
  -- A field that holds one number in both has the same bytes in both.
  field_only : (at i : ℕ) → field_at l at 2 ≡ field_at l' at 2 → at ≤ i → i < at + 2 → get_or l i 0 ≡ get_or l' i 0
  unfolding field_at
  field_only at i e h g =
      let n : length (drop at l) ≡ length (drop at l') = omega (arith, length-drop at l, length-drop at l') in
      let two = two_only (drop at l) (drop at l') n (drop_bytes at l b) (drop_bytes at l' b') e in
      let place : at + (i - at) ≡ i = omega arith in
      rw place at (sym (get_or-drop at l (i - at) 0) ∙ two (i - at) (omega arith) ∙ get_or-drop at l' (i - at) 0)

  -- Each place holds what it held, or is no field's.
  stays : (ss : List Listed) (i : ℕ) → AllHold ss l l' → Unlisted ss i → (get_or l i 0 ≡ get_or l' i 0) ⊎ Missed ss i
  unfolding AllHold Unlisted Missed
  stays [] i h u = inr tt
  stays (s ∷ ss) i (old, new, h) (u, t) = go (leb s.at i) refl (ltb i (s.at + 2)) refl (eqb s.old s.new) refl (stays ss i h t)
    where
      later : (Covers s i → ⊥) → (get_or l i 0 ≡ get_or l' i 0) ⊎ Missed ss i → (get_or l i 0 ≡ get_or l' i 0) ⊎ Missed (s ∷ ss) i
      later miss (inl e) = inl e
      later miss (inr m) = inr (miss, m)

      go : (x : Bool) → leb s.at i ≡ x → (y : Bool) → ltb i (s.at + 2) ≡ y → (z : Bool) → eqb s.old s.new ≡ z
          → (get_or l i 0 ≡ get_or l' i 0) ⊎ Missed ss i → (get_or l i 0 ≡ get_or l' i 0) ⊎ Missed (s ∷ ss) i
      go false p y q z e r = later (λ c. omega (arith, leb-false s.at i p, c.0)) r
      go true p false q z e r = later (λ c. omega (arith, ltb-false i (s.at + 2) q, c.1)) r
      go true p true q true e r =
          inl (field_only s.at i (old ∙ eqb-true s.old s.new e ∙ sym new) (leb-true s.at i p) (ltb-true i (s.at + 2) q))
      go true p true q false e r = absurd (u (eqb-false s.old s.new e) (leb-true s.at i p, ltb-true i (s.at + 2) q))

-- Fields that are put, and then hold their numbers, change no place that none of them has for a change.
pub put_unlisted : (ss : List Listed) (l : List ℕ) (i : ℕ) → Bytes l → AllHold ss l (put_sums ss l) → Unlisted ss i
    → get_or (put_sums ss l) i 0 ≡ get_or l i 0
put_unlisted ss l i b h u = go (stays l (put_sums ss l) (sym (put_length ss l)) b (put_bytes ss l b) ss i h u)
  where
    go : (get_or l i 0 ≡ get_or (put_sums ss l) i 0) ⊎ Missed ss i → get_or (put_sums ss l) i 0 ≡ get_or l i 0
    go (inl e) = sym e
    go (inr m) = put_missed ss i l m
