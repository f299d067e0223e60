-- What one changed word does to a ones' complement sum that verified, and where that word stands among the others.
use mathlib.Core.Path.{◌≡◌, refl, sym, ap, ◌∙◌, subst}
use mathlib.Core.Logic.{◌⊎◌, inl, inr}
use mathlib.Core.Bool.{Bool, true, false}
use mathlib.Core.List.{List, [], ◌∷◌, ◌++◌}
use Prim.Native.Nat.{ℕ, zero, suc, ◌+◌, ◌-◌, ◌*◌, ◌/◌, ◌%◌, ◌≤◌, ◌<◌}
use native.Mathlib.Omega.{arith}
use lib.ListN.{length, get_or, set, take, drop, length-set}
use lib.Seq.{get_or-drop, take-set-le, drop-set-add}
use lib.Dec.{ltb}
use borrow.Author.Tests.{ltb-true, ltb-false, eqb-true}
use Rattle.pkt.specs.Fields.{value, Bytes}
use Rattle.pkt.specs.Rfc1071.{sum, words, Verifies, verifies}
use Rattle.pkt.specs.Rfc768.{pseudo}
use Rattle.pkt.specs.Sums.{total, canon}
use Rattle.pkt.proofs.Checksum.{sum_total}
use Rattle.pkt.proofs.Choice.{fails}
use Rattle.inspect.specs.Header.{field_at}
use Rattle.inspect.proofs.Numbers.{field_one, field_two, field_below}
use Rattle.inspect.proofs.Whole.{behind_pseudo_lem}
use Rattle.mending.specs.Sums.{renewed}
use Rattle.mending.proofs.Renewed.{renewed_length, set_bytes, renewed_bytes, renewed_same, set_behind, field_before, field_behind}
use Rattle.mending.proofs.Summing.{renewed_total, some_behind, behind_place, behind_field, behind_within}
use Rattle.demands.specs.WrongWord.{WordChange, LastChange, Turned}

-- ---- numbers

-- A sum that folds to all ones is a multiple of 65,535.
ones_multiple : (n : ℕ) → canon n ≡ 65535 → n % 65535 ≡ 0
unfolding canon
ones_multiple zero e = omega arith
ones_multiple (suc n) e = omega arith

-- A multiple of 65,535 above 0 folds to all ones.
multiple_ones : (n : ℕ) → 0 < n → n % 65535 ≡ 0 → canon n ≡ 65535
unfolding canon
multiple_ones zero some e = absurd (omega arith)
multiple_ones (suc n) some e = omega arith

-- Two numbers of 16 bits that differ, and by a multiple of 65,535, are 0000 and ffff.
turn : (w x : ℕ) → w < 65536 → x < 65536 → (w ≡ x → ⊥) → w % 65535 ≡ x % 65535 → Turned w x
turn zero x a b n e = inl (refl, omega arith)
turn (suc w) zero a b n e = inr (omega arith, refl)
turn (suc w) (suc x) a b n e = absurd (n (omega arith))

-- Two numbers that each fill t up to a multiple of 65,535 differ by one.
same_rest : (t w x : ℕ) → (t + w) % 65535 ≡ 0 → (t + x) % 65535 ≡ 0 → w % 65535 ≡ x % 65535
same_rest t w x a b = omega arith

-- ---- bytes l that verify, with another number x in the word at place i

module _ (i x : ℕ) (l : List ℕ) (ch : WordChange l i x) (b : Bytes l) (v : Verifies l) where
  -- the word before the change
  w : ℕ
  w = field_at l i 2

  -- the sum of all other words
  rest : ℕ
  rest = total (renewed i 0 l)

  -- The word has 16 bits.
  w_few : w < 65536
  unfolding w
  w_few = omega (arith, field_below i 2 l b)

  -- The sum before the change, a multiple of 65,535,
  was : (rest + w) % 65535 ≡ 0
  unfolding w rest
  was =
      let all : total l ≡ total (renewed i 0 l) + field_at l i 2 =
      ap total (sym (renewed_same i l b ch.within)) ∙ renewed_total i (field_at l i 2) l ch.even ch.within w_few in
      ones_multiple (total (renewed i 0 l) + field_at l i 2) (ap canon (sym all) ∙ sym (sum_total l b) ∙ v)

  -- and the sum behind it.
  now_is : sum (words (renewed i x l)) ≡ canon (rest + x)
  unfolding rest
  now_is = sum_total (renewed i x l) (renewed_bytes i x l b) ∙ ap canon (renewed_total i x l ch.even ch.within ch.number)

  -- They still verify only if the word turned,
  pub only_turned : Verifies (renewed i x l) → Turned (field_at l i 2) x
  unfolding w
  only_turned y = turn w x w_few ch.number ch.another (same_rest rest w x was (ones_multiple (rest + x) (sym now_is ∙ y)))

  -- and if it turned they do, unless all others are 0.
  pub turned_verifies : 0 < total (renewed i 0 l) → Turned (field_at l i 2) x → Verifies (renewed i x l)
  unfolding w rest
  turned_verifies some t = now_is ∙ multiple_ones (rest + x) (omega arith) (go t)
    where
      go : Turned (field_at l i 2) x → (rest + x) % 65535 ≡ 0
      go (inl (a, c)) = omega (arith, was)
      go (inr (a, c)) = omega (arith, was)

-- ---- the odd last byte, at place k

-- The sum with b for the last byte is the sum before, where both are given 256 times the other's byte.
last_total : (l : List ℕ) (k b : ℕ) → length l ≡ suc k → k % 2 ≡ 0 → total (set l k b) + 256 * get_or l k 0 ≡ total l + 256 * b
unfolding total
last_total [] k b e h = absurd (omega arith)
last_total (a ∷ []) zero b e h = omega arith
last_total (a ∷ []) (suc k) b e h = absurd (omega arith)
last_total (a ∷ c ∷ r) zero b e h = absurd (omega arith)
last_total (a ∷ c ∷ r) (suc zero) b e h = absurd (omega arith)
last_total (a ∷ c ∷ r) (suc (suc k)) b e h = omega (arith, last_total r k b (omega arith) (omega arith))

-- Less than 256 times 256 is no multiple of 65,535 but 0.
last_same : (m n o b : ℕ) → m % 65535 ≡ 0 → n % 65535 ≡ 0 → o < 256 → b < 256 → n + 256 * o ≡ m + 256 * b → o ≡ b
last_same m n o b hm hn ho hb e =
    let q : m ≡ 65535 * (m / 65535) = omega arith in
    let r : n ≡ 65535 * (n / 65535) = omega arith in
    let same : n / 65535 ≡ m / 65535 = omega arith in
    omega arith

-- Bytes that verify do not verify with another odd last byte.
pub last_seen : (l : List ℕ) (b : ℕ) → LastChange l b → Bytes l → Verifies l → verifies (set l (length l - 1) b) ≡ false
last_seen l b ch bytes v = fails (verifies m) (λ q. ch.another (last_same (total l) (total m) (get_or l k 0) b here (there q) (bytes k) ch.number grown))
  where
    k : ℕ
    k = length l - 1

    m : List ℕ
    m = set l k b

    here : total l % 65535 ≡ 0
    here = ones_multiple (total l) (sym (sum_total l bytes) ∙ v)

    there : verifies m ≡ true → total m % 65535 ≡ 0
    there q = ones_multiple (total m) (sym (sum_total m (set_bytes l k b bytes ch.number)) ∙ eqb-true (sum (words m)) 65535 q)

    grown : total m + 256 * get_or l k 0 ≡ total l + 256 * b
    grown = last_total l k b (omega (arith, ch.odd)) (omega (arith, ch.odd))

-- ---- a transport part d behind the pseudo header of the addresses s and t and the protocol p

module _ (s t p : ℕ) (d : List ℕ) (some : 0 < p) (byte : p < 256) (bd : Bytes d) (v : Verifies (pseudo s t p (length d) ++ d)) where
  abbrev all : List ℕ
  all = pseudo s t p (length d) ++ d

  -- All that is summed is bytes.
  all_bytes : Bytes all
  all_bytes = behind_pseudo_lem s t p (length d) d bd

  module _ (i x : ℕ) (ch : WordChange d i x) where
    -- With the word changed, behind the same pseudo header.
    changed : pseudo s t p (length (renewed i x d)) ++ renewed i x d ≡ renewed (12 + i) x all
    changed = ap (λ (n : ℕ). pseudo s t p n ++ renewed i x d) (renewed_length i x d) ∙ behind_place s t p (length d) i d x

    -- A word of the part is one of all that is summed.
    all_change : WordChange all (12 + i) x
    all_change =
        record {
          even = omega (arith, ch.even);
          within = behind_within s t p (length d) i d ch.within;
          number = ch.number;
          another = λ q. ch.another (behind_field s t p (length d) i d ∙ q);
        }

    -- It still verifies only if the word turned,
    pub behind_only : verifies (pseudo s t p (length (renewed i x d)) ++ renewed i x d) ≡ true → Turned (field_at d i 2) x
    behind_only y =
        subst (λ (w : ℕ). Turned w x) (sym (behind_field s t p (length d) i d))
        (only_turned (12 + i) x all all_change all_bytes v (subst Verifies changed (eqb-true (sum (words _)) 65535 y)))

    -- and if it turned it does: the protocol's number is not 0.
    pub behind_turned : Turned (field_at d i 2) x → Verifies (pseudo s t p (length (renewed i x d)) ++ renewed i x d)
    behind_turned q =
        let rest : 0 < total (renewed (12 + i) 0 all) =
        subst (λ (l : List ℕ). 0 < total l) (behind_place s t p (length d) i d 0) (some_behind s t p (length d) (renewed i 0 d) some byte) in
        subst Verifies (sym changed)
        (turned_verifies (12 + i) x all all_change all_bytes v rest (subst (λ (w : ℕ). Turned w x) (behind_field s t p (length d) i d) q))

  -- It does not verify with another odd last byte.
  pub behind_last : (b : ℕ) → LastChange d b → verifies (pseudo s t p (length (set d (length d - 1) b)) ++ set d (length d - 1) b) ≡ false
  unfolding pseudo
  behind_last b ch =
      let k : ℕ = length d - 1 in
      let size : length all ≡ 12 + length d = omega arith in
      let e : length all - 1 ≡ 12 + k = omega (arith, ch.odd) in
      let place : get_or all (length all - 1) 0 ≡ get_or d k 0 = ap (λ (n : ℕ). get_or all n 0) e ∙ sym (get_or-drop 12 all k 0) in
      let last : LastChange all b = record { odd = omega (arith, ch.odd); number = ch.number; another = λ q. ch.another (sym place ∙ q) } in
      ap (λ (n : ℕ). verifies (pseudo s t p n ++ set d k b)) (length-set d k b)
      ∙ ap verifies (sym (set_behind (pseudo s t p (length d)) d k b))
      ∙ ap (λ (n : ℕ). verifies (set all n b)) (sym e)
      ∙ last_seen all b last all_bytes v

-- ---- what is kept

-- Two even places that differ are two bytes apart.
apart : (i j : ℕ) → i % 2 ≡ 0 → j % 2 ≡ 0 → (i ≡ j → ⊥) → (j + 2 ≤ i) ⊎ (i + 2 ≤ j)
apart i j a b n = go (ltb j i) refl
  where
    go : (t : Bool) → ltb j i ≡ t → (j + 2 ≤ i) ⊎ (i + 2 ≤ j)
    go true e = inl (omega (arith, ltb-true j i e))
    go false e = inr (omega (arith, ltb-false j i e, least (ltb i j) refl))
      where
        least : (t : Bool) → ltb i j ≡ t → i < j
        least true q = ltb-true i j q
        least false q = absurd (n (omega (arith, ltb-false j i e, ltb-false i j q)))

-- A word, or its high byte, is kept where another word is changed.
pub word_kept : (d : List ℕ) (at k j x : ℕ) → k ≤ 2 → at % 2 ≡ 0 → j % 2 ≡ 0 → (at ≡ j → ⊥) → field_at (renewed j x d) at k ≡ field_at d at k
word_kept d at k j x most here there other = go (apart at j here there other)
  where
    go : (j + 2 ≤ at) ⊎ (at + 2 ≤ j) → field_at (renewed j x d) at k ≡ field_at d at k
    go (inl h) = field_behind at k j x d h
    go (inr h) = field_before at k j x d (omega arith)

-- "neither 0000 nor ffff"
abbrev pub Neither : ℕ → Type 0
Neither w = (0 < w) × (w < 65535)

-- A word whose high byte is neither 00 nor ff is neither 0000 nor ffff.
pub high_neither : (d : List ℕ) (at n : ℕ) → at + 2 ≤ length d → Bytes d → field_at d at 1 ≡ n → 0 < n → n < 255 → Neither (field_at d at 2)
high_neither d at n h b e some few =
    let two = field_two d at h in
    let one = sym (field_one d at) ∙ e in
    (omega arith, omega (arith, b (at + 1)))

-- A word that is neither 0000 nor ffff, or its high byte, is kept where a word that turned is changed to y: that is another.
pub turned_keeps : (d : List ℕ) (at k j x y : ℕ) → k ≤ 2 → at % 2 ≡ 0 → j % 2 ≡ 0 → Neither (field_at d at 2) → Turned (field_at d j 2) x
    → field_at (renewed j y d) at k ≡ field_at d at k
turned_keeps d at k j x y most here there (some, few) t = word_kept d at k j y most here there (λ e. go (ap (λ (n : ℕ). field_at d n 2) e) t)
  where
    go : field_at d at 2 ≡ field_at d j 2 → Turned (field_at d j 2) x → ⊥
    go e (inl (z, _)) = omega arith
    go e (inr (z, _)) = omega arith

-- A number that ends before place k is kept where the byte there is changed.
pub last_kept : (d : List ℕ) (k b at n : ℕ) → at + n ≤ k → field_at (set d k b) at n ≡ field_at d at n
unfolding field_at
last_kept d k b at n h =
    let e : k ≡ at + (k - at) = omega arith in
    ap (λ (j : ℕ). value 0 (take n (drop at (set d j b)))) e
    ∙ ap (λ (m : List ℕ). value 0 (take n m)) (drop-set-add at d (k - at) b)
    ∙ ap (value 0) (take-set-le n (drop at d) (k - at) b (omega arith))
