-- The test of the data against the marked blocks: byte by byte, and block by block.
use mathlib.Core.Path.{◌≡◌, refl, sym, ap, ◌∙◌}
use mathlib.Core.Logic.{◌≢◌, ◌⊎◌, inl, inr}
use mathlib.Core.Bool.{Bool, true, false, not, ◌&&◌, ◌||◌, cond, true≢false, or_assoc}
use mathlib.Core.List.{List, [], ◌∷◌}
use Prim.Native.Nat.{ℕ, zero, suc, ◌+◌, ◌*◌, ◌-◌, ◌/◌, ◌%◌, ◌≤◌, ◌<◌, min}
use native.Mathlib.Nat.{add-zero, zero-div}
use native.Mathlib.Numerals.{add-one}
use native.Mathlib.Decide.{ℕ_discrete}
use native.Mathlib.Omega.{arith}
use lib.ListN.{length, get_or, take, drop, drop_of_length-le}
use lib.Seq.{drop-cons, drop-drop}
use lib.Dec.{eqb}
use borrow.Author.Tests.{eqb-true, eqb-false, eq-eqb, ne_eqb, not-true, not-false}
use Rattle.assembly.specs.Map.{block_bit}
use Rattle.assembly.specs.Assembly.{byte_clash}
use Rattle.assembly.specs.Search.{unlike, onward}
use Rattle.pkt.proofs.Choice.{or_cases, or_no, and_both, and_no}

-- ---- what the test tells
pub record ClashAt (d m : List ℕ) (k : ℕ) (xs : List ℕ) : Type 0 where
  pub place : ℕ
  pub from : k ≤ place
  pub till : place < k + length xs
  pub is_set : block_bit m (place / 8) ≡ 1
  pub other : get_or d place 0 ≢ get_or xs (place - k) 0

pub byte_clash_true : (d m : List ℕ) (k : ℕ) (xs : List ℕ) → byte_clash d m k xs ≡ true → ClashAt d m k xs
unfolding byte_clash
byte_clash_true d m k [] e = absurd (true≢false (sym e))
byte_clash_true d m k (x ∷ xs) e = go (byte_clash_true d m (suc k) xs) (or_cases _ _ e)
  where
    go : (byte_clash d m (suc k) xs ≡ true → ClashAt d m (suc k) xs)
        → ((eqb (block_bit m (k / 8)) 1 && not (eqb (get_or d k 0) x)) ≡ true) ⊎ (byte_clash d m (suc k) xs ≡ true)
        → ClashAt d m k (x ∷ xs)
    go below (inl h) =
        let z : k - k ≡ 0 = omega arith in
        let t = and_both (eqb (block_bit m (k / 8)) 1) (not (eqb (get_or d k 0) x)) h in
        record {
          place = k;
          from = omega arith;
          till = omega arith;
          is_set = eqb-true _ _ t.0;
          other = λ q. eqb-false _ _ (not-true _ t.1) (rw z at q);
        }
    go below (inr h) =
        let c = below h in
        let lo : suc k ≤ c.place = c.from in
        let z : c.place - k ≡ suc (c.place - suc k) = omega arith in
        record {
          place = c.place;
          from = omega arith;
          till = omega (arith, c.till);
          is_set = c.is_set;
          other = λ q. c.other (rw z at q);
        }

pub byte_clash_false : (d m : List ℕ) (k : ℕ) (xs : List ℕ) → byte_clash d m k xs ≡ false
    → (j : ℕ) → k ≤ j → j < k + length xs → block_bit m (j / 8) ≡ 1 → get_or d j 0 ≡ get_or xs (j - k) 0
unfolding byte_clash
byte_clash_false d m k [] e j lo hi set = absurd (omega arith)
byte_clash_false d m k (x ∷ xs) e j lo hi set =
    let t = or_no (eqb (block_bit m (k / 8)) 1 && not (eqb (get_or d k 0) x)) (byte_clash d m (suc k) xs) e in
    go t.0 (λ h. byte_clash_false d m (suc k) xs t.1 j h (omega arith) set) (ℕ_discrete j k)
  where
    go : (eqb (block_bit m (k / 8)) 1 && not (eqb (get_or d k 0) x)) ≡ false → (suc k ≤ j → get_or d j 0 ≡ get_or xs (j - suc k) 0) → Dec (j ≡ k)
        → get_or d j 0 ≡ get_or (x ∷ xs) (j - k) 0
    go here below (yes q) =
        let z : k - k ≡ 0 = omega arith in
        rw (q, z) (eqb-true _ _ (not-false _ (and_no _ _ here (eq-eqb _ _ (rw q at set)))))
    go here below (no ne) = let z : j - k ≡ suc (j - suc k) = omega arith in rw z (below (omega arith))

-- ---- n bytes of blocks whose bits are set are compared; n bytes of blocks whose bits are clear are passed over
span_set : (d m : List ℕ) (k : ℕ) (xs : List ℕ) (n : ℕ) → ((j : ℕ) → k ≤ j → j < k + n → eqb (block_bit m (j / 8)) 1 ≡ true)
    → byte_clash d m k xs ≡ (unlike d k (take n xs) || byte_clash d m (k + n) (drop n xs))
unfolding byte_clash unlike
span_set d m k xs zero h = rw add-zero refl
span_set d m k [] (suc n) h = refl
span_set d m k (x ∷ xs) (suc n) h =
    let e : k + suc n ≡ suc k + n = omega arith in
    let b : eqb (block_bit m (k / 8)) 1 ≡ true = h k (omega arith) (omega arith) in
    let s = span_set d m (suc k) xs n (λ j lo hi. h j (omega arith) (omega arith)) in
    rw (b, e, or_assoc) (ap (λ (r : Bool). not (eqb (get_or d k 0) x) || r) s)

span_clear : (d m : List ℕ) (k : ℕ) (xs : List ℕ) (n : ℕ) → ((j : ℕ) → k ≤ j → j < k + n → eqb (block_bit m (j / 8)) 1 ≡ false)
    → byte_clash d m k xs ≡ byte_clash d m (k + n) (drop n xs)
unfolding byte_clash
span_clear d m k xs zero h = rw add-zero refl
span_clear d m k [] (suc n) h = refl
span_clear d m k (x ∷ xs) (suc n) h =
    let e : k + suc n ≡ suc k + n = omega arith in
    let b : eqb (block_bit m (k / 8)) 1 ≡ false = h k (omega arith) (omega arith) in
    rw (b, e) (span_clear d m (suc k) xs n (λ j lo hi. h j (omega arith) (omega arith)))

-- ---- how far the test goes on from block k
bit_none : (m : List ℕ) (k : ℕ) → get_or m (k / 8) 0 ≡ 0 → eqb (block_bit m k) 1 ≡ false
unfolding block_bit
bit_none m k z = rw (z, zero-div) refl

-- what holds of a block, and of the blocks left in a byte of the map that is 0, holds of it
onward_by : (m : List ℕ) (k : ℕ) (P : ℕ → Type 0) → P 8 → (get_or m (k / 8) 0 ≡ 0 → P (8 * (8 - k % 8))) → P (onward m k)
unfolding onward
onward_by m k P one left = go (eqb (get_or m (k / 8) 0) 0) refl
  where
    go : (b : Bool) → eqb (get_or m (k / 8) 0) 0 ≡ b → P (cond b (8 * (8 - k % 8)) 8)
    go true e = left (eqb-true _ _ e)
    go false e = one

-- one to eight blocks
pub onward_blocks : (m : List ℕ) (k n : ℕ) → n ≡ onward m k → (8 ≤ n) × (n ≤ 64) × (n % 8 ≡ 0)
onward_blocks m k n e =
    rw e
    (onward_by m k (λ n. (8 ≤ n) × (n ≤ 64) × (n % 8 ≡ 0)) (omega arith, omega arith, omega arith)
    (λ z. (omega arith, omega arith, omega arith)))

-- the block at place 8 * off + i, for data that starts at block off
module _ (d m : List ℕ) (off : ℕ) (xs : List ℕ) (i : ℕ) (whole : i % 8 ≡ 0) where
  bits : (b : Bool) → eqb (block_bit m (off + i / 8)) 1 ≡ b → (j : ℕ) → 8 * off + i ≤ j → j < 8 * off + i + 8 → eqb (block_bit m (j / 8)) 1 ≡ b
  bits b e j lo hi = let q : j / 8 ≡ off + i / 8 = omega arith in rw q e

  rest : (n : ℕ) → byte_clash d m (8 * off + i + n) (drop n (drop i xs)) ≡ byte_clash d m (8 * off + (i + n)) (drop (i + n) xs)
  rest n = let e : 8 * off + i + n ≡ 8 * off + (i + n) = omega arith in rw (drop-drop, e) refl

  -- the test from n bytes on is the test from here
  abbrev pub Leads : ℕ → Type 0
  Leads n = byte_clash d m (8 * off + (i + n)) (drop (i + n) xs) ≡ byte_clash d m (8 * off + i) (drop i xs)

  -- a marked block that differs ends the search; any other block leads on
  pub block_here : eqb (block_bit m (off + i / 8)) 1 ≡ true → unlike d (8 * off + i) (take 8 (drop i xs)) ≡ true
      → byte_clash d m (8 * off + i) (drop i xs) ≡ true
  block_here b u = span_set d m (8 * off + i) (drop i xs) 8 (bits true b) ∙ rw u refl

  block_same : eqb (block_bit m (off + i / 8)) 1 ≡ true → unlike d (8 * off + i) (take 8 (drop i xs)) ≡ false → Leads 8
  block_same b u = sym (span_set d m (8 * off + i) (drop i xs) 8 (bits true b) ∙ rw u (rest 8))

  block_clear : eqb (block_bit m (off + i / 8)) 1 ≡ false → Leads 8
  block_clear b = sym (span_clear d m (8 * off + i) (drop i xs) 8 (bits false b) ∙ rest 8)

  block_on : (eqb (block_bit m (off + i / 8)) 1 ≡ false) ⊎ (unlike d (8 * off + i) (take 8 (drop i xs)) ≡ false) → Leads 8
  block_on (inl b) = block_clear b
  block_on (inr u) = go (eqb (block_bit m (off + i / 8)) 1) refl
    where
      go : (b : Bool) → eqb (block_bit m (off + i / 8)) 1 ≡ b → Leads 8
      go true b = block_same b u
      go false b = block_clear b

  -- in a byte of the map that is 0 no block that is left is marked
  byte_clear : get_or m ((off + i / 8) / 8) 0 ≡ 0 → Leads (8 * (8 - (off + i / 8) % 8))
  byte_clear z = sym (span_clear d m (8 * off + i) (drop i xs) (8 * (8 - (off + i / 8) % 8)) none ∙ rest (8 * (8 - (off + i / 8) % 8)))
    where
      none : (j : ℕ) → 8 * off + i ≤ j → j < 8 * off + i + 8 * (8 - (off + i / 8) % 8) → eqb (block_bit m (j / 8)) 1 ≡ false
      none j lo hi = let q : j / 8 / 8 ≡ (off + i / 8) / 8 = omega arith in bit_none m (j / 8) (rw q z)

  pub leads_on : (n : ℕ) → n ≡ onward m (off + i / 8)
      → (eqb (block_bit m (off + i / 8)) 1 ≡ false) ⊎ (unlike d (8 * off + i) (take 8 (drop i xs)) ≡ false) → Leads n
  leads_on n e h = rw e (onward_by m (off + i / 8) Leads (block_on h) byte_clear)

pub byte_clash_start : (d m : List ℕ) (k : ℕ) (xs : List ℕ) → byte_clash d m (k + 0) (drop 0 xs) ≡ byte_clash d m k xs
byte_clash_start d m k xs = rw add-zero refl

pub byte_clash_done : (d m : List ℕ) (k : ℕ) (xs : List ℕ) (i : ℕ) → length xs ≤ i → byte_clash d m k (drop i xs) ≡ false
unfolding byte_clash
byte_clash_done d m k xs i h = rw (drop_of_length-le xs h) refl

-- ---- the comparison of a block goes on where it stands: f is the block's first byte, j the next
unlike_left : (d : List ℕ) (at : ℕ) (xs : List ℕ) (f j : ℕ) → j < length xs → j < f + 8
    → unlike d (at + j) (take (f + 8 - j) (drop j xs))
    ≡ (not (eqb (get_or d (at + j) 0) (get_or xs j 0)) || unlike d (at + (j + 1)) (take (f + 8 - (j + 1)) (drop (j + 1) xs)))
unfolding unlike
unlike_left d at xs f j h t =
    let e : at + (j + 1) ≡ suc (at + j) = omega arith in
    let n : f + 8 - j ≡ suc (f + 8 - (j + 1)) = omega arith in
    rw (n, e, add-one, drop-cons xs j 0 h) refl

pub unlike_here : (d : List ℕ) (at : ℕ) (xs : List ℕ) (f j : ℕ) → j < length xs → j < f + 8
    → (get_or d (at + j) 0 ≡ get_or xs j 0 → ⊥) → unlike d (at + j) (take (f + 8 - j) (drop j xs)) ≡ true
unlike_here d at xs f j h t ne = unlike_left d at xs f j h t ∙ rw (ne_eqb (get_or d (at + j) 0) (get_or xs j 0) ne) refl

pub unlike_on : (d : List ℕ) (at : ℕ) (xs : List ℕ) (f j : ℕ) → j < length xs → j < f + 8 → get_or d (at + j) 0 ≡ get_or xs j 0
    → unlike d (at + (j + 1)) (take (f + 8 - (j + 1)) (drop (j + 1) xs)) ≡ unlike d (at + j) (take (f + 8 - j) (drop j xs))
unlike_on d at xs f j h t e = sym (unlike_left d at xs f j h t ∙ rw (eq-eqb (get_or d (at + j) 0) (get_or xs j 0) e) refl)

pub unlike_start : (d : List ℕ) (at : ℕ) (xs : List ℕ) (f : ℕ) → unlike d (at + f) (take (f + 8 - f) (drop f xs)) ≡ unlike d (at + f) (take 8 (drop f xs))
unlike_start d at xs f = let e : f + 8 - f ≡ 8 = omega arith in rw e refl

pub unlike_done : (d : List ℕ) (k : ℕ) (xs : List ℕ) (f j : ℕ) → min (f + 8) (length xs) ≤ j → unlike d k (take (f + 8 - j) (drop j xs)) ≡ false
unfolding unlike
unlike_done d k xs f j h = go (f + 8 - j) refl
  where
    go : (n : ℕ) → f + 8 - j ≡ n → unlike d k (take n (drop j xs)) ≡ false
    go zero e = refl
    go (suc n) e = rw (drop_of_length-le xs {i = j} (omega arith)) refl
