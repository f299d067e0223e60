-- The part of a slot in a buffer, as `&mut l[n * i..n * i + n]` lends it and brings it back.
use mathlib.Core.Path.{◌≡◌, refl, sym, ap, ◌∙◌}
use mathlib.Core.List.{List, [], ◌∷◌, ◌++◌}
use Prim.Native.Nat.{ℕ, zero, suc, ◌+◌, ◌-◌, ◌*◌, ◌≤◌}
use native.Mathlib.Omega.{arith}
use lib.ListN.{length, take, drop, length-take, length-drop}
use lib.Seq.{length-take-le, take-take, take_at, drop_at}
use borrow.Rule.Slice.PartMut.{mid_of, put_mid}
use Rattle.pkt.specs.Written.{written, zeros}
use Rattle.pkt.proofs.Written.{copy_written}
use Rattle.assembly.specs.declared.Key.{Key}
use Rattle.assembly.specs.declared.Rec.{Rec}
use Rattle.assembly.specs.Assembly.{State, opened}
use Rattle.assembly.specs.View.{view, record_of}
use Rattle.assembly.proofs.Steps.{record_of_lem}
use Rattle.table.specs.Slots.{slot_bytes, slot_map, part_of, with_part, Sized}

-- what is lent of a buffer, and the buffer with p back in its place
abbrev pub lent : ℕ → ℕ → List ℕ → List ℕ
lent n i l = mid_of (n * i) (n * i + n - n * i) l

abbrev pub back : ℕ → ℕ → List ℕ → List ℕ → List ℕ
back n i l p = put_mid (n * i) (n * i + n - n * i) l p

-- as many as lie between a start and an end
span : (a n : ℕ) → a + n - a ≡ n
span a n = omega arith

-- what is lent is the slot's part, and comes back as another part
pub lent_part : (n i : ℕ) (l : List ℕ) → lent n i l ≡ part_of n i l
unfolding part_of
lent_part n i l = ap (λ (k : ℕ). take k (drop (n * i) l)) (span (n * i) n)

pub back_part : (n i : ℕ) (l p : List ℕ) → back n i l p ≡ with_part n i p l
unfolding with_part
back_part n i l p = ap (λ (k : ℕ). take (n * i) l ++ (p ++ drop k (drop (n * i) l))) (span (n * i) n)

-- a part has all its bytes where the buffer has them
pub part_length : (n i : ℕ) (l : List ℕ) → n * i + n ≤ length l → length (part_of n i l) ≡ n
unfolding part_of
part_length n i l h = simp (length-take, length-drop) (omega arith)

-- .. as those of a table have
pub payload_length : (i m : ℕ) (l : List ℕ) → Sized i (length l) m → length (part_of slot_bytes i l) ≡ slot_bytes
payload_length i m l z = part_length slot_bytes i l (omega arith)

pub map_length : (i d : ℕ) (l : List ℕ) → Sized i d (length l) → length (part_of slot_map i l) ≡ slot_map
map_length i d l z = part_length slot_map i l (omega arith)

-- ---- a part that was put there

-- it is there
pub part_back : (n i : ℕ) (p l : List ℕ) → length p ≡ n → n * i ≤ length l → part_of n i (with_part n i p l) ≡ p
unfolding part_of with_part
part_back n i p l e h = ap (take n) (drop_at (take (n * i) l) _ (n * i) (length-take-le (n * i) l h)) ∙ take_at p _ n e

-- and another one in its place is as if it had not been
pub part_again : (n i : ℕ) (p q l : List ℕ) → length p ≡ n → n * i ≤ length l → with_part n i q (with_part n i p l) ≡ with_part n i q l
unfolding with_part
part_again n i p q l e h =
    let k = length-take-le (n * i) l h in
    let r = drop n (drop (n * i) l) in
    rw (take_at (take (n * i) l) (p ++ r) (n * i) k, drop_at (take (n * i) l) (p ++ r) (n * i) k, drop_at p r n e)

-- ---- opening

-- A part that comes back opened is zero, and the record is an opened one.
pub record OpenedAt (k : Key) (C M i : ℕ) (d m : List ℕ) (r : Rec) (d' m' : List ℕ) : Type 0 where
  pub record_is : r ≡ record_of (opened k C M)
  pub payload_is : d' ≡ with_part C i (zeros C) d
  pub map_is : m' ≡ with_part M i (zeros M) m

-- .. for any sizes
opened_in : (k : Key) (C M i : ℕ) (d m d₁ m₁ : List ℕ) (r : Rec) → view r d₁ m₁ ≡ opened k C M
    → OpenedAt k C M i d m r (back C i d d₁) (back M i m m₁)
opened_in k C M i d m d₁ m₁ r e =
    record {
      record_is = sym (record_of_lem r d₁ m₁) ∙ ap record_of e;
      payload_is = back_part C i d d₁ ∙ ap (λ (s : State). with_part C i s.payload d) e;
      map_is = back_part M i m m₁ ∙ ap (λ (s : State). with_part M i s.map m) e;
    }

-- .. and for a slot's
pub opened_at_lem : (k : Key) (i : ℕ) (d m d₁ m₁ : List ℕ) (r : Rec) → Sized i (length d) (length m)
    → view r d₁ m₁ ≡ opened k (length (lent slot_bytes i d)) (length (lent slot_map i m))
    → OpenedAt k slot_bytes slot_map i d m r (back slot_bytes i d d₁) (back slot_map i m m₁)
opened_at_lem k i d m d₁ m₁ r z e =
    let p : length (lent slot_bytes i d) ≡ slot_bytes = ap length (lent_part slot_bytes i d) ∙ payload_length i (length m) d z in
    let q : length (lent slot_map i m) ≡ slot_map = ap length (lent_part slot_map i m) ∙ map_length i (length d) m z in
    opened_in k slot_bytes slot_map i d m d₁ m₁ r
    (e ∙ ap (λ (n : ℕ). opened k n (length (lent slot_map i m))) p ∙ ap (λ (n : ℕ). opened k slot_bytes n) q)

-- ---- copying out

-- the first bytes of a list, as many as its first t are
pub first_of : (t : ℕ) (l : List ℕ) → take (length (take t l)) l ≡ take t l
first_of zero l = refl
first_of (suc t) [] = refl
first_of (suc t) (x ∷ l) = ap (λ (r : List ℕ). x ∷ r) (first_of t l)

-- n bytes from a slot's start on, as they are lent
abbrev pub lent_front : ℕ → ℕ → ℕ → List ℕ → List ℕ
lent_front C i n d = mid_of (C * i) (C * i + n - C * i) d

-- .. are the first n of its part
front_part : (C i n : ℕ) (d : List ℕ) → n ≤ C → lent_front C i n d ≡ take n (part_of C i d)
unfolding part_of
front_part C i n d h = ap (λ (k : ℕ). take k (drop (C * i) d)) (span (C * i) n) ∙ sym (take-take n C (drop (C * i) d) h)

-- the copy of them leaves them written
pub copied_out : (C i n : ℕ) (d o o₁ : List ℕ) → n ≤ C → n ≤ length o
    → o₁ ≡ written (take (length o) (lent_front C i n d)) o
    → o₁ ≡ written (take n (part_of C i d)) o
copied_out C i n d o o₁ h r e =
    let f = front_part C i n d h in
    let room : length (lent_front C i n d) ≤ length o = rw f (omega (arith, length-take n (part_of C i d))) in
    e ∙ copy_written (lent_front C i n d) o room ∙ ap (λ (a : List ℕ). written a o) f
