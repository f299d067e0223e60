-- What the answers for the parts of a word tell of the whole.
use mathlib.Core.Path.{◌≡◌, refl, sym, ap, ◌∙◌}
use mathlib.Core.Bool.{Bool, true, false, ◌&&◌, cond}
use mathlib.Core.List.{List}
use Rattle.std.specs.Prelude.{Option, Some, None}
use Prim.Native.Nat.{ℕ, ◌≤◌, ◌<◌}
use native.Mathlib.Omega.{arith}
use lib.Dec.{leb}
use borrow.Author.Tests.{le-leb, lt-leb, leb-true}
use Rattle.pkt.proofs.Choice.{and_both}
use Rattle.ezpkt.specs.declared.SocketAddrV4.{SocketAddrV4}
use Rattle.words.specs.Words.{all_digits, is_plain, value_of, is_number, number_in, is_address, address_of, address_in}
use Rattle.words.specs.Steps.{digits_in}

-- one part that is wrong
pub and_fails : (b : Bool) → (b && false) ≡ false
and_fails true = refl
and_fails false = refl

-- ---- a number

-- a choice that is some value, and one that is none
pub is_some_lem : {A : Type 0} (b : Bool) (v n : A) → Some n ≡ cond b (Some v) None → (b ≡ true) × (n ≡ v)
is_some_lem true v n e = (refl, cc)
is_some_lem false v n e = absurd cc

is_none_lem : {A : Type 0} (b : Bool) (v : A) → None ≡ cond b (Some v) None → b ≡ false
is_none_lem true v e = absurd cc
is_none_lem false v e = refl

module _ (least most : ℕ) (w : List ℕ) where
  pub not_plain : is_plain w ≡ false → None ≡ number_in least most w
  unfolding is_number
  not_plain e = simp e

  module _ (r : Option ℕ) (plain : is_plain w ≡ true) (d : r ≡ digits_in most 0 w) where
    pub not_digits : r ≡ None → None ≡ number_in least most w
    unfolding is_number digits_in
    not_digits e = go (all_digits w) (leb (value_of w) most) (leb least (value_of w)) (is_none_lem (all_digits w && leb (value_of w) most) (value_of w) (sym e ∙ d))
      where
        go : (a m l : Bool) → (a && m) ≡ false → None ≡ cond (is_plain w && a && l && m) (Some (value_of w)) None
        go true true l f = let z : ◌≡◌ {A = ℕ} 0 1 = cc in absurd (omega arith)
        go true false true f = simp plain
        go true false false f = simp plain
        go false m l f = simp plain

    module _ (n : ℕ) (e : r ≡ Some n) where
      pub too_small : n < least → None ≡ number_in least most w
      unfolding is_number digits_in
      too_small h =
          let t = is_some_lem (all_digits w && leb (value_of w) most) (value_of w) n (sym e ∙ d) in
          let a = and_both (all_digits w) (leb (value_of w) most) t.0 in
          simp (plain, a.0, lt-leb least (value_of w) (omega (arith, t.1)))

      pub number_read : least ≤ n → Some n ≡ number_in least most w
      unfolding is_number digits_in
      number_read h =
          let t = is_some_lem (all_digits w && leb (value_of w) most) (value_of w) n (sym e ∙ d) in
          let a = and_both (all_digits w) (leb (value_of w) most) t.0 in
          simp (plain, a.0, a.1, le-leb least (value_of w) (omega (arith, t.1))) (ap Some t.1)

pub number_bounds : (least most : ℕ) (w : List ℕ) → is_number least most w ≡ true → (least ≤ value_of w) × (value_of w ≤ most)
unfolding is_number
number_bounds least most w e =
    let a = and_both (is_plain w && all_digits w && leb least (value_of w)) (leb (value_of w) most) e in
    let b = and_both (is_plain w && all_digits w) (leb least (value_of w)) a.0 in
    (leb-true least (value_of w) b.1, leb-true (value_of w) most a.1)

-- what an answer tells
module _ (least most : ℕ) (w : List ℕ) (r : Option ℕ) (d : r ≡ number_in least most w) where
  pub number_wrong : r ≡ None → is_number least most w ≡ false
  number_wrong e = is_none_lem (is_number least most w) (value_of w) (sym e ∙ d)

  pub number_good : (n : ℕ) → r ≡ Some n → (is_number least most w ≡ true) × (n ≡ value_of w)
  number_good n e = is_some_lem (is_number least most w) (value_of w) n (sym e ∙ d)

  pub number_most : (n : ℕ) → r ≡ Some n → n ≤ most
  number_most n e = let g = number_good n e in omega (arith, g.1, number_bounds least most w g.0)

-- ---- an address

module _ (w : List ℕ) (r : Option SocketAddrV4) (d : r ≡ address_in w) where
  pub address_wrong : r ≡ None → is_address w ≡ false
  address_wrong e = is_none_lem (is_address w) (address_of w) (sym e ∙ d)

  pub address_good : (a : SocketAddrV4) → r ≡ Some a → (is_address w ≡ true) × (a ≡ address_of w)
  address_good a e = is_some_lem (is_address w) (address_of w) a (sym e ∙ d)
