-- What good words ask for.
use mathlib.Core.Path.{◌≡◌, refl, sym, ap, ◌∙◌}
use mathlib.Core.Bool.{Bool, true, false, ◌&&◌, cond}
use mathlib.Core.List.{List}
use Prim.Native.Nat.{ℕ}
use native.Mathlib.Omega.{arith}
use lib.Dec.{eqb}
use Rattle.pkt.proofs.Choice.{and_both}
use Rattle.words.specs.Words.{is_number, is_address}
use Rattle.words.proofs.Reading.{is_some_lem, number_bounds}
use Rattle.lapfeed.specs.declared.setup.Setup.{Setup}
use Rattle.std.specs.Prelude.{Option, Some, None}
use Rattle.lapfeed.specs.Words.{are_words, setup_of, words_in, are_marks, marked_setup, marked_in, asked_for}
use Rattle.lapfeed.specs.Frames.{SetUp}

words_set_up : (car core link size : List ℕ) (r : Option Setup) (s : Setup) → r ≡ words_in car core link size → r ≡ Some s → SetUp s
words_set_up car core link size r s d e =
    let t = is_some_lem (are_words car core link size) (setup_of car core link size) s (sym e ∙ d) in
    let a = and_both (is_address car && is_address core && is_number 28 65535 link) (is_number 1 65507 size) t.0 in
    let b = and_both (is_address car && is_address core) (is_number 28 65535 link) a.0 in
    let l = number_bounds 28 65535 link b.1 in
    let n = number_bounds 1 65507 size a.1 in
    let k = ap (λ (x : Setup). x.feed.link) t.1 in
    record {
      from_zero = ap (λ (x : Setup). x.feed.id) t.1;
      least = omega (arith, k, l.0);
      most = omega (arith, k, l.1);
      few = omega (arith, ap (λ (x : Setup). x.size) t.1, n.1);
    }

-- marks change neither the number, nor the link, nor the size
marks_set_up : (w r : Option Setup) (s : Setup) (tos ttl : List ℕ) → ((t : Setup) → w ≡ Some t → SetUp t) → r ≡ marked_in w tos ttl → r ≡ Some s → SetUp s
marks_set_up None r s tos ttl four d e = absurd cc
marks_set_up (Some t) r s tos ttl four d e =
    let g = is_some_lem (are_marks tos ttl) (marked_setup t tos ttl) s (sym e ∙ d) in
    let x = four t refl in
    let k = ap (λ (y : Setup). y.feed.link) g.1 in
    record {
      from_zero = ap (λ (y : Setup). y.feed.id) g.1 ∙ x.from_zero;
      least = omega (arith, k, x.least);
      most = omega (arith, k, x.most);
      few = omega (arith, ap (λ (y : Setup). y.size) g.1, x.few);
    }

pub all_set_up : (n : ℕ) (car core link size tos ttl : List ℕ) (r : Option Setup) (s : Setup) → r ≡ asked_for n car core link size tos ttl → r ≡ Some s → SetUp s
all_set_up n car core link size tos ttl r s d e = go (eqb n 5) (eqb n 7) d
  where
    four : (t : Setup) → words_in car core link size ≡ Some t → SetUp t
    four t f = words_set_up car core link size (words_in car core link size) t refl f

    go : (b c : Bool) → r ≡ cond b (words_in car core link size) (cond c (marked_in (words_in car core link size) tos ttl) None) → SetUp s
    go true c f = four s (sym f ∙ e)
    go false true f = marks_set_up (words_in car core link size) r s tos ttl four f e
    go false false f = absurd cc
