-- A part of a slice that runs to its end, as `&s[n..]` lends it.
use Rattle.std.proofs.Common.{◌≡◌, ℕ, ◌-◌, List, [], length, drop, ap, ◌∙◌, arith, length-drop, drop_of_length-le, take_all}
use borrow.Rule.Slice.PartMut.{mid_of, post_of}

pub mid_tail : (n : ℕ) (d : List ℕ) → mid_of n (length d - n) d ≡ drop n d
mid_tail n d = take_all (length d - n) (drop n d) (omega (arith, length-drop n d))

pub post_tail : (n : ℕ) (d : List ℕ) → post_of n (length d - n) d ≡ []
post_tail n d = drop_of_length-le (drop n d) {i = length d - n} (omega (arith, length-drop n d))

pub mid_length : (n : ℕ) (d : List ℕ) → length (mid_of n (length d - n) d) ≡ length d - n
mid_length n d = ap length (mid_tail n d) ∙ length-drop n d
