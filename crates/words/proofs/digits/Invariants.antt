-- The digits that are left, behind the value of those that were read, are the whole word.
use mathlib.Core.Path.{◌≡◌}
use Prim.Native.Nat.{◌≤◌}
use lib.ListN.{length, drop}
use Rattle.words.specs.Steps.{digits_in}
use Rattle.words.proofs.digits.Given as goal

abbrev pub invariant-loop-c : goal.invariant-loop-c
invariant-loop-c l = (l.c-index ≤ length l.w) × (l.value ≤ l.most) × (digits_in l.most l.value (drop l.c-index l.w) ≡ digits_in l.most 0 l.w)
