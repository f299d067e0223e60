-- The digits that are left, behind the value of those that were read, are the whole word.
use mathlib.Core.Path.{refl, sym}
use borrow.Author.Rules.{rules}
use Rattle.words.proofs.Texts.{digits_end, other_at, next_at, large_at}
use Rattle.words.proofs.digits.Goals as goal

pub loop-c-init : goal.loop-c-init
loop-c-init c = (search rules, search rules, refl)

pub returns-then-not-is_ascii_digit : goal.returns-then-not-is_ascii_digit
returns-then-not-is_ascii_digit c = let e = sym (c.if-not-is_ascii_digit.ensures.value) in search other_at

pub returns-then-value-from : goal.returns-then-value-from
returns-then-value-from c = let e = sym (c.if-not-is_ascii_digit.ensures.value) in search large_at

pub loop-c-preserved : goal.loop-c-preserved
loop-c-preserved c = (search rules, search rules, let e = sym (c.if-not-is_ascii_digit.ensures.value) in search next_at)

pub returns : goal.returns
returns c = search digits_end
