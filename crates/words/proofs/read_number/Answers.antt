use mathlib.Core.Path.{sym, ◌∙◌}
use Rattle.words.proofs.Reading.{not_plain, not_digits, too_small, number_read}
use Rattle.words.proofs.read_number.Goals as goal

pub returns-then-not-is_plain : goal.returns-then-not-is_plain
returns-then-not-is_plain c = not_plain _ _ _ (sym c.is_plain.ensures ∙ c.if-not-is_plain.true)

pub returns-in_err-n : goal.returns-in_err-n
returns-in_err-n c =
    let plain = sym c.is_plain.ensures ∙ c.if-not-is_plain.false in
    c.from_residual.ensures ∙ not_digits _ _ _ _ plain c.digits.ensures c.in_err-n.was

pub returns-then-n-least : goal.returns-then-n-least
returns-then-n-least c =
    let plain = sym c.is_plain.ensures ∙ c.if-not-is_plain.false in
    too_small _ _ _ _ plain c.digits.ensures _ c.in_ok-n.was c.if-n-least.true

pub returns : goal.returns
returns c =
    let plain = sym c.is_plain.ensures ∙ c.if-not-is_plain.false in
    number_read _ _ _ _ plain c.digits.ensures _ c.in_ok-n.was c.if-n-least.false
