-- The marks are good where both are.
use mathlib.Core.Path.{◌∙◌}
use native.Mathlib.Omega.{arith}
use Rattle.std.specs.Prelude.{Some}
use Rattle.words.proofs.Reading.{and_fails, number_wrong, number_good, number_most}
use Rattle.feed.specs.Feed.{feed_marked}
use Rattle.lapfeed.specs.declared.setup.Setup.{Setup}
use Rattle.lapfeed.proofs.setup.read_marks.Goals as goal

pub returns-in_err-tos : goal.returns-in_err-tos
returns-in_err-tos c = simp (c.from_residual.ensures, number_wrong _ _ _ _ c.read_number.ensures c.in_err-tos.was)

pub returns-in_err-ttl : goal.returns-in_err-ttl
returns-in_err-ttl c = simp (c.from_residual-in_err-ttl.ensures, number_wrong _ _ _ _ c.read_number-2.ensures c.in_err-ttl.was, and_fails)

pub overflow_cast-marks : goal.overflow_cast-marks
overflow_cast-marks c = omega (arith, number_most _ _ _ _ c.read_number.ensures _ c.in_ok-tos.was)

pub overflow_cast-marks-2 : goal.overflow_cast-marks-2
overflow_cast-marks-2 c = omega (arith, number_most _ _ _ _ c.read_number-2.ensures _ c.in_ok-ttl.was)

pub returns : goal.returns
returns c =
    let g1 = number_good _ _ _ _ c.read_number.ensures _ c.in_ok-tos.was in
    let g2 = number_good _ _ _ _ c.read_number-2.ensures _ c.in_ok-ttl.was in
    let s : Setup = c.args.setup in
    let fed = c.marked.ensures ∙ (λ i. feed_marked s.feed (record { tos = g1.1 i; ttl = g2.1 i })) in
    simp (g1.0, g2.0) (λ i. Some (record { feed = fed i; size = s.size }))
