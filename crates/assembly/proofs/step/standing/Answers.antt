-- The three ways through the code are the three ways that an assembly stands; a complete datagram has the bytes below its total.
use lib.ListN.{length}
use mathlib.Core.Bool.{true, false}
use mathlib.Core.Path.{sym, ap, ◌∙◌}
use Rattle.assembly.proofs.Steps.{outcome_spoilt, outcome_plain, held_spoilt, held_plain, stands_as, total_length}
use Rattle.assembly.proofs.step.standing.Goals as goal

pub returns-then-spoilt : goal.returns-then-spoilt
returns-then-spoilt c = λ d e. stands_as _ _ _ (outcome_spoilt _ c.if-spoilt.true) (ap length (held_spoilt _ c.if-spoilt.true))

pub returns-then-held_to : goal.returns-then-held_to
returns-then-held_to c =
    λ d e.
    let held = sym c.held_to.ensures ∙ c.if-held_to.true in
    stands_as _ _ _ (outcome_plain _ true c.if-spoilt.false held)
    (ap length (held_plain _ true c.if-spoilt.false held) ∙ total_length _ d e ∙ sym c.unwrap_or.ensures)

pub returns : goal.returns
returns c =
    λ d e.
    let held = sym c.held_to.ensures ∙ c.if-held_to.false in
    stands_as _ _ _ (outcome_plain _ false c.if-spoilt.false held) (ap length (held_plain _ false c.if-spoilt.false held))
