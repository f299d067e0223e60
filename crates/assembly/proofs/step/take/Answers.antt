-- The record is that of the step, and the answer is that of the record.
use borrow.Author.Rules.{rules}
use lib.ListN.{length}
use mathlib.Core.Path.{ap, ◌∙◌}
use native.Mathlib.Omega.{arith}
use Rattle.assembly.proofs.Steps.{fits_more, step_fits, moved}
use Rattle.assembly.specs.Assembly.{State, total_fits}
use Rattle.assembly.proofs.step.take.Goals as goal

pub answered-requires : goal.answered-requires
answered-requires c =
    let a = c.args in
    fits_more (length a.payload.now) _ _ (omega arith)
    (ap (λ (s : State). total_fits (length a.payload.now) s.total) c.put-next.ensures
    ∙ step_fits _ _ _ c.requires.total_value (search rules))

pub returns : goal.returns
returns c = let p = c.put-next in moved p.result p.new.payload p.new.map _ _ _ p.ensures (c.answered.ensures p.new.payload)
