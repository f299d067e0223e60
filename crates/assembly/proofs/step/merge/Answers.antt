-- Each part of the record and each buffer is what the definition says.
use mathlib.Core.Path.{refl, ◌∙◌}
use Rattle.assembly.proofs.Marks.{mark_run}
use Rattle.assembly.proofs.Steps.{state_path}
use Rattle.assembly.specs.Assembly.{accept}
use Rattle.assembly.proofs.step.merge.Goals as goal

pub returns : goal.returns
unfolding accept
returns c =
    state_path refl c.copy_in.ensures (c.mark_blocks.ensures ∙ rw c.blocks-2.ensures (mark_run _ _ _)) c.new_total-total.ensures c.new_floor-floor.ensures refl
