-- The three ways through the code are the three ways of a step.
use Rattle.assembly.proofs.Steps.{stays, spoils, merges}
use Rattle.assembly.proofs.step.put.Goals as goal

pub returns-then-spoilt : goal.returns-then-spoilt
returns-then-spoilt c = search stays

pub returns-then-contradicts : goal.returns-then-contradicts
returns-then-contradicts c = search spoils

pub returns : goal.returns
returns c = search merges
