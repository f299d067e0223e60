-- One step: what a step says determines it.
use Rattle.std.proofs.Common.{◌≡◌, ℕ, List}
use Rattle.std.specs.Prelude.{Result}
use Rattle.pkt.specs.Answers.{list_says}
use Rattle.pkt.specs.declared.refusal.ListRefusal.{ListRefusal}
use Rattle.pkt.proofs.Only.{list_says_only}
use Rattle.reading.specs.Reading.{Next, step_at}

-- a place, behind so many records, has one
pub here_only : (l : List ℕ) (at k : ℕ) (s s' : Result Next ListRefusal) → list_says s ≡ step_at l at k → list_says s' ≡ step_at l at k → s ≡ s'
here_only l at k s s' p q = list_says_only s s' (step_at l at k) p q
