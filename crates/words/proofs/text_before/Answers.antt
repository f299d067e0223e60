use mathlib.Core.Path.{ap, ◌∙◌}
use lib.ListN.{take}
use Rattle.words.proofs.text_before.Goals as goal

pub returns : goal.returns
returns c = c.front.ensures ∙ ap (λ k. take k c.args.w.now) c.find.ensures.place
