use mathlib.Core.Path.{ap, ◌∙◌}
use Prim.Native.Nat.{◌+◌}
use lib.ListN.{drop}
use Rattle.words.proofs.text_behind.Goals as goal

pub returns : goal.returns
returns c = c.back.ensures ∙ ap (λ k. drop (k + 1) c.args.w.now) c.find.ensures.place
