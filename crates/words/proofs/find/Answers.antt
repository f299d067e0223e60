use Rattle.std.proofs.Common.{◌≡◌, ℕ, Option, ap, ◌∙◌, rules, length, eqb}
use borrow.Author.Tests.{tests}
use Rattle.std.proofs.lemmas.Iterator.{YieldsList-from_slice}
use Rattle.std.proofs.lemmas.Iterator.Search.{position_from_yields_List}
use Rattle.std.specs.Option.{unwrap_or}
use Rattle.words.specs.Steps.{place_of}
use Rattle.words.proofs.Texts.{place_or_end, place_within}
use Rattle.words.proofs.find.Goals as goal

found : (c : goal.After-unwrap_or) → c.unwrap_or.result ≡ place_of c.args.s c.args.w.now
found c =
    let a = c.args in
    let at = position_from_yields_List (λ x. eqb x a.s) _ _ c.position.result c.position.ensures.ran (YieldsList-from_slice _ c.iter.ensures.rest) (λ x b q k. search (rules, tests)) in
    c.unwrap_or.ensures ∙ ap (λ (o : Option ℕ). unwrap_or o (length a.w.now)) at ∙ place_or_end a.s a.w.now

pub returns : goal.returns
returns c = record { place = found c; within = rw (found c) (place_within c.args.s c.args.w.now) }
