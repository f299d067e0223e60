-- Each part stands at its separator.
use mathlib.Core.Path.{ap, ◌∙◌}
use Rattle.words.specs.Words.{before, behind, dot, colon, parts_in, is_address, address_of}
use Rattle.words.proofs.read_address.Goals as goal

pub returns : goal.returns
unfolding is_address address_of
returns c =
    let b2 = c.text_behind-w2.ensures in
    let b3 = c.text_behind-w3.ensures ∙ ap (behind dot) b2 in
    let b4 = c.text_behind-w4.ensures ∙ ap (behind dot) b3 in
    let p1 = c.text_before.ensures in
    let p2 = c.text_before-2.ensures ∙ ap (before dot) b2 in
    let p3 = c.text_before-3.ensures ∙ ap (before dot) b3 in
    let p4 = c.text_before-4.ensures ∙ ap (before colon) b4 in
    let p5 = c.text_behind.ensures ∙ ap (behind colon) b4 in
    c.read_parts.ensures ∙ (λ i. parts_in (p1 i) (p2 i) (p3 i) (p4 i) (p5 i))
