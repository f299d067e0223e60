-- The words are good where each is.
use mathlib.Core.Path.{◌∙◌}
use Rattle.std.specs.Prelude.{Some}
use Rattle.words.proofs.Reading.{and_fails, number_wrong, number_good, address_wrong, address_good}
use Rattle.feed.specs.Feed.{new_feed}
use Rattle.lapfeed.proofs.setup.read_words.Goals as goal

pub returns-in_err-from : goal.returns-in_err-from
returns-in_err-from c = simp (c.from_residual.ensures, address_wrong _ _ c.read_address.ensures c.in_err-from.was)

pub returns-in_err-to : goal.returns-in_err-to
returns-in_err-to c = simp (c.from_residual-in_err-to.ensures, address_wrong _ _ c.read_address-2.ensures c.in_err-to.was, and_fails)

pub returns-in_err-link : goal.returns-in_err-link
returns-in_err-link c = simp (c.from_residual-in_err-link.ensures, number_wrong _ _ _ _ c.read_number.ensures c.in_err-link.was, and_fails)

pub returns-in_err-size : goal.returns-in_err-size
returns-in_err-size c = simp (c.from_residual-in_err-size.ensures, number_wrong _ _ _ _ c.read_number-2.ensures c.in_err-size.was, and_fails)

pub returns : goal.returns
returns c =
    let g1 = address_good _ _ c.read_address.ensures _ c.in_ok-from.was in
    let g2 = address_good _ _ c.read_address-2.ensures _ c.in_ok-to.was in
    let g3 = number_good _ _ _ _ c.read_number.ensures _ c.in_ok-link.was in
    let g4 = number_good _ _ _ _ c.read_number-2.ensures _ c.in_ok-size.was in
    let first = c.new-feed.ensures ∙ (λ i. new_feed (g1.1 i) (g2.1 i) (g3.1 i)) in
    simp (g1.0, g2.0, g3.0, g4.0) (λ i. Some (record { feed = first i; size = g4.1 i }))
