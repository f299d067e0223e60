-- By the tests in the definition's order.
use Rattle.table.proofs.Lowest.{other_payloads, other_maps, one_unfit, by_keys}
use Rattle.table.proofs.is_usable.Goals as goal

pub returns-then-payloads : goal.returns-then-payloads
returns-then-payloads c = search other_payloads

pub returns-then-maps : goal.returns-then-maps
returns-then-maps c = search other_maps

pub returns-then-not-all_fit : goal.returns-then-not-all_fit
returns-then-not-all_fit c = search one_unfit

pub returns : goal.returns
returns c = search by_keys
