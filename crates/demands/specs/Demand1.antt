-- Demand 1, over the promises of every public call of the library crates. That a call answers on all input needs no statement: no public
-- function has a requires clause, and each is proved to return.
use Rattle.demands.specs.Numbers.{Numbered}
use Rattle.demands.specs.Refusals.{RefusedKeep}

pub record Demand1 : Type 0 where
  -- "Every call answers on all input: it builds, or refuses by a number in document 01 under exactly that number's condition." (The condition
  -- is in the call's promise, which is an equation for its answer.)
  pub numbered : Numbered
  -- "A refused call changes no lent byte, no flow and no assembly."
  pub kept : RefusedKeep
