-- Document 01's worked examples of an assembly, by computing at the full size.
use mathlib.Core.Path.{◌≡◌, refl}
use mathlib.Core.List.{[], ◌∷◌}
use Rattle.assembly.specs.declared.Key.{Key}
use Rattle.assembly.specs.Map.{block_bit, set_bit, mark, marked}
use Rattle.assembly.specs.Assembly.{opened, run, step, clashes, end_clash, byte_clash, accept, new_total, new_floor, held_to, outcome}
use Rattle.assembly.specs.declared.Outcome.TheVariants.{Waiting, Spoilt}
use Rattle.assembly.specs.Calls.{capacity, map_bytes}
use Rattle.assembly.specs.Cut.{requested, twenty}

-- "Pieces (0,1) and (3,1) of n = 20: waiting."
pub two_wait : (k : Key) → outcome (run (opened k capacity map_bytes) (requested twenty 0 1 ∷ requested twenty 3 1 ∷ [])) ≡ Waiting
unfolding outcome held_to marked run step clashes end_clash byte_clash accept new_total new_floor requested mark set_bit block_bit
two_wait k = refl

-- "With (2,1) too: spoilt" (in all six orders, by `one_end`)
pub three_spoil : (k : Key) → outcome (run (opened k capacity map_bytes) (requested twenty 0 1 ∷ requested twenty 3 1 ∷ requested twenty 2 1 ∷ [])) ≡ Spoilt
unfolding outcome held_to marked run step clashes end_clash byte_clash accept new_total new_floor requested mark set_bit block_bit
three_spoil k = refl
