-- The two digits are written behind the space.
use mathlib.Core.Path.{refl}
use mathlib.Core.List.{[], ◌∷◌}
use Rattle.pkt.proofs.Written.{written_behind}
use Rattle.packet.specs.Dump.{space}
use Rattle.packet.proofs.dump.put_hex.Goals as goal

pub returns : goal.returns
returns c =
    written_behind (space ∷ []) _ _ _ _ _ 1 refl c.fill.ensures refl c.put_number.ensures
