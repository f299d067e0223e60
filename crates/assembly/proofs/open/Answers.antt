-- The sizes decide, and the buffers are wiped for the key.
use mathlib.Core.Path.{sym, ◌∙◌}
use Rattle.assembly.specs.Calls.{capacity, map_bytes}
use Rattle.assembly.proofs.Calls.{opens_yes, opens_refused}
use Rattle.assembly.proofs.open.Goals as goal

pub returns-then-not-is_sized : goal.returns-then-not-is_sized
returns-then-not-is_sized c = search (opens_refused capacity map_bytes)

pub returns : goal.returns
returns c =
    let a = c.args in
    opens_yes capacity map_bytes a.key a.payload.now a.map.now _ _ _ (sym c.is_sized.ensures ∙ c.if-not-is_sized.false) c.wipe.ensures
