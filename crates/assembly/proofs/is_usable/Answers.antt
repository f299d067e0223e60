-- The sizes first, then the record.
use mathlib.Core.Path.{sym, ◌∙◌}
use Rattle.assembly.specs.Calls.{capacity, map_bytes}
use Rattle.assembly.proofs.Calls.{usable_sized, usable_not}
use Rattle.assembly.proofs.is_usable.Goals as goal

pub returns-then-is_sized : goal.returns-then-is_sized
returns-then-is_sized c = c.fits.ensures ∙ sym (usable_sized capacity map_bytes _ (sym c.is_sized.ensures ∙ c.if-is_sized.true))

pub returns : goal.returns
returns c = sym (usable_not capacity map_bytes _ (sym c.is_sized.ensures ∙ c.if-is_sized.false))
