-- The map's size first, then the record.
use mathlib.Core.Path.{refl, sym, ◌∙◌}
use Rattle.assembly.specs.Calls.{ready}
use Rattle.assembly.proofs.any.is_ready.Goals as goal

pub returns-then-has_bits : goal.returns-then-has_bits
unfolding ready
returns-then-has_bits c = rw (sym c.has_bits.ensures ∙ c.if-has_bits.true) c.fits.ensures

pub returns : goal.returns
unfolding ready
returns c = rw (sym c.has_bits.ensures ∙ c.if-has_bits.false) refl
