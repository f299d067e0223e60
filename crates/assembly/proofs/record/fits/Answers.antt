-- The total first, then the floor.
use mathlib.Core.Path.{refl, sym, ◌∙◌}
use Rattle.assembly.specs.Assembly.{record_fits}
use Rattle.assembly.proofs.record.fits.Goals as goal

pub returns-then-total_fits : goal.returns-then-total_fits
unfolding record_fits
returns-then-total_fits c = rw (sym c.total_fits.ensures ∙ c.if-total_fits.true) refl

pub returns : goal.returns
unfolding record_fits
returns c = rw (sym c.total_fits.ensures ∙ c.if-total_fits.false) refl
