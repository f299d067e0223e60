-- A known total is compared; no total fits.
use Rattle.assembly.specs.Assembly.{total_fits}
use Rattle.assembly.proofs.record.total_fits.Goals as goal

pub returns-in-Some : goal.returns-in-Some
unfolding total_fits
returns-in-Some c = cc

pub returns-in-None : goal.returns-in-None
unfolding total_fits
returns-in-None c = cc
