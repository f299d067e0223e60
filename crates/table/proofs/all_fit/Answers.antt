-- All slots fit where those from this one on do.
use mathlib.Core.Path.{sym, ◌∙◌}
use Prim.Native.Nat.{◌<◌, ◌≤◌}
use native.Mathlib.Omega.{arith}
use lib.ListN.{length}
use Rattle.table.proofs.Lowest.{fit_not, fit_on, fit_end}
use Rattle.table.proofs.all_fit.Goals as goal

pub returns-then-not-slot_fits : goal.returns-then-not-slot_fits
returns-then-not-slot_fits c =
    let t = c.args.t in
    let h : c.loop-s.s-index < length t = omega arith in
    sym (fit_not t c.loop-s.s-index h (sym c.slot_fits.ensures ∙ c.if-not-slot_fits.true)) ∙ c.loop-s.invariant

pub loop-s-preserved : goal.loop-s-preserved
loop-s-preserved c =
    let t = c.args.t in
    let h : c.loop-s.s-index < length t = omega arith in
    sym (fit_on t c.loop-s.s-index h (sym c.slot_fits.ensures ∙ c.if-not-slot_fits.false)) ∙ c.loop-s.invariant

pub returns : goal.returns
returns c =
    let h : length c.args.t ≤ c.loop-s.s-index = omega arith in
    sym (fit_end _ _ h) ∙ c.loop-s.invariant
