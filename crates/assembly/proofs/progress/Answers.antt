-- 11, or what is answered for any capacity.
use mathlib.Core.Path.{sym, ◌∙◌}
use native.Mathlib.Omega.{arith}
use Rattle.assembly.specs.View.{view}
use Rattle.assembly.specs.Calls.{capacity, map_bytes}
use Rattle.assembly.proofs.Calls.{usable_ready}
use Rattle.pkt.proofs.Choice.{pick_yes, pick_no}
use Rattle.assembly.proofs.progress.Goals as goal

pub returns-then-is_usable : goal.returns-then-is_usable
returns-then-is_usable c =
    let a = c.args in
    let e = sym c.is_usable.ensures ∙ c.if-is_usable.true in
    let r = usable_ready capacity map_bytes (view a.rec a.payload.now a.map.now) (omega arith) e in
    c.progress.ensures ∙ pick_yes _ _ r ∙ sym (pick_yes _ _ e)

pub returns : goal.returns
returns c = sym (pick_no _ _ (sym c.is_usable.ensures ∙ c.if-is_usable.false))
