-- 11, or how the record stands.
use lib.ListN.{length}
use mathlib.Core.Path.{sym, ap, ◌∙◌}
use Rattle.pkt.specs.Answers.{gives}
use Rattle.assembly.specs.View.{view}
use Rattle.assembly.proofs.Steps.{fits_more}
use Rattle.assembly.proofs.Calls.{ready_is}
use Rattle.pkt.proofs.Choice.{pick_yes, pick_no}
use Rattle.assembly.proofs.any.progress.Goals as goal

pub standing-requires : goal.standing-requires
standing-requires c =
    let a = c.args in
    let r = ready_is (view a.rec a.payload.now a.map.now) (sym c.is_ready.ensures ∙ c.if-is_ready.true) in
    fits_more (length a.payload.now) _ _ r.room r.total_fits_lem

pub returns-then-is_ready : goal.returns-then-is_ready
returns-then-is_ready c =
    let a = c.args in
    let e = sym c.is_ready.ensures ∙ c.if-is_ready.true in
    let r = ready_is (view a.rec a.payload.now a.map.now) e in
    ap gives (c.standing.ensures a.payload.now r.total_fits_lem) ∙ sym (pick_yes _ _ e)

pub returns : goal.returns
returns c = sym (pick_no _ _ (sym c.is_ready.ensures ∙ c.if-is_ready.false))
