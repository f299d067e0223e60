-- 11 first, then 9 and 10, and else the step by the piece.
use lib.ListN.{length}
use mathlib.Core.Path.{◌≡◌, sym, subst, ◌∙◌}
use mathlib.Core.Bool.{true}
use Prim.Native.Nat.{◌+◌, ◌*◌, ◌≤◌}
use Rattle.inspect.specs.declared.header.IpRead.{IpRead}
use Rattle.std.proofs.lemmas.Result.{err_from_is_err_and}
use Rattle.pkt.specs.declared.refusal.Refusal.TheVariants.{BadAssembly}
use Rattle.assembly.specs.View.{view}
use Rattle.assembly.specs.Calls.{ready}
use Rattle.assembly.proofs.Steps.{refused_steps, steps_as}
use Rattle.assembly.proofs.Calls.{ready_is, put_eleven, put_by}
use Rattle.assembly.proofs.Carrying.{fitted, fit_refused}
use Rattle.assembly.proofs.any.put.Goals as goal

pub returns-then-not-is_ready : goal.returns-then-not-is_ready
returns-then-not-is_ready c =
    let a = c.args in
    let s = view a.rec a.payload.now a.map.now in
    steps_as _ _ (put_eleven s a.h a.body.now (sym c.is_ready.ensures ∙ c.if-not-is_ready.true)) (refused_steps s BadAssembly)

pub take-requires : goal.take-requires
take-requires c =
    let a = c.args in
    let s = view a.rec a.payload.now a.map.now in
    let r = ready_is s (sym c.is_ready.ensures ∙ c.if-not-is_ready.false) in
    let f = fitted (length a.payload.now) 10 (length a.body.now) a.h _ (sym (c.in_ok-p.ensures 10)) in
    record {
      body_in_bounds = subst (λ (g : IpRead). 8 * g.off + length a.body.now ≤ length a.payload.now) f.is f.fits;
      payload_len_bound = r.room;
      total_value = r.total_fits_lem;
    }

pub returns-in_err-p : goal.returns-in_err-p
returns-in_err-p c =
    let a = c.args in
    let s = view a.rec a.payload.now a.map.now in
    let u : ready s ≡ true = sym c.is_ready.ensures ∙ c.if-not-is_ready.false in
    let p = err_from_is_err_and c.from_residual.result c.from_residual.ensures.1 in
    rw (p.1, p.2)
    (steps_as _ _ (put_by s a.h a.body.now _ u (sym (c.in_err-p.ensures 10) ∙ fit_refused _)) (refused_steps s _))

pub returns : goal.returns
returns c =
    let a = c.args in
    let s = view a.rec a.payload.now a.map.now in
    let u : ready s ≡ true = sym c.is_ready.ensures ∙ c.if-not-is_ready.false in
    steps_as _ _ (put_by s a.h a.body.now _ u (sym (c.in_ok-p.ensures 10))) c.take.ensures
