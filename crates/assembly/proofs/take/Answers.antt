-- 11 first, then what the header is refused by, and else the piece behind it is put.
use mathlib.Core.Path.{◌≡◌, sym, ◌∙◌}
use mathlib.Core.Bool.{true}
use native.Mathlib.Omega.{arith}
use Rattle.std.proofs.lemmas.Result.{err_from_is_err_and}
use Rattle.pkt.specs.declared.refusal.Refusal.TheVariants.{BadAssembly}
use Rattle.inspect.proofs.Reading.{read_framed}
use Rattle.assembly.specs.View.{view}
use Rattle.assembly.specs.Calls.{capacity, map_bytes, usable}
use Rattle.assembly.proofs.Steps.{refused_steps, steps_as}
use Rattle.assembly.proofs.Calls.{take_eleven, take_by, take_put}
use Rattle.assembly.proofs.Carrying.{keyed_by_lem, piece_by}
use Rattle.assembly.proofs.take.Goals as goal

pub returns-then-not-is_usable : goal.returns-then-not-is_usable
returns-then-not-is_usable c =
    let a = c.args in
    let s = view a.rec a.payload.now a.map.now in
    let u = sym c.is_usable.ensures ∙ c.if-not-is_usable.true in
    steps_as _ _ (take_eleven capacity map_bytes s a.packet.now u) (refused_steps s BadAssembly)

pub slice_bounds-put-count : goal.slice_bounds-put-count
slice_bounds-put-count c = let f = read_framed _ _ (keyed_by_lem _ _ _ (sym c.in_ok-h.ensures)).read in omega arith

pub slice_bounds-put-start : goal.slice_bounds-put-start
slice_bounds-put-start c = let f = read_framed _ _ (keyed_by_lem _ _ _ (sym c.in_ok-h.ensures)).read in omega arith

pub slice_bounds-put-end : goal.slice_bounds-put-end
slice_bounds-put-end c = let f = read_framed _ _ (keyed_by_lem _ _ _ (sym c.in_ok-h.ensures)).read in omega arith

pub returns-in_err-h : goal.returns-in_err-h
returns-in_err-h c =
    let a = c.args in
    let s = view a.rec a.payload.now a.map.now in
    let u : usable capacity map_bytes s ≡ true = sym c.is_usable.ensures ∙ c.if-not-is_usable.false in
    let p = err_from_is_err_and c.from_residual.result c.from_residual.ensures.1 in
    rw (p.1, p.2)
    (steps_as _ _ (take_by capacity map_bytes s a.packet.now _ u (piece_by capacity a.rec.key a.packet.now _ (sym c.in_err-h.ensures))) (refused_steps s _))

pub returns : goal.returns
returns c =
    let a = c.args in
    let s = view a.rec a.payload.now a.map.now in
    let u : usable capacity map_bytes s ≡ true = sym c.is_usable.ensures ∙ c.if-not-is_usable.false in
    steps_as _ _ (take_put capacity map_bytes s a.packet.now _ (omega arith) u (sym c.in_ok-h.ensures)) c.put.ensures
