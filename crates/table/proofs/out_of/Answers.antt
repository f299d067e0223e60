-- 27, then 3, and else the datagram goes out.
use native.Mathlib.Omega.{arith}
use lib.ListN.{length}
use Rattle.table.specs.Slots.{state_at}
use Rattle.table.proofs.Parts.{payload_length}
use Rattle.table.proofs.Stepping.{length_held, held_most, out_by_lem, out_full, out_fitting, out_stayed, out_moved}
use Rattle.table.proofs.out_of.Goals as goal

pub returns-then-out-n : goal.returns-then-out-n
returns-then-out-n c =
    let a = c.args in
    let s = state_at a.table a.payloads.now a.maps.now a.i in
    let e = c.in-Ok.ensures in
    let u = out_full s a.i (length a.out.now) _ e c.if-out-n.true in
    out_stayed a.table a.i 3 a.payloads.now a.maps.now a.out.now _ u c.refuse-then-out-n.ensures.0 c.refuse-then-out-n.ensures.1

pub move_out-requires : goal.move_out-requires
move_out-requires c =
    let a = c.args in
    let s = state_at a.table a.payloads.now a.maps.now a.i in
    let e = length_held s _ c.in-Ok.ensures in
    let n = payload_length a.i (length a.maps.now) a.payloads.now c.requires.sized in
    (c.requires.sized, omega (arith, e, n, held_most s), c.if-out-n.false)

pub returns-in-Err : goal.returns-in-Err
returns-in-Err c =
    let a = c.args in
    let s = state_at a.table a.payloads.now a.maps.now a.i in
    let e = c.in-Err.ensures in
    let u = out_by_lem s a.i (length a.out.now) _ e in
    out_stayed a.table a.i _ a.payloads.now a.maps.now a.out.now _ u c.refuse.ensures.0 c.refuse.ensures.1

pub returns-else-out-n : goal.returns-else-out-n
returns-else-out-n c =
    let a = c.args in
    let s = state_at a.table a.payloads.now a.maps.now a.i in
    let e = c.in-Ok.ensures in
    let u = out_fitting s a.i (length a.out.now) _ e c.if-out-n.false in
    let m = c.move_out.ensures in
    out_moved a.table a.i _ a.payloads.now a.maps.now a.out.now _ _ _ _ u (length_held s _ e) m
