-- By the loop's numbers: what a turn asks and leaves, where nothing stops it.
use Rattle.std.proofs.Common.{◌∙◌, sym, arith, length}
use Rattle.pieces.proofs.Turns.{turn_more, turn_allowed, at_first, none_yet, at_last}
use Rattle.pieces.proofs.put_all.Goals as goal

pub loop-i-init : goal.loop-i-init
loop-i-init c =
    let a = c.args in
    let first = at_first a.template a.list.now a.payload.now a.out.now a.ends.now in
    record { end = sym (none_yet (length a.payload.now) a.list.now); output = sym first.0; ends_are = sym first.1 }

pub put-at-requires : goal.put-at-requires
put-at-requires c =
    let a = c.args in
    let l = c.loop-i in
    turn_allowed a.template a.list.now a.payload.now a.out.now a.ends.now c.requires l.i l.at l.out l.ends (omega arith) l.invariant.end l.auto.out l.auto.ends

pub loop-i-preserved : goal.loop-i-preserved
loop-i-preserved c =
    let a = c.args in
    let l = c.loop-i in
    let more = turn_more a.template a.list.now a.payload.now a.out.now a.ends.now c.requires l.i l.at l.out l.ends _ _ _ (omega arith) l.invariant.end
    l.invariant.output l.invariant.ends_are c.put-at.ensures in
    record { end = more.0; output = more.1; ends_are = more.2 }

pub returns : goal.returns
returns c =
    let a = c.args in
    let l = c.loop-i in
    let last = at_last a.template a.list.now a.payload.now a.out.now a.ends.now c.requires l.i (omega arith) in
    (l.invariant.output ∙ last.0, l.invariant.ends_are ∙ last.1)
