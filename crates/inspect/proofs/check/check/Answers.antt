-- The data part of a packet that is read lies within it, and is a transport part's.
use native.Mathlib.Omega.{arith}
use lib.ListN.{length-take, length-drop}
use mathlib.Core.Path.{sym}
use Rattle.inspect.proofs.Reading.{read_framed, read_end}
use Rattle.inspect.proofs.check.check.Goals as goal

pub slice_bounds-both-count : goal.slice_bounds-both-count
slice_bounds-both-count c = let f = read_framed c.args.packet.now c.in_ok-h.h (sym c.in_ok-h.ensures) in omega arith

pub slice_bounds-both-start : goal.slice_bounds-both-start
slice_bounds-both-start c = let f = read_framed c.args.packet.now c.in_ok-h.h (sym c.in_ok-h.ensures) in omega arith

pub slice_bounds-both-end : goal.slice_bounds-both-end
slice_bounds-both-end c = let f = read_framed c.args.packet.now c.in_ok-h.h (sym c.in_ok-h.ensures) in omega arith

pub both-requires : goal.both-requires
both-requires c =
    let e = sym c.in_ok-h.ensures in
    let f = read_framed c.args.packet.now c.in_ok-h.h e in
    simp (length-take, length-drop) (omega (arith, read_end c.args.packet.now c.in_ok-h.h (λ i. (c.shared_slice_known-1.given i).fits) e))
