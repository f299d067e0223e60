-- The data part of a packet that is read lies within it.
use native.Mathlib.Omega.{arith}
use mathlib.Core.Path.{sym}
use Rattle.inspect.proofs.Reading.{read_framed}
use Rattle.table.proofs.land.Goals as goal

pub slice_bounds-take_read-count : goal.slice_bounds-take_read-count
slice_bounds-take_read-count c = let f = read_framed _ _ (sym c.in_ok-h.ensures) in omega arith

pub slice_bounds-take_read-start : goal.slice_bounds-take_read-start
slice_bounds-take_read-start c = let f = read_framed _ _ (sym c.in_ok-h.ensures) in omega arith

pub slice_bounds-take_read-end : goal.slice_bounds-take_read-end
slice_bounds-take_read-end c = let f = read_framed _ _ (sym c.in_ok-h.ensures) in omega arith
