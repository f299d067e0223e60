-- The data part of a packet that is framed lies within it.
use native.Mathlib.Omega.{arith}
use Rattle.inspect.proofs.Reading.{clear_framed}
use Rattle.inspect.proofs.check.examine.Goals as goal

pub slice_bounds-whole_kind-count : goal.slice_bounds-whole_kind-count
slice_bounds-whole_kind-count c = let f = clear_framed _ _ _ c.in_ok-seen.ensures c.in_ok-header.ensures in omega arith

pub slice_bounds-whole_kind-start : goal.slice_bounds-whole_kind-start
slice_bounds-whole_kind-start c = let f = clear_framed _ _ _ c.in_ok-seen.ensures c.in_ok-header.ensures in omega arith

pub slice_bounds-whole_kind-end : goal.slice_bounds-whole_kind-end
slice_bounds-whole_kind-end c = let f = clear_framed _ _ _ c.in_ok-seen.ensures c.in_ok-header.ensures in omega arith
