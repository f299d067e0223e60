-- The first two blocks, and the packets' behind them.
use native.Mathlib.Omega.{arith}
use Rattle.exporting.proofs.Answering.{exported_length}
use Rattle.exporting.proofs.Writing.{head_kept, packets_ask, file_written}
use Rattle.exporting.proofs.write.Goals as goal

pub put_head-requires : goal.put_head-requires
put_head-requires c = let asks = c.requires in omega (arith, asks.fits, exported_length asks.records)

pub slice_bounds-put_packets-count : goal.slice_bounds-put_packets-count
slice_bounds-put_packets-count c =
    let kept = head_kept c.args.capture.now c.args.out.now _ c.requires c.put_head.ensures in
    omega (arith, kept.0, kept.1)

pub slice_bounds-put_packets-start : goal.slice_bounds-put_packets-start
slice_bounds-put_packets-start c =
    let kept = head_kept c.args.capture.now c.args.out.now _ c.requires c.put_head.ensures in
    omega (arith, kept.0, kept.1)

pub put_packets-requires : goal.put_packets-requires
put_packets-requires c =
    let l = c.args.capture.now in
    let o = c.args.out.now in
    packets_ask l o c.put_head.new.out c.requires (head_kept l o _ c.requires c.put_head.ensures).1

pub returns : goal.returns
returns c =
    let a = c.args in
    file_written a.capture.now a.out.now _ _ c.put_head.ensures c.put_packets.ensures
