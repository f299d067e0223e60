-- 9, then 20 where the end is above, and else the piece is placed.
use mathlib.Core.Path.{sym}
use lib.ListN.{length}
use Rattle.pkt.specs.declared.refusal.Refusal.TheVariants.{NotBlocks, TooFarForSlot}
use Rattle.table.proofs.Calling.{lands_as, refused_lands, fits_slot, piece_refused, piece_placed}
use Rattle.table.proofs.take_read.Goals as goal

pub place-requires : goal.place-requires
place-requires c =
    record { usable = c.requires; has_room = fits_slot 20 (length c.args.body.now) c.args.h _ (sym (c.in-Ok.ensures 20)) }

pub returns-in-Err-NotBlocks : goal.returns-in-Err-NotBlocks
returns-in-Err-NotBlocks c =
    let a = c.args in
    let e = rw c.in-Err-NotBlocks.field-0-is at (c.in-Err-NotBlocks.ensures 20) in
    lands_as _ _ _ _ _ _ _ (piece_refused a.table a.payloads.now a.maps.now a.h a.body.now 9 (sym e)) (refused_lands NotBlocks _ _)

pub returns-in-Err-TooFar : goal.returns-in-Err-TooFar
returns-in-Err-TooFar c =
    let a = c.args in
    let e = rw c.in-Err-TooFar.field-0-is at (c.in-Err-TooFar.ensures 20) in
    lands_as _ _ _ _ _ _ _ (piece_refused a.table a.payloads.now a.maps.now a.h a.body.now 20 (sym e)) (refused_lands TooFarForSlot _ _)

pub returns-in-Ok : goal.returns-in-Ok
returns-in-Ok c =
    let a = c.args in
    lands_as _ _ _ _ _ _ _ (piece_placed a.table a.payloads.now a.maps.now a.h a.body.now _ (sym (c.in-Ok.ensures 20))) c.place.ensures
