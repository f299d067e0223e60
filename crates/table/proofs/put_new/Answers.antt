use mathlib.Core.Path.{sym, ap, ◌∙◌}
use Prim.Native.Nat.{ℕ}
use native.Mathlib.Omega.{arith}
use lib.ListN.{length}
use Rattle.assembly.specs.declared.Key.{Key}
use Rattle.assembly.specs.declared.Rec.{Rec}
use Rattle.assembly.specs.Assembly.{opened, record_fits}
use Rattle.assembly.specs.Carried.{key_of}
use Rattle.assembly.specs.View.{record_of, piece}
use Rattle.pkt.specs.declared.refusal.Refusal.TheVariants.{Full}
use Rattle.table.specs.Slots.{slot_bytes, slot_map}
use Rattle.table.proofs.Calling.{lands_as, refused_lands, new_full, new_at, opened_step}
use Rattle.table.proofs.Lowest.{free_below, usable_sized}
use Rattle.table.proofs.Stepping.{opened_fits}
use Rattle.table.proofs.put_new.Goals as goal

pub open_at-rec-requires : goal.open_at-rec-requires
open_at-rec-requires c =
    let a = c.args in
    let free = free_below a.table _ (sym c.free_one.ensures ∙ c.in-Some.is) in
    usable_sized a.table _ _ _ c.requires.usable (omega (arith, free, c.well_formed.0.1.0.1))

pub put_at-requires : goal.put_at-requires
put_at-requires c =
    let a = c.args in
    let opening = c.open_at-rec in
    let i : ℕ = c.in-Some.i in
    let free = free_below a.table i (sym c.free_one.ensures ∙ c.in-Some.is) in
    let at = usable_sized a.table (length a.payloads.now) (length a.maps.now) i c.requires.usable (omega (arith, free, c.well_formed.0.1.0.1)) in
    record {
      sized = record { one = at.one; payloads = opening.auto.payloads ∙ at.payloads; maps = opening.auto.maps ∙ at.maps };
      fits = ap (λ (x : Rec). record_fits slot_bytes x.total x.floor) opening.ensures.0 ∙ opened_fits;
      has_room = c.requires.has_room;
    }

pub returns-in-None : goal.returns-in-None
returns-in-None c =
    let a = c.args in
    let full = sym c.free_one.ensures ∙ c.in-None.is in
    lands_as _ _ _ _ _ _ _ (new_full a.table a.payloads.now a.maps.now (key_of a.h) (piece a.h.off a.h.mf a.body.now) full) (refused_lands Full _ _)

pub returns-in-Some : goal.returns-in-Some
returns-in-Some c =
    let a = c.args in
    let opening = c.open_at-rec in
    let key = c.key_of-key.ensures in
    let free = sym c.free_one.ensures ∙ c.in-Some.is in
    let i : ℕ = c.in-Some.i in
    let at = usable_sized a.table (length a.payloads.now) (length a.maps.now) i c.requires.usable (omega (arith, free_below a.table i free, c.well_formed.0.1.0.1)) in
    lands_as _ _ _ _ _ _ _
    (new_at a.table a.payloads.now a.maps.now (key_of a.h) (piece a.h.off a.h.mf a.body.now) _ free)
    (opened_step a.payloads.now a.maps.now _ _ (key_of a.h) _ _ (piece a.h.off a.h.mf a.body.now) _ _ _ at
    (opening.ensures.0 ∙ ap (λ (k : Key). record_of (opened k slot_bytes slot_map)) key) opening.ensures.1 opening.ensures.2 c.put_at.ensures)
