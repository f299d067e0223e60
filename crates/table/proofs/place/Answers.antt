use Rattle.std.specs.Prelude.{None, Some}
use mathlib.Core.Path.{◌≡◌, sym, ap, ◌∙◌}
use Prim.Native.Nat.{ℕ, ◌<◌}
use lib.ListN.{length}
use native.Mathlib.Omega.{arith}
use borrow.Author.Rules.{rules}
use Rattle.assembly.specs.declared.Key.{Key}
use Rattle.assembly.specs.Carried.{key_of}
use Rattle.assembly.specs.View.{piece}
use Rattle.table.specs.Slots.{key_from}
use Rattle.table.proofs.Calling.{lands_as, place_new, place_at}
use Rattle.table.proofs.Lowest.{key_below, key_occupied, usable_record}
use Rattle.table.proofs.place.Goals as goal

pub offset_bounds-table-i : goal.offset_bounds-table-i
offset_bounds-table-i c =
    let a = c.args in
    let i : ℕ = c.in-Some.i in
    let k : Key = c.key_of-key.result in
    let e : key_from 0 k a.table ≡ Some i = sym c.key_from.ensures ∙ c.in-Some.is in
    let within : i < 8 = omega (arith, key_below k a.table i e, c.well_formed.0.1.0.1) in
    search rules

pub bounds-table-i : goal.bounds-table-i
bounds-table-i c =
    let a = c.args in
    let i : ℕ = c.in-Some.i in
    let k : Key = c.key_of-key.result in
    let e : key_from 0 k a.table ≡ Some i = sym c.key_from.ensures ∙ c.in-Some.is in
    omega (arith, key_below k a.table i e, c.well_formed.0.1.0.1)

pub put_at-requires : goal.put_at-requires
put_at-requires c =
    let a = c.args in
    let i : ℕ = c.in-Some.i in
    let k : Key = c.key_of-key.result in
    let e : key_from 0 k a.table ≡ Some i = sym c.key_from.ensures ∙ c.in-Some.is in
    let held = key_occupied k a.table (length a.payloads.now) (length a.maps.now) i c.requires.usable c.well_formed.0.1.0.1 e in
    let fits = usable_record a.table i (length a.payloads.now) (length a.maps.now) c.requires.usable held.used in
    record { sized = held.sized; fits = fits; has_room = c.requires.has_room }

pub returns-in-None : goal.returns-in-None
returns-in-None c =
    let a = c.args in
    let key = c.key_of-key.ensures in
    let e : key_from 0 (key_of a.h) a.table ≡ None =
    ap (λ (k : Key). key_from 0 k a.table) (sym key) ∙ sym c.key_from.ensures ∙ c.in-None.is in
    lands_as _ _ _ _ _ _ _ (place_new a.table a.payloads.now a.maps.now (key_of a.h) (piece a.h.off a.h.mf a.body.now) e)
    c.put_new.ensures

pub returns-in-Some : goal.returns-in-Some
returns-in-Some c =
    let a = c.args in
    let i : ℕ = c.in-Some.i in
    let key = c.key_of-key.ensures in
    let p = piece a.h.off a.h.mf a.body.now in
    let e : key_from 0 (key_of a.h) a.table ≡ Some i =
    ap (λ (k : Key). key_from 0 k a.table) (sym key) ∙ sym c.key_from.ensures ∙ c.in-Some.is in
    lands_as _ _ _ _ _ _ _ (place_at a.table a.payloads.now a.maps.now (key_of a.h) p i e) c.put_at.ensures
