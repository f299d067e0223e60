use mathlib.Core.Path.{◌≡◌, refl, sym, ◌∙◌}
use mathlib.Core.Bool.{true, false}
use lib.ListN.{length}
use Rattle.table.specs.Slots.{table_fits}
use Rattle.table.proofs.Calling.{tables_as, refused_tables, table_eleven, table_usable}
use Rattle.table.proofs.Stepping.{refused_stored, stored_lands}
use Rattle.table.proofs.take.Goals as goal

pub returns-then-not-is_usable : goal.returns-then-not-is_usable
returns-then-not-is_usable c =
    let a = c.args in
    let u : table_fits a.table (length a.payloads.now) (length a.maps.now) ≡ false = sym c.is_usable.ensures ∙ c.if-not-is_usable.true in
    tables_as _ _ _ _ _ _ _ _ (table_eleven a.table a.payloads.now a.maps.now a.packet.now u) (refused_tables 11 _ _ _ _ c.refuse.ensures)

pub land-requires : goal.land-requires
land-requires c = sym c.is_usable.ensures ∙ c.if-not-is_usable.false

pub returns-in-Err : goal.returns-in-Err
returns-in-Err c =
    let a = c.args in
    let u : table_fits a.table (length a.payloads.now) (length a.maps.now) ≡ true = sym c.is_usable.ensures ∙ c.if-not-is_usable.false in
    tables_as _ _ _ _ _ _ _ _ (table_usable a.table a.payloads.now a.maps.now a.packet.now u) (refused_stored _ _ _ _ _ _ _ _ c.in-Err.ensures c.refuse-in-Err.ensures)

pub stored-requires : goal.stored-requires
stored-requires c = c.in-Ok.ensures.below _ refl

pub returns-in-Ok : goal.returns-in-Ok
returns-in-Ok c =
    let a = c.args in
    let u : table_fits a.table (length a.payloads.now) (length a.maps.now) ≡ true = sym c.is_usable.ensures ∙ c.if-not-is_usable.false in
    tables_as _ _ _ _ _ _ _ _ (table_usable a.table a.payloads.now a.maps.now a.packet.now u) (stored_lands _ _ _ _ _ _ _ _ c.in-Ok.ensures c.stored.ensures)
