use Rattle.std.specs.Prelude.{None, Some}
use mathlib.Core.Path.{◌≡◌, sym, ◌∙◌}
use mathlib.Core.Bool.{true, false}
use Prim.Native.Nat.{ℕ}
use lib.ListN.{length}
use Rattle.table.specs.Slots.{key_from, table_fits}
use Rattle.table.proofs.Calling.{discard_eleven, discard_found, discard_refused, discard_done}
use Rattle.table.proofs.Lowest.{key_occupied}
use Rattle.table.proofs.discard.Goals as goal

pub returns-then-not-is_usable : goal.returns-then-not-is_usable
returns-then-not-is_usable c =
    let a = c.args in
    let u : table_fits a.table (length a.payloads.now) (length a.maps.now) ≡ false = sym c.is_usable.ensures ∙ c.if-not-is_usable.true in
    discard_refused a.table a.payloads.now a.maps.now a.key 11 _ (discard_eleven a.table a.payloads.now a.maps.now a.key u) c.refuse.ensures

pub empty_at-table-requires : goal.empty_at-table-requires
empty_at-table-requires c =
    let a = c.args in
    let u : table_fits a.table (length a.payloads.now) (length a.maps.now) ≡ true = sym c.is_usable.ensures ∙ c.if-not-is_usable.false in
    let i : ℕ = c.in-Some.i in
    let e : key_from 0 a.key a.table ≡ Some i = sym c.key_from.ensures ∙ c.in-Some.is in
    (key_occupied a.key a.table (length a.payloads.now) (length a.maps.now) i u c.well_formed.0.1.0.1 e).sized

pub returns-in-None : goal.returns-in-None
returns-in-None c =
    let a = c.args in
    let u : table_fits a.table (length a.payloads.now) (length a.maps.now) ≡ true = sym c.is_usable.ensures ∙ c.if-not-is_usable.false in
    let e : key_from 0 a.key a.table ≡ None = sym c.key_from.ensures ∙ c.in-None.is in
    discard_refused a.table a.payloads.now a.maps.now a.key 27 _ (discard_found a.table a.payloads.now a.maps.now a.key None u e) c.refuse-in-None.ensures

pub returns-in-Some : goal.returns-in-Some
returns-in-Some c =
    let a = c.args in
    let u : table_fits a.table (length a.payloads.now) (length a.maps.now) ≡ true = sym c.is_usable.ensures ∙ c.if-not-is_usable.false in
    let i : ℕ = c.in-Some.i in
    let e : key_from 0 a.key a.table ≡ Some i = sym c.key_from.ensures ∙ c.in-Some.is in
    let gone = c.empty_at-table.ensures in
    discard_done a.table a.payloads.now a.maps.now a.key i _ _ _ (discard_found a.table a.payloads.now a.maps.now a.key (Some i) u e) gone.0 gone.1 gone.2
