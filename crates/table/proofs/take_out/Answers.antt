use Rattle.std.specs.Prelude.{None, Some}
use mathlib.Core.Path.{◌≡◌, sym, ◌∙◌}
use mathlib.Core.Bool.{true, false}
use Prim.Native.Nat.{ℕ}
use lib.ListN.{length}
use Rattle.table.specs.Slots.{key_from, table_fits}
use Rattle.table.proofs.Calling.{out_eleven, out_absent, out_at, out_refused, out_done}
use Rattle.table.proofs.Lowest.{key_occupied}
use Rattle.table.proofs.take_out.Goals as goal

pub returns-then-not-is_usable : goal.returns-then-not-is_usable
returns-then-not-is_usable c =
    let a = c.args in
    let u : table_fits a.table (length a.payloads.now) (length a.maps.now) ≡ false = sym c.is_usable.ensures ∙ c.if-not-is_usable.true in
    out_refused a.table a.payloads.now a.maps.now a.key a.out.now 11 _ (out_eleven a.table a.payloads.now a.maps.now a.key a.out.now u) c.refuse.ensures

pub out_of-requires : goal.out_of-requires
out_of-requires c =
    let a = c.args in
    let u : table_fits a.table (length a.payloads.now) (length a.maps.now) ≡ true = sym c.is_usable.ensures ∙ c.if-not-is_usable.false in
    let i : ℕ = c.in-Some.i in
    let e : key_from 0 a.key a.table ≡ Some i = sym c.key_from.ensures ∙ c.in-Some.is in
    key_occupied a.key a.table (length a.payloads.now) (length a.maps.now) i u c.well_formed.0.1.0.1 e

pub returns-in-None : goal.returns-in-None
returns-in-None c =
    let a = c.args in
    let u : table_fits a.table (length a.payloads.now) (length a.maps.now) ≡ true = sym c.is_usable.ensures ∙ c.if-not-is_usable.false in
    let e : key_from 0 a.key a.table ≡ None = sym c.key_from.ensures ∙ c.in-None.is in
    out_refused a.table a.payloads.now a.maps.now a.key a.out.now 27 _ (out_absent a.table a.payloads.now a.maps.now a.key a.out.now u e) c.refuse-in-None.ensures

pub returns-in-Some : goal.returns-in-Some
returns-in-Some c =
    let a = c.args in
    let u : table_fits a.table (length a.payloads.now) (length a.maps.now) ≡ true = sym c.is_usable.ensures ∙ c.if-not-is_usable.false in
    let i : ℕ = c.in-Some.i in
    let e : key_from 0 a.key a.table ≡ Some i = sym c.key_from.ensures ∙ c.in-Some.is in
    out_done a.table a.payloads.now a.maps.now a.key a.out.now i _ _ _ _ (out_at a.table a.payloads.now a.maps.now a.key a.out.now i u e) c.out_of.ensures
