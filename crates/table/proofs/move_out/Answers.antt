-- The datagram is copied before its slot is emptied.
use mathlib.Core.Path.{refl}
use Rattle.table.specs.Slots.{slot_bytes}
use Rattle.table.proofs.Parts.{copied_out}
use Rattle.table.proofs.move_out.Goals as goal

pub returns : goal.returns
returns c =
    let a = c.args in
    let e = c.empty_at-table.ensures in
    record {
      answer = refl;
      slots_are = e.0;
      payloads_are = e.1;
      maps_are = e.2;
      output_is = copied_out slot_bytes a.i a.n a.payloads.now a.out.now _ c.requires.1 c.requires.2 c.copy.ensures;
    }
