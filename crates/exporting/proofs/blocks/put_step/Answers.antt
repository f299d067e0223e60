-- The block of a step's record is that of the part that is lent.
use mathlib.Core.Path.{sym, ap, ◌∙◌}
use Prim.Native.Nat.{ℕ}
use mathlib.Core.List.{List}
use lib.ListN.{length}
use Rattle.pkt.specs.Written.{written}
use Rattle.pcap.specs.Read.{Recorded}
use Rattle.exporting.specs.Pcapng.{packet_block}
use Rattle.exporting.proofs.Laying.{block_length, lent_record, step_laid}
use Rattle.exporting.proofs.blocks.put_step.Goals as goal

pub returns-in-Ok-Some : goal.returns-in-Ok-Some
returns-in-Ok-Some c =
    let a = c.args in
    let spot = c.in-Ok-Some.spot in
    let is = lent_record a.capture.now spot in
    let laid = sym (step_laid a.capture.now a.step _ spot c.in-Ok-Some.is (rw c.in-Ok-Some.is at c.in-Ok-Some.field-0-is)) in (
      c.put.ensures.0 ∙ sym (block_length spot.sec spot.usec spot.original _) ∙ ap (λ (r : Recorded). length (packet_block r)) is ∙ ap length laid,
      c.put.ensures.1 ∙ ap (λ (r : Recorded). written (packet_block r) a.out.now) is ∙ ap (λ (b : List ℕ). written b a.out.now) laid,
    )
