-- The segment fits, so it is written, and its side moves on by what it consumes.
use Rattle.std.proofs.Common.{◌≡◌, ℕ, ◌+◌, ◌≤◌, List, length, ap, ◌∙◌, le-ltb}
use Rattle.pkt.specs.Written.{written}
use Rattle.ezpkt.specs.Build.{tcp_packet, Answered}
use Rattle.ezpkt.specs.declared.build.TcpSegment.{TcpSegment}
use Rattle.pkt.specs.declared.refusal.Refusal.{Refusal}
use Rattle.std.specs.Prelude.{Result}
use Rattle.ezpkt.specs.declared.build.Request.TheVariants.{Tcp}
use Rattle.tcp4.specs.Tcp4.{advance}
use Rattle.tcp4.proofs.TcpFlow.tx.Goals as goal

-- a segment that fits is not refused
segment_written : (t : TcpSegment) (p o : List ℕ) (r : Result ℕ Refusal) (o' : List ℕ) → Answered (Tcp t) p o r o' → length p ≤ 65495 → 40 + length p ≤ length o
    → o' ≡ written (tcp_packet t p) o
segment_written t p o r o' x few room = simp (le-ltb 65495 (length p) few, le-ltb (length o) (40 + length p) room) at x.after

pub returns : goal.returns
returns c =
    let a = c.args in (
      c.update.ensures ∙ ap (λ (k : ℕ). advance a.side k a.self) c.seq_consumed.ensures,
      segment_written c.segment-segment.result a.payload.now a.out.now c.build.result _ c.build.ensures c.requires.0 c.requires.1
          ∙ ap (λ (t : TcpSegment). written (tcp_packet t a.payload.now) a.out.now) c.segment-segment.ensures,
    )
