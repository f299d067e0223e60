-- The checksum is finished from the sums of pseudo header, header and payload.
use Rattle.pkt.specs.Answers.{gives}
use Rattle.pkt.specs.Sums.{total, canon}
use Rattle.std.proofs.Common.{ℕ, ◌+◌, ◌-◌, List, length, ap, ◌∙◌, ap₂, arith, le-ltb, lt-ltb}
use Rattle.pkt.proofs.Headers.{tcp_finished}
use Rattle.pkt.proofs.ipv4.tcp_csum.Goals as goal

pub returns-then-n-gt-TCP_PAYLOAD : goal.returns-then-n-gt-TCP_PAYLOAD
returns-then-n-gt-TCP_PAYLOAD c = simp (lt-ltb 65495 (length c.args.payload.now) (omega arith))

pub returns : goal.returns
returns c =
    let known = c.shared_slice_known-1.given in
    let a = c.args in
    let p : List ℕ = a.payload.now in
    simp (le-ltb 65495 (length p) (omega (arith, c.if-n-gt-TCP_PAYLOAD.false)))
    (ap gives
    (c.finished.ensures
    ∙ ap₂ (λ (k : ℕ) (l : List ℕ). 65535 - canon (k + total l + total p)) c.csum_partial.ensures c.to_bytes-header.ensures
    ∙ tcp_finished a.saddr a.daddr a.h p (λ i. (known i).fits)))
