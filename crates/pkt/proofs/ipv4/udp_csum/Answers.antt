-- The checksum is finished from the sums of pseudo header, header and payload; a 0 is sent as all ones.
use Rattle.pkt.specs.Rfc768.{nonzero}
use Rattle.pkt.specs.Answers.{gives}
use Rattle.pkt.specs.Sums.{total, canon}
use Rattle.std.proofs.Common.{ℕ, ◌+◌, ◌-◌, List, length, ap, ◌∙◌, ap₂, arith, le-ltb, lt-ltb}
use Rattle.pkt.proofs.Headers.{udp_finished}
use Rattle.pkt.proofs.ipv4.udp_csum.Goals as goal

pub returns-then-n-gt-UDP_PAYLOAD : goal.returns-then-n-gt-UDP_PAYLOAD
returns-then-n-gt-UDP_PAYLOAD c = simp (lt-ltb 65507 (length c.args.payload.now) (omega arith))

pub returns : goal.returns
returns c =
    let known = c.shared_slice_known-1.given in
    let a = c.args in
    let p : List ℕ = a.payload.now in
    simp (le-ltb 65507 (length p) (omega (arith, c.if-n-gt-UDP_PAYLOAD.false)))
    (ap gives
    (c.nonzero.ensures ∙ ap nonzero c.finished.ensures
    ∙ ap₂ (λ (k : ℕ) (l : List ℕ). nonzero (65535 - canon (k + total l + total p))) c.csum_partial.ensures c.to_bytes-header.ensures
    ∙ udp_finished a.saddr a.daddr a.h p (λ i. (known i).fits)))
