-- The checksum is finished from the header's sum and the payload's.
use Rattle.pkt.specs.Answers.{gives}
use Rattle.pkt.specs.Sums.{total, canon}
use Rattle.std.proofs.Common.{ℕ, ◌+◌, ◌-◌, List, length, ap, ◌∙◌, arith, le-ltb, lt-ltb}
use Rattle.pkt.proofs.Headers.{echo_finished}
use Rattle.pkt.proofs.ipv4.icmp_csum.Goals as goal

pub returns-then-payload-gt-UDP_PAYLOAD : goal.returns-then-payload-gt-UDP_PAYLOAD
returns-then-payload-gt-UDP_PAYLOAD c = simp (lt-ltb 65507 (length c.args.payload.now) (omega arith))

pub returns : goal.returns
returns c =
    let known = c.shared_slice_known-1.given in
    let a = c.args in
    let p : List ℕ = a.payload.now in
    simp (le-ltb 65507 (length p) (omega (arith, c.if-payload-gt-UDP_PAYLOAD.false)))
    (ap gives
    (c.finished.ensures
    ∙ ap (λ (l : List ℕ). 65535 - canon (0 + total l + total p)) c.to_bytes-header.ensures
    ∙ echo_finished a.h a.echo p (λ i. (known i).fits)))
