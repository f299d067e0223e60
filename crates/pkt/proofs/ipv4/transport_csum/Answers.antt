-- The checksum is finished from the sums of pseudo header and part.
use Rattle.pkt.proofs.Headers.{transport_finished}
use Rattle.pkt.specs.Answers.{gives}
use Rattle.pkt.specs.Sums.{total, canon}
use Rattle.std.proofs.Common.{ℕ, ◌+◌, ◌-◌, List, [], length, ap, ◌∙◌, arith, le-ltb, lt-ltb}
use Rattle.pkt.proofs.ipv4.transport_csum.Goals as goal

pub returns-then-n-gt-IP_PAYLOAD : goal.returns-then-n-gt-IP_PAYLOAD
returns-then-n-gt-IP_PAYLOAD c = simp (lt-ltb 65515 (length c.args.part.now) (omega arith))

pub returns : goal.returns
returns c =
    let known = c.shared_slice_known-1.given in
    let a = c.args in
    let l : List ℕ = a.part.now in
    simp (le-ltb 65515 (length l) (omega (arith, c.if-n-gt-IP_PAYLOAD.false)))
    (ap gives
    (c.finished.ensures
    ∙ ap (λ (k : ℕ). 65535 - canon (k + total [] + total l)) c.csum_partial.ensures
    ∙ transport_finished a.saddr a.daddr a.proto l (λ i. (known i).fits)))
