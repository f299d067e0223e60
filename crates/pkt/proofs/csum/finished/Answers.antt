-- The three sums fold alike, part by part, so their sum does.
use Rattle.std.proofs.Common.{◌≡◌, ℕ, ◌+◌, ◌-◌, refl, ap, ◌∙◌}
use Rattle.pkt.proofs.Checksum.{canon_both, canon_sum}
use Rattle.pkt.specs.Sums.{total, canon}
use Rattle.pkt.proofs.csum.finished.Goals as goal

pub returns : goal.returns
returns c =
    let a = c.args in
    let h : ℕ = c.ip_csum_partial.result in
    let p : ℕ = c.ip_csum_partial-2.result in
    let first : canon c.plus.result ≡ canon (a.before + total a.header.now) =
    ap canon c.plus.ensures ∙ canon_sum a.before h
    ∙ canon_both a.before a.before h (total a.header.now) refl c.ip_csum_partial.ensures in
    c.ip_csum_fold.ensures
    ∙ ap (λ (k : ℕ). 65535 - k)
    (ap canon c.plus-sum.ensures
    ∙ canon_sum c.plus.result p
    ∙ canon_both c.plus.result (a.before + total a.header.now) p (total a.payload.now) first c.ip_csum_partial-2.ensures)
