-- What is summed and what is left always fold to the whole.
use Rattle.std.proofs.Common.{◌≡◌, ℕ, ◌+◌, List, drop, refl, ap, ◌∙◌, zero-add, arith}
use Rattle.pkt.specs.Sums.{total, canon, four_words}
use Rattle.pkt.proofs.Parts.{mid_tail, mid_length}
use Rattle.pkt.proofs.Checksum.{canon_both, canon_plus, canon_sum, canon_twice, four_step}
use Rattle.pkt.proofs.csum.ip_csum_partial.Goals as goal

pub loop-i-init : goal.loop-i-init
loop-i-init c = (omega arith, refl, rw zero-add)

pub four-requires : goal.four-requires
four-requires c =
    omega (arith, mid_length c.loop-i.i c.args.buf.now)

pub loop-i-preserved : goal.loop-i-preserved
loop-i-preserved c =
    let buf = c.args.buf.now in
    let i : ℕ = c.loop-i.i in
    let s : ℕ = c.loop-i.sum in
    let f : ℕ = c.four.result in
    let r : ℕ = total (drop (i + 8) buf) in
    let is : f ≡ canon (four_words (drop i buf)) = c.four.ensures ∙ ap (λ (l : List ℕ). canon (four_words l)) (mid_tail i buf) in
    let folds : canon (s + f + r) ≡ canon (s + four_words (drop i buf) + r) =
    canon_both (s + f) (s + four_words (drop i buf)) r r
    (canon_both s s f (four_words (drop i buf)) refl (ap canon is ∙ canon_twice (four_words (drop i buf)))) refl in
    let left : s + four_words (drop i buf) + r ≡ s + total (drop i buf) = omega (arith, four_step buf i (omega arith)) in (
      omega arith,
      refl,
      ap (λ (k : ℕ). canon (k + r)) c.plus-sum.ensures ∙ canon_plus s f r ∙ folds ∙ ap canon left ∙ c.loop-i.invariant.2,
    )

pub singly-requires : goal.singly-requires
singly-requires c =
    omega (arith, mid_length c.loop-i.i c.args.buf.now)

pub returns : goal.returns
returns c =
    let buf = c.args.buf.now in
    let i : ℕ = c.loop-i.i in
    let s : ℕ = c.loop-i.sum in
    let f : ℕ = c.singly.result in
    let is : canon f ≡ canon (total (drop i buf)) = c.singly.ensures ∙ ap (λ (l : List ℕ). canon (total l)) (mid_tail i buf) in
    ap canon c.plus.ensures ∙ canon_sum s f ∙ canon_both s s f (total (drop i buf)) refl is ∙ c.loop-i.invariant.2
