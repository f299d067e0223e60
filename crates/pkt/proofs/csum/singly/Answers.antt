-- What is summed and what is left always fold to the whole; at the end one octet or none is left.
use Rattle.std.proofs.Common.{◌≡◌, ℕ, ◌+◌, drop, refl, ap, ◌∙◌, zero-add, arith}
use Rattle.pkt.specs.Sums.{total, canon}
use Rattle.pkt.proofs.Checksum.{canon_plus, canon_sum, total_two, total_one, total_none}
use Rattle.pkt.proofs.csum.singly.Goals as goal

pub loop-i-init : goal.loop-i-init
loop-i-init c = (omega arith, refl, rw zero-add)

pub loop-i-preserved : goal.loop-i-preserved
loop-i-preserved c =
    let buf = c.args.buf.now in
    let i : ℕ = c.loop-i.i in
    let s : ℕ = c.loop-i.sum in
    let w : ℕ = c.word.result in
    let left : s + w + total (drop (i + 2) buf) ≡ s + total (drop i buf) = omega (arith, c.word.ensures, total_two buf i (omega arith)) in (
      omega arith,
      refl,
      ap (λ (k : ℕ). canon (k + total (drop (i + 2) buf))) c.plus-sum.ensures
          ∙ canon_plus s w (total (drop (i + 2) buf))
          ∙ ap canon left
          ∙ c.loop-i.invariant.2,
    )

pub returns-then-i-n : goal.returns-then-i-n
returns-then-i-n c =
    let buf = c.args.buf.now in
    let i : ℕ = c.loop-i.i in
    let s : ℕ = c.loop-i.sum in
    let w : ℕ = c.word-then-i-n.result in
    let left : s + w ≡ s + total (drop i buf) = omega (arith, c.word-then-i-n.ensures, total_one buf i (omega arith)) in
    ap canon c.plus-sum-then-i-n.ensures ∙ canon_sum s w ∙ ap canon left ∙ c.loop-i.invariant.2

pub returns-else-i-n : goal.returns-else-i-n
returns-else-i-n c =
    let buf = c.args.buf.now in
    let i : ℕ = c.loop-i.i in
    let s : ℕ = c.loop-i.sum in
    let left : s ≡ s + total (drop i buf) = omega (arith, total_none buf i (omega arith)) in
    ap canon left ∙ c.loop-i.invariant.2
