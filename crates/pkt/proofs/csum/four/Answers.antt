-- Four words, two and two.
use Rattle.std.proofs.Common.{◌≡◌, ℕ, ◌+◌, ap, ◌∙◌, ap₂, arith, rules}
use Rattle.pkt.specs.Rfc1071.{plus}
use Rattle.pkt.specs.Sums.{canon, four_words}
use Rattle.pkt.proofs.Checksum.{plus_small, plus_canons}
use Rattle.pkt.proofs.csum.four.Goals as goal

pub returns : goal.returns
returns c =
    let v₀ : ℕ = c.word.result in
    let v₁ : ℕ = c.word-2.result in
    let v₂ : ℕ = c.word-3.result in
    let v₃ : ℕ = c.word-4.result in
    let first : c.plus-first.result ≡ canon (v₀ + v₁) = c.plus-first.ensures ∙ plus_small v₀ v₁ (search rules) (search rules) in
    let second : c.plus-second.result ≡ canon (v₂ + v₃) = c.plus-second.ensures ∙ plus_small v₂ v₃ (search rules) (search rules) in
    let all : v₀ + v₁ + (v₂ + v₃) ≡ four_words c.args.p.now =
    omega (arith, c.word.ensures, c.word-2.ensures, c.word-3.ensures, c.word-4.ensures) in
    c.plus.ensures ∙ ap₂ plus first second ∙ plus_canons (v₀ + v₁) (v₂ + v₃) ∙ ap canon all
