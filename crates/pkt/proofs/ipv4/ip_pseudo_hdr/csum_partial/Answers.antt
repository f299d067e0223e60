-- An address is two words, and the rest are words already.
use Rattle.std.proofs.Common.{◌≡◌, ℕ, ◌+◌, ◌/◌, ◌%◌, ap, ◌∙◌, ap₂, arith, rules}
use Rattle.pkt.specs.Rfc1071.{plus}
use Rattle.pkt.specs.Rfc768.{pseudo}
use Rattle.pkt.specs.Sums.{total, canon}
use Rattle.pkt.proofs.Checksum.{plus_small, plus_canons}
use Rattle.pkt.proofs.Headers.{pseudo_total}
use Rattle.pkt.proofs.ipv4.ip_pseudo_hdr.csum_partial.Goals as goal

pub returns : goal.returns
returns c =
    let h = c.args.self in
    let s : ℕ = h.src / 65536 + h.src % 65536 in
    let d : ℕ = h.dst / 65536 + h.dst % 65536 in
    let both : c.plus-addresses.result ≡ canon (s + d) =
    c.plus-addresses.ensures ∙ ap₂ plus c.address.ensures c.address-2.ensures ∙ plus_canons s d in
    let rest : c.plus.result ≡ canon (h.proto + h.len) =
    c.plus.ensures ∙ plus_small h.proto h.len (search rules) (search rules) in
    let all : s + d + (h.proto + h.len) ≡ total (pseudo h.src h.dst h.proto h.len) =
    omega (arith, pseudo_total h.src h.dst h.proto h.len (search rules) (search rules) (search rules) (search rules)) in
    c.plus-2.ensures ∙ ap₂ plus both rest ∙ plus_canons (s + d) (h.proto + h.len) ∙ ap canon all
