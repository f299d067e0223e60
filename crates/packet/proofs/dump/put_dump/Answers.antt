-- The length, the title and the lines are written each behind those before.
use mathlib.Core.Path.{◌≡◌, refl, ap, ◌∙◌}
use Prim.Native.Nat.{ℕ, ◌+◌, ◌/◌}
use native.Mathlib.Omega.{arith}
use mathlib.Core.List.{List, ◌++◌, append_assoc}
use lib.ListN.{length, length-append}
use Rattle.pkt.specs.Written.{written}
use Rattle.pkt.proofs.Written.{copy_written, written_behind}
use Rattle.packet.specs.Dump.{numeral, digits_of, decimal, title, lines, dump_bytes}
use Rattle.packet.proofs.HexDump.{numeral_length}
use Rattle.packet.proofs.dump.put_dump.Goals as goal

pub returns : goal.returns
unfolding dump_bytes decimal
returns c =
    let a = c.args in
    let b : List ℕ = a.l.now in
    let o : List ℕ = a.out.now in
    let k : ℕ = c.digits-k.result in
    let num : List ℕ = numeral 10 k (length b) in
    let len = numeral_length 10 k (length b) in
    let e : k ≡ digits_of (length b) = c.digits-k.ensures.0 in
    let two = written_behind num _ title o _ _ k len c.put_number.ensures refl (c.copy.ensures ∙ copy_written _ _ (omega arith)) in
    let three = written_behind (num ++ title) _ _ o _ _ (k + 14) (omega (arith, length-append num title)) two refl c.put_lines.ensures in
    three ∙ ap (λ (x : List ℕ). written x o) (append_assoc num title _ ∙ ap (λ (n : ℕ). numeral 10 n (length b) ++ (title ++ lines ((length b + 15) / 16) a.pos b)) e)
