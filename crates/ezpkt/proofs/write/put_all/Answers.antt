-- Each part stands behind those before it.
use Rattle.pkt.proofs.Written.{written_behind}
use Rattle.pkt.specs.Written.{written}
use Rattle.std.proofs.Common.{◌≡◌, ℕ, ◌+◌, List, ◌++◌, length, refl, ap, ◌∙◌, append_assoc, length-append, rules}
use Rattle.ezpkt.proofs.write.put_all.Goals as goal

pub returns : goal.returns
returns c =
    let a = c.args in
    let ip : List ℕ = a.ip.now in
    let head : List ℕ = a.head.now in
    let o : List ℕ = a.out.now in
    let twenty : length ip ≡ 20 = search rules in
    let both : length (ip ++ head) ≡ 20 + length head = simp (length-append, twenty) in
    let two = written_behind ip _ head o _ _ 20 twenty c.put.ensures refl c.put-2.ensures in
    written_behind (ip ++ head) _ a.payload.now o _ _ (20 + length head) both two refl c.put-3.ensures
    ∙ ap (λ (l : List ℕ). written l o) (append_assoc ip head a.payload.now)
