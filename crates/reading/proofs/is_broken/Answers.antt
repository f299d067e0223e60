-- Where the two tests before let it through, the last is the definition's.
use Rattle.std.proofs.Common.{◌≡◌, ℕ, List, length, drop, sym, ◌∙◌, arith, length-drop}
use Rattle.pcap.specs.Read.{number}
use Rattle.reading.proofs.Numbers.{number_behind}
use Rattle.reading.proofs.Broken.{broken_test}
use Rattle.reading.proofs.is_broken.Goals as goal

pub returns : goal.returns
returns c =
    let a = c.args in
    let l : List ℕ = a.s.now in
    let d : length (drop a.at l) ≡ c.saturating_sub-left.result = omega (arith, length-drop a.at l) in
    let n : number 4 8 (drop a.at l) ≡ c.le32-len.result = number_behind 4 8 a.at l ∙ sym c.le32-len.ensures in
    simp (broken_test (drop a.at l) (omega arith) (omega arith), d, n)
