-- The tests that led there pick the record, and each of its numbers is read where it stands.
use Rattle.std.proofs.Common.{◌≡◌, ℕ, length, drop, sym, ap, ◌∙◌, arith, length-drop, le-ltb, ne_eqb}
use Rattle.pcap.specs.Read.{number, record_at}
use Rattle.reading.proofs.Numbers.{number_behind}
use Rattle.reading.proofs.step_at.Goals as goal

pub returns : goal.returns
unfolding record_at
returns c =
    let a = c.args in
    let d = length-drop a.at a.s.now in
    let more = ne_eqb (length (drop a.at a.s.now)) 0 (λ (z : length (drop a.at a.s.now) ≡ 0). omega arith) in
    let sec : c.le32.result ≡ number 4 0 (drop a.at a.s.now) = c.le32.ensures ∙ ap (λ (i : ℕ). number 4 i a.s.now) (omega arith) ∙ sym (number_behind 4 0 a.at a.s.now) in
    let usec = c.le32-2.ensures ∙ sym (number_behind 4 4 a.at a.s.now) in
    let len = c.le32-3.ensures ∙ sym (number_behind 4 8 a.at a.s.now) in
    let original = c.le32-4.ensures ∙ sym (number_behind 4 12 a.at a.s.now) in
    simp (le-ltb _ _ c.if-at-lt24.false, more, sym c.is_broken.ensures ∙ c.if-is_broken.false, sec, usec, len, original)
