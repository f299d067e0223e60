-- What every transport needs of the part behind the header: a change of the packet there is one of the part, and the check is that of the part.
use mathlib.Core.Path.{◌≡◌, sym, ap, ◌∙◌, subst}
use mathlib.Core.Logic.{◌↔◌}
use mathlib.Core.Bool.{Bool, true, false, cond}
use mathlib.Core.List.{List, [], ◌++◌, append-nil}
use Prim.Native.Nat.{ℕ, ◌+◌, ◌-◌, ◌≤◌}
use native.Mathlib.Omega.{arith}
use lib.ListN.{length, get_or, set, length-append}
use lib.Seq.{drop_at, get_or-drop}
use Rattle.pkt.specs.Answers.{refused, gives}
use Rattle.pkt.specs.Rfc791.{ip_header}
use Rattle.pkt.proofs.Choice.{pick_no}
use Rattle.pkt.proofs.Deciding.{past, held}
use Rattle.pkt.proofs.Headers.{ip_length}
use Rattle.inspect.specs.declared.check.Verdict.TheVariants.{Good}
use Rattle.inspect.specs.Header.{field_at}
use Rattle.inspect.specs.Check.{unless_bad, part_answer, check_answer}
use Rattle.inspect.specs.Encoded.{read_of}
use Rattle.inspect.proofs.Decoding.{check_encoded}
use Rattle.mending.specs.Sums.{renewed}
use Rattle.mending.proofs.Renewed.{set_behind, renewed_behind, field_drop}
use Rattle.demands.specs.Options.{Parts}
use Rattle.demands.specs.WrongWord.{WordChange, LastChange, Turned, GoodIfTurned, LastSeen}

-- Where a part that may be cut is good, its sum verified.
pub good_uncut : (c v : Bool) → cond c (refused 14) (unless_bad v) ≡ gives Good → v ≡ true
good_uncut c v e = (held v 15 Good Good (past c 14 (unless_bad v) Good e).1).0

-- ---- a packet: a header and its data part

module _ (y : Parts) where
  abbrev packet : List ℕ
  packet = ip_header y.header ++ y.part

  -- Another part as long is checked behind the same header.
  pub check_in : (read_of y.header).evil ≡ false → (d : List ℕ) → length d ≡ length y.part
      → check_answer (ip_header y.header ++ d) ≡ part_answer (read_of y.header) d
  check_in clear d e =
      ap (λ (l : List ℕ). check_answer (ip_header y.header ++ l)) (sym (append-nil d))
      ∙ check_encoded y.header d [] y.fits (y.total ∙ ap (λ (n : ℕ). 20 + n) (sym e))
      ∙ pick_no (refused 18) (part_answer (read_of y.header) d) clear

  -- A packet is 20 bytes longer than its part.
  size_in : length packet ≡ 20 + length y.part
  size_in = length-append (ip_header y.header) y.part ∙ ap (λ (n : ℕ). n + length y.part) (ip_length y.header)

  -- ---- a word behind the header

  -- It is a word of the part,
  field_in : (j : ℕ) → field_at packet (20 + j) 2 ≡ field_at y.part j 2
  field_in j =
      sym (field_drop j 2 20 packet) ∙ ap (λ (l : List ℕ). field_at l j 2) (drop_at (ip_header y.header) y.part 20 (ip_length y.header))

  -- and changed in the packet it is changed in the part.
  pub word_in : (j x : ℕ) → renewed (20 + j) x packet ≡ ip_header y.header ++ renewed j x y.part
  word_in j x = ap (λ (n : ℕ). renewed (n + j) x packet) (sym (ip_length y.header)) ∙ renewed_behind (ip_header y.header) y.part j x

  -- Another number in the packet is another one in the part.
  pub change_in : (j x : ℕ) → WordChange packet (20 + j) x → WordChange y.part j x
  change_in j x ch =
      record {
        even = omega (arith, ch.even);
        within = omega (arith, ch.within, size_in);
        number = ch.number;
        another = λ q. ch.another (field_in j ∙ q);
      }

  -- What is shown of a changed word of the part is so of the packet's.
  pub lifted : (i x : ℕ) → 20 ≤ i → WordChange packet i x
      → ((j : ℕ) → i ≡ 20 + j → WordChange y.part j x
      → (check_answer (ip_header y.header ++ renewed j x y.part) ≡ gives Good) ↔ Turned (field_at y.part j 2) x)
      → GoodIfTurned packet i x
  lifted i x low ch f =
      let j : ℕ = i - 20 in
      let e : i ≡ 20 + j = omega arith in
      let there : field_at packet i 2 ≡ field_at y.part j 2 = ap (λ (n : ℕ). field_at packet n 2) e ∙ field_in j in
      let word = ap (λ (n : ℕ). check_answer (renewed n x packet)) e ∙ ap check_answer (word_in j x) in
      let (only, turned) = f j e (change_in j x (subst (λ (n : ℕ). WordChange packet n x) e ch)) in
      (λ g. subst (λ (w : ℕ). Turned w x) (sym there) (only (sym word ∙ g)), λ q. word ∙ turned (subst (λ (w : ℕ). Turned w x) there q))

  -- ---- the odd last byte

  -- Changed in the packet it is changed in the part.
  last_in : (k b : ℕ) → set packet (20 + k) b ≡ ip_header y.header ++ set y.part k b
  last_in k b = ap (λ (n : ℕ). set packet (n + k) b) (sym (ip_length y.header)) ∙ set_behind (ip_header y.header) y.part k b

  -- Where it is seen in a part that is not empty, it is seen in the packet.
  pub lifted_last : (b : ℕ) → 1 ≤ length y.part → LastChange packet b
      → (LastChange y.part b → check_answer (ip_header y.header ++ set y.part (length y.part - 1) b) ≡ refused 15)
      → LastSeen packet b
  lifted_last b some ch f =
      let k : ℕ = length y.part - 1 in
      let e : length packet - 1 ≡ 20 + k = omega (arith, size_in) in
      let there : get_or packet (length packet - 1) 0 ≡ get_or y.part k 0 =
      ap (λ (n : ℕ). get_or packet n 0) e
      ∙ sym (get_or-drop 20 packet k 0)
      ∙ ap (λ (m : List ℕ). get_or m k 0) (drop_at (ip_header y.header) y.part 20 (ip_length y.header)) in
      ap (λ (n : ℕ). check_answer (set packet n b)) e
      ∙ ap check_answer (last_in k b)
      ∙ f (record { odd = omega (arith, ch.odd, size_in); number = ch.number; another = λ q. ch.another (there ∙ q) })
