-- Laws of the check's answer.
use mathlib.Core.Path.{◌≡◌, refl, ap, ◌∙◌}
use mathlib.Core.Bool.{Bool, true, false, not, ◌||◌, cond}
use Prim.Native.Nat.{ℕ, ◌-◌, ◌≤◌}
use native.Mathlib.Omega.{arith}
use mathlib.Core.List.{List, ◌++◌}
use lib.ListN.{length, take}
use lib.Dec.{ltb, eqb}
use borrow.Author.Tests.{ltb-false}
use Rattle.pkt.specs.Answers.{Answer, refused, gives, and_then}
use Rattle.inspect.specs.Header.{field_at, length_field, read_answer, data_of}
use Rattle.inspect.specs.Check.{is_cut, part_answer, check_answer}
use Rattle.inspect.specs.declared.header.IpRead.{IpRead}
use Rattle.pkt.proofs.Choice.{or_no}
use Rattle.inspect.proofs.Numbers.{part_front}
use Rattle.inspect.proofs.Reading.{read_framed, read_total, read_front}

-- A part that is not cut has 8 bytes.
pub not_cut : (p : ℕ) (d : List ℕ) → is_cut p d ≡ false → 8 ≤ length d
not_cut p d e = go (eqb p 6) (eqb p 17) e
  where
    go : (t u : Bool)
        → cond t (ltb (length d) 20 || not (eqb (field_at d 12 1) 0x50)) (cond u (ltb (length d) 8 || not (eqb (field_at d 4 2) (length d))) (ltb (length d) 8)) ≡ false
        → 8 ≤ length d
    go true u q = let h = ltb-false (length d) 20 (or_no (ltb (length d) 20) _ q).0 in omega arith
    go false true q = ltb-false (length d) 8 (or_no (ltb (length d) 8) _ q).0
    go false false q = ltb-false (length d) 8 q

-- The check's answer is that of the first bytes, as many as the total length says, whatever is behind them.
pub check_front : (l r : List ℕ) → 20 ≤ length_field l → length_field l ≤ length l → check_answer (take (length_field l) l ++ r) ≡ check_answer l
unfolding check_answer
check_front l r long there = ap (λ (a : Answer IpRead). and_then a (λ h. part_answer h (data_of h m))) (read_front l r long there) ∙ go (read_answer l) refl
  where
    m : List ℕ
    m = take (length_field l) l ++ r

    go : (a : Answer IpRead) → read_answer l ≡ a → and_then a (λ h. part_answer h (data_of h m)) ≡ and_then a (λ h. part_answer h (data_of h l))
    go (refused n) e = refl
    go (gives h) e =
        let f = read_framed l h e in
        ap (part_answer h) (part_front h.start (h.end - h.start) (length_field l) l r (omega (arith, read_total l h e)) there)
