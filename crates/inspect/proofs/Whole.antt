-- Bytes verify exactly if their checksum is 0.
use mathlib.Core.Path.{◌≡◌, ap, ◌∙◌}
use mathlib.Core.Bool.{Bool, cond}
use Prim.Native.Nat.{ℕ, ◌-◌, ◌≤◌}
use native.Mathlib.Omega.{arith}
use mathlib.Core.List.{List, ◌++◌}
use lib.Dec.{eqb}
use borrow.Author.Tests.{le-ltb}
use Rattle.std.specs.Prelude.{Result, Ok, Err}
use Rattle.pkt.specs.Answers.{refused, gives, says, unless_long}
use Rattle.pkt.specs.Rfc1071.{words, sum, checksum, verifies}
use Rattle.pkt.specs.Rfc768.{pseudo, pseudo_fields}
use Rattle.pkt.specs.Sums.{total}
use Rattle.pkt.specs.declared.refusal.Refusal.{Refusal}
use Rattle.pkt.proofs.Bytes.{bytes_append}
use Rattle.pkt.specs.Fields.{Bytes}
use Rattle.pkt.proofs.Fields.{fields_bytes}
use Rattle.pkt.proofs.Checksum.{sum_total, canon_most}
use Rattle.inspect.specs.Header.{is_zero}
use Rattle.pkt.proofs.Choice.{same_test}

sum_most : (l : List ℕ) → Bytes l → sum (words l) ≤ 65535
sum_most l h = rw (sum_total l h) (canon_most (total l))

zero_whole : (l : List ℕ) → Bytes l → eqb (checksum l) 0 ≡ verifies l
unfolding checksum
zero_whole l h =
    same_test (65535 - sum (words l)) 0 (sum (words l)) 65535 (λ e. omega (arith, sum_most l h)) (λ e. omega arith)

-- What a checksum that was not refused tells of the bytes l that it was taken of.
pub zero_sum : (s : Result ℕ Refusal) (most n : ℕ) (l : List ℕ) → Bytes l → n ≤ most → says s ≡ unless_long most n (checksum l) → is_zero s ≡ verifies l
zero_sum s most n l b h e = go s (e ∙ ap (λ (t : Bool). cond t (refused 1) (gives (checksum l))) (le-ltb most n h))
  where
    go : (s : Result ℕ Refusal) → says s ≡ gives (checksum l) → is_zero s ≡ verifies l
    go (Ok x) q = let x-is : x ≡ checksum l = cc in ap (λ (k : ℕ). eqb k 0) x-is ∙ zero_whole l b
    go (Err x) q = let z : ◌≡◌ {A = ℕ} 0 1 = cc in absurd (omega arith)

-- A transport part behind its pseudo header is bytes.
pub behind_pseudo_lem : (s d p n : ℕ) (l : List ℕ) → Bytes l → Bytes (pseudo s d p n ++ l)
unfolding pseudo
behind_pseudo_lem s d p n l b = bytes_append (pseudo s d p n) l (fields_bytes (pseudo_fields s d p n)) b
