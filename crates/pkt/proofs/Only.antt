-- One outcome: what an answer says determines it, and a promise leaves one answer and one state of all that was lent.
use Rattle.std.proofs.Common.{◌≡◌, ℕ, List, [], ◌∷◌, ◌==◌, cond, sym, refl, ap, ◌∙◌}
use Rattle.std.specs.Prelude.{Result, Ok, Err}
use Rattle.pkt.specs.Answers.{Answer, refused, gives, says, ListAnswer, refused_whole, refused_at, gives_all, list_says}
use Rattle.pkt.specs.Refusal.{number_of}
use Rattle.pkt.specs.Written.{Promise}
use Rattle.pkt.specs.declared.refusal.ListRefusal.{ListRefusal}
use Rattle.pkt.specs.declared.refusal.ListRefusal.TheVariants.{Whole, At}
use Rattle.pkt.specs.declared.refusal.Refusal.{Refusal}
use Rattle.pkt.specs.declared.refusal.Refusal.TheVariants.{
  TooLong,
  BadOffset,
  NoRoom,
  Short,
  NotIpv4,
  BadTotal,
  BadHeader,
  WrongKey,
  NotBlocks,
  TooFar,
  BadAssembly,
  OtherProtocol,
  Piece,
  Cut,
  BadSum,
  BadPart,
  BadTime,
  Reserved,
  Full,
  TooFarForSlot,
  NoPlan,
  NoChecksum,
  NotCapture,
  BadLink,
  Broken,
  TooMany,
  NoDatagram,
}

-- Where an answer can be made again from what it says, two that say the same are the same.
pub told_once : {A B : Type 0} (says : A → B) (back : B → A) → ((a : A) → back (says a) ≡ a)
    → (r s : A) (x : B) → says r ≡ x → says s ≡ x → r ≡ s
told_once says back is r s x p q = sym (is r) ∙ ap back (p ∙ sym q) ∙ is s

-- An equation leaves one answer.
pub equation_only : {A : Type 0} (a r s : A) → r ≡ a → s ≡ a → r ≡ s
equation_only a r s p q = p ∙ sym q

-- A promise leaves one answer, where what is said determines it, and one state of all that was lent.
pub promise_only : {R A B : Type 0} (says : R → A) → ((r s : R) (a : A) → says r ≡ a → says s ≡ a → r ≡ s)
    → (a : A) (x : B) (r s : R) (o₁ o₂ : B) → Promise says a x r o₁ → Promise says a x s o₂ → (r ≡ s) × (o₁ ≡ o₂)
promise_only says one a x r s o₁ o₂ p q = (one r s a p.answer q.answer, p.after ∙ sym q.after)

-- A refusal can be told by its number.
refusal_in : List Refusal → ℕ → Refusal
refusal_in [] n = TooLong
refusal_in (e ∷ es) n = cond (number_of e == n) e (refusal_in es n)

refusal_of : ℕ → Refusal
refusal_of n =
    refusal_in (TooLong ∷ BadOffset ∷ NoRoom ∷ Short ∷ NotIpv4 ∷ BadTotal ∷ BadHeader ∷ WrongKey ∷ NotBlocks ∷ TooFar ∷ BadAssembly ∷ OtherProtocol ∷ Piece ∷ Cut ∷ BadSum ∷ BadPart ∷ BadTime ∷ Reserved ∷ Full ∷ TooFarForSlot ∷ NoPlan ∷ NoChecksum ∷ NotCapture ∷ BadLink ∷ Broken ∷ TooMany ∷ NoDatagram ∷ []) n

refusal_told : (e : Refusal) → refusal_of (number_of e) ≡ e
unfolding refusal_of refusal_in
refusal_told TooLong = refl
refusal_told BadOffset = refl
refusal_told NoRoom = refl
refusal_told Short = refl
refusal_told NotIpv4 = refl
refusal_told BadTotal = refl
refusal_told BadHeader = refl
refusal_told WrongKey = refl
refusal_told NotBlocks = refl
refusal_told TooFar = refl
refusal_told BadAssembly = refl
refusal_told OtherProtocol = refl
refusal_told Piece = refl
refusal_told Cut = refl
refusal_told BadSum = refl
refusal_told BadPart = refl
refusal_told BadTime = refl
refusal_told Reserved = refl
refusal_told Full = refl
refusal_told TooFarForSlot = refl
refusal_told NoPlan = refl
refusal_told NoChecksum = refl
refusal_told NotCapture = refl
refusal_told BadLink = refl
refusal_told Broken = refl
refusal_told TooMany = refl
refusal_told NoDatagram = refl

-- Two results that say the same are the same,
result_of : {A : Type 0} → Answer A → Result A Refusal
result_of (gives a) = Ok a
result_of (refused n) = Err (refusal_of n)

result_told : {A : Type 0} (r : Result A Refusal) → result_of (says r) ≡ r
unfolding result_of
result_told (Ok a) = refl
result_told (Err e) = ap Err (refusal_told e)

pub says_only : {A : Type 0} (r s : Result A Refusal) (a : Answer A) → says r ≡ a → says s ≡ a → r ≡ s
says_only r s a p q = told_once says result_of result_told r s a p q

-- and so are two of a call over a list.
list_result_of : {A : Type 0} → ListAnswer A → Result A ListRefusal
list_result_of (gives_all a) = Ok a
list_result_of (refused_whole n) = Err (Whole (refusal_of n))
list_result_of (refused_at n i) = Err (At (refusal_of n) i)

list_result_told : {A : Type 0} (r : Result A ListRefusal) → list_result_of (list_says r) ≡ r
unfolding list_result_of
list_result_told (Ok a) = refl
list_result_told (Err (Whole e)) = ap (λ (f : Refusal). Err (Whole f)) (refusal_told e)
list_result_told (Err (At e i)) = ap (λ (f : Refusal). Err (At f i)) (refusal_told e)

pub list_says_only : {A : Type 0} (r s : Result A ListRefusal) (a : ListAnswer A) → list_says r ≡ a → list_says s ≡ a → r ≡ s
list_says_only r s a p q = told_once list_says list_result_of list_result_told r s a p q
