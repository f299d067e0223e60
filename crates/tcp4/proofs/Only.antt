-- One answer: what an answer says determines it.
use Rattle.std.proofs.Common.{◌≡◌, ℕ, List, [], ◌∷◌, refl, ap, ◌∙◌}
use Rattle.std.specs.Prelude.{Result, Ok, Err}
use Rattle.pkt.specs.Answers.{Answer, mapped, says}
use Rattle.pkt.specs.declared.refusal.Refusal.{Refusal}
use Rattle.pkt.proofs.Only.{says_only}
use Rattle.tcp4.specs.Tcp4.{Gone, sent_says}
use Rattle.tcp4.specs.declared.TcpFlow.{TcpFlow}
use Rattle.tcp4.specs.declared.Sent.{Sent}
use Rattle.tcp4.specs.declared.Sent.TheVariants.{One, Two, Three}

-- the packets with these ends; there are one, two or three
sent_with : TcpFlow → List ℕ → Sent
sent_with f [] = One f 0
sent_with f (a ∷ []) = One f a
sent_with f (a ∷ b ∷ []) = Two f a b
sent_with f (a ∷ b ∷ c ∷ r) = Three f a b c

sent_of : Answer Gone → Answer Sent
sent_of a = mapped (λ (g : Gone). sent_with g.flow g.ends) a

sent_of_says : (r : Result Sent Refusal) → says r ≡ sent_of (sent_says r)
unfolding sent_of sent_with
sent_of_says (Ok (One f a)) = refl
sent_of_says (Ok (Two f a b)) = refl
sent_of_says (Ok (Three f a b c)) = refl
sent_of_says (Err e) = refl

pub sent_only : (r s : Result Sent Refusal) (a : Answer Gone) → sent_says r ≡ a → sent_says s ≡ a → r ≡ s
sent_only r s a p q = says_only r s (sent_of a) (sent_of_says r ∙ ap sent_of p) (sent_of_says s ∙ ap sent_of q)
