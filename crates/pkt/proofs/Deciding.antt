-- Laws of decisions that refuse under a test.
use Rattle.std.proofs.Common.{◌≡◌, ℕ, ◌≤◌, Bool, true, false, cond, ltb, refl, ap, ◌∙◌, arith, ltb-false, le-ltb}
use Rattle.std.specs.Prelude.{Result, Ok, Err}
use Rattle.pkt.specs.Answers.{Answer, refused, gives, says, summed, unless_long}
use Rattle.pkt.specs.declared.refusal.Refusal.{Refusal}

-- One test of a decision: where the whole gives something, the test did not refuse,
pub past : {A : Type 0} (t : Bool) (x : ℕ) (rest : Answer A) (a : A) → cond t (refused x) rest ≡ gives a → (t ≡ false) × (rest ≡ gives a)
past true x rest a e = let z : ◌≡◌ {A = ℕ} 0 1 = cc in absurd (omega arith)
past false x rest a e = (refl, e)

-- and one that gives where it holds did hold.
pub held : {A : Type 0} (t : Bool) (x : ℕ) (b a : A) → cond t (gives b) (refused x) ≡ gives a → (t ≡ true) × (b ≡ a)
held true x b a e = (refl, cc)
held false x b a e = let z : ◌≡◌ {A = ℕ} 0 1 = cc in absurd (omega arith)

-- A bound that was not passed.
pub bounded : {A : Type 0} (a b x : ℕ) (k : A) (rest : Answer A) → cond (ltb a b) (refused x) rest ≡ gives k → (b ≤ a) × (rest ≡ gives k)
bounded a b x k rest e = let t = past (ltb a b) x rest k e in (ltb-false a b t.0, t.1)

-- A checksum of few enough bytes is not refused.
pub summed_is : (s : Result ℕ Refusal) (most n c : ℕ) → says s ≡ unless_long most n c → n ≤ most → summed s ≡ c
summed_is s most n c e h = go s (e ∙ ap (λ (b : Bool). cond b (refused 1) (gives c)) (le-ltb most n h))
  where
    go : (s : Result ℕ Refusal) → says s ≡ gives c → summed s ≡ c
    go (Ok x) q = cc
    go (Err x) q = let z : ◌≡◌ {A = ℕ} 0 1 = cc in absurd (omega arith)
