-- Pieces as members of a list: contradiction goes both ways, a list has a member of a kind or none, and blocks.
use mathlib.Core.Path.{◌≡◌, refl, sym, subst}
use mathlib.Core.Logic.{◌↔◌, ◌⊎◌, inl, inr}
use mathlib.Core.List.Memᴰ
use mathlib.Core.List.{List, [], ◌∷◌, Memᴰ}
use Prim.Native.Nat.{ℕ, ◌*◌, ◌/◌, ◌≤◌, ◌<◌}
use native.Mathlib.Decide.{dec_le, dec_lt}
use native.Mathlib.Omega.{arith}
use Rattle.assembly.specs.Piece.{Piece, start, end, Holds, Contradict, differ, two_ends, more_after, after_more, Contradictory, Same}
use Rattle.pkt.proofs.Choice.{both}

pub Same·sym : {ps qs : List Piece} → Same ps qs → Same qs ps
Same·sym s = record { to = s.from; from = s.to }

pub Contradict·sym : {p q : Piece} → Contradict p q → Contradict q p
Contradict·sym (differ k hp hq ne) = differ k hq hp (λ e. ne (sym e))
Contradict·sym (two_ends mp mq ne) = two_ends mq mp (λ e. ne (sym e))
Contradict·sym (more_after mp mq le) = after_more mq mp le
Contradict·sym (after_more mp mq le) = more_after mq mp le

pub Contradict·irrefl : {p : Piece} → Contradict p p → ⊥
Contradict·irrefl (differ k hp hq ne) = ne refl
Contradict·irrefl (two_ends mp mq ne) = ne refl
Contradict·irrefl (more_after mp mq le) = both mp mq
Contradict·irrefl (after_more mp mq le) = both mq mp

pub Contradictory·same : {ps qs : List Piece} → Same ps qs → Contradictory ps → Contradictory qs
Contradictory·same s c = record { one = c.one; other = c.other; one_in = s.to c.one c.one_in; other_in = s.to c.other c.other_in; clash = c.clash }

-- some member has P, or none has
unfoldable pub SomeOf : (Piece → Type 0) → List Piece → Type 0
SomeOf P ps = (p : Piece) × Memᴰ p ps × P p

unfoldable pub NoneOf : (Piece → Type 0) → List Piece → Type 0
NoneOf P ps = (p : Piece) → Memᴰ p ps → P p → ⊥

pub all_cons : {P : Piece → Type 0} {p : Piece} {ps : List Piece} → P p → ((q : Piece) → Memᴰ q ps → P q) → (q : Piece) → Memᴰ q (p ∷ ps) → P q
all_cons {P} {p} {ps} h f q m = go (Memᴰ.cases_cons m)
  where
    go : (q ≡ p) ⊎ Memᴰ q ps → P q
    go (inl e) = subst P (sym e) h
    go (inr m) = f q m

pub any : {P : Piece → Type 0} → ((p : Piece) → Dec (P p)) → (ps : List Piece) → SomeOf P ps ⊎ NoneOf P ps
unfolding SomeOf NoneOf
any d [] = inr (λ p m h. Memᴰ.not-nil m)
any {P} d (p ∷ ps) = go (any d ps) (d p)
  where
    go : SomeOf P ps ⊎ NoneOf P ps → Dec (P p) → SomeOf P (p ∷ ps) ⊎ NoneOf P (p ∷ ps)
    go r (yes h) = inl (p, Memᴰ.head refl, h)
    go (inl s) (no n) = inl (s.0, Memᴰ.tail s.1, s.2)
    go (inr f) (no n) = inr (all_cons {P = λ q. P q → ⊥} n f)

pub holds? : (p : Piece) (k : ℕ) → Dec (Holds p k)
holds? p k = go (dec_le (start p) k) (dec_lt k (end p))
  where
    go : Dec (start p ≤ k) → Dec (k < end p) → Dec (Holds p k)
    go (yes a) (yes b) = yes (record { from = a; till = b })
    go (yes a) (no b) = no (λ h. b h.till)
    go (no a) b = no (λ h. a h.from)

-- a piece starts at a block: it has a byte in block b exactly if it holds place 8·b
pub in_block : (p : Piece) (b : ℕ) → ((k : ℕ) × Holds p k × (k / 8 ≡ b)) ↔ Holds p (8 * b)
in_block p b = (
  λ t. let h : Holds p t.0 = t.1 in let e : t.0 / 8 ≡ b = t.2 in record { from = omega arith; till = omega arith },
  λ h. (8 * b, h, omega arith),
)
