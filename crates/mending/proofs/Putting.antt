-- Fields that are put one by one: each is put as it is listed, and what is put behind others is put with them.
use mathlib.Core.Path.{◌≡◌, refl, sym, ap, ap₂, subst, ◌∙◌}
use Prim.Native.Nat.{ℕ, suc, ◌+◌, ◌-◌, ◌^◌, ◌<◌}
use native.Mathlib.Omega.{arith}
use mathlib.Core.List.{List, [], ◌∷◌, ◌++◌}
use lib.ListN.{length, take, drop, set, length-drop}
use lib.Seq.{sets, length-take-le}
use borrow.Author.Tests.{eq-eqb, ne_eqb}
use Rattle.pkt.specs.Fields.{Bytes}
use Rattle.inspect.proofs.Numbers.{take_bytes, drop_bytes}
use Rattle.reading.specs.Reading.{packet_at}
use Rattle.reading.specs.declared.Spot.{Spot}
use Rattle.mending.specs.Sums.{renewed, sums_in}
use Rattle.mending.specs.Packets.{AllWithin}
use Rattle.mending.specs.Mend.{Listed, listed, change_of, put_sums, changes_of}
use Rattle.mending.specs.Pass.{Put, SumsAsk, PutAsks}
use Rattle.mending.specs.declared.sums.SumField.{SumField}
use Rattle.mending.proofs.Changes.{changed_no, changed_yes, changes_append, changes_few, changes_count, sets_append}
use Rattle.mending.proofs.Packets.{packets_mended}
use Rattle.mending.proofs.Passing.{sums_few}
use Rattle.mending.proofs.Placing.{put_append}

-- ---- what is put

pub put_none : (c : ℕ) (o : List ℕ) (e : List (List ℕ)) → Put [] c o e c o e
unfolding put_sums changes_of
put_none c o e = record { count = omega arith; output = refl; rows = refl }

module _ (k which start : ℕ) (f : SumField) (c : ℕ) (o o' : List ℕ) (e : List (List ℕ)) (out : o' ≡ renewed (start + f.at) f.new o) where
  abbrev s : Listed
  s = record { number = k; which = which; at = start + f.at; old = f.old; new = f.new }

  -- a number that was there
  pub put_same : f.old ≡ f.new → Put (listed k which start (f ∷ [])) c o e c o' e
  unfolding put_sums changes_of
  put_same h =
      let none : changes_of (s ∷ []) ≡ [] = changed_no s [] (eq-eqb f.old f.new h) in
      record { count = omega (arith, ap length none); output = out; rows = ap (sets e c) (sym none) }

  -- one that was not, and the change behind the others
  pub put_changed : (e' : List (List ℕ)) → (f.old ≡ f.new → ⊥) → e' ≡ set e c (k ∷ which ∷ f.old ∷ f.new ∷ []) → Put (listed k which start (f ∷ [])) c o e (c + 1) o' e'
  unfolding put_sums changes_of
  put_changed e' h row =
      let one : changes_of (s ∷ []) ≡ change_of s ∷ [] = changed_yes s [] (ne_eqb f.old f.new h) in
      record { count = omega (arith, ap length one); output = out; rows = row ∙ ap (sets e c) (sym one) }

-- fields, and others behind them
pub put_both : (ss ts : List Listed) (c c₁ c₂ : ℕ) (o o₁ o₂ : List ℕ) (e e₁ e₂ : List (List ℕ)) → Put ss c o e c₁ o₁ e₁ → Put ts c₁ o₁ e₁ c₂ o₂ e₂
    → Put (ss ++ ts) c o e c₂ o₂ e₂
put_both ss ts c c₁ c₂ o o₁ o₂ e e₁ e₂ p q =
    record {
      count = omega (arith, p.count, q.count, changes_count ss ts);
      output = q.output ∙ ap (put_sums ts) p.output ∙ sym (put_append ss ts o);
      rows = q.rows
          ∙ ap₂ (λ (a : List (List ℕ)) (j : ℕ). sets a j (changes_of ts)) p.rows p.count
          ∙ sym (sets_append c (changes_of ss) (changes_of ts) e)
          ∙ ap (sets e c) (sym (changes_append ss ts));
    }

-- ---- what is asked

-- Fields within a packet that lies below 2 ^ 64 may be put, where there are few changes before them.
pub sums_ask : (fs : List SumField) (p : List ℕ) (start c : ℕ) → AllWithin fs p → start + length p < 2 ^ 64 → c + length fs < 2 ^ 64 → SumsAsk fs start c
unfolding SumsAsk AllWithin
sums_ask [] p start c w h few = tt
sums_ask (f ∷ fs) p start c w h few =
    (omega (arith, w.0), omega arith, sums_ask fs p start (suc c) w.2 h (omega arith))

-- the packet that a step found, as it is lent
pub lent_packet : (l : List ℕ) (s : Spot) → take (s.start + s.len - s.start) (drop s.start l) ≡ packet_at l s
lent_packet l s = let e : s.start + s.len - s.start ≡ s.len = omega arith in ap (λ (n : ℕ). take n (drop s.start l)) e

-- Its fields may be put.
pub found_asks : (l : List ℕ) (s : Spot) (c : ℕ) (fs : List SumField) → Bytes l → length l < 2 ^ 64 → PutAsks l s c → fs ≡ sums_in (packet_at l s)
    → SumsAsk fs s.start c
found_asks l s c fs b fits asks e =
    let p : List ℕ = packet_at l s in
    let size : length p ≡ s.len = length-take-le s.len (drop s.start l) (omega (arith, length-drop s.start l, asks.within)) in
    subst (λ (xs : List SumField). SumsAsk xs s.start c) (sym e)
    (sums_ask (sums_in p) p s.start c (packets_mended.within p (take_bytes s.len (drop s.start l) (drop_bytes s.start l b)))
    (omega (arith, asks.within)) (omega (arith, asks.within, asks.few, sums_few p)))

-- the second of them, behind no more than one change
pub second_asks : (f g : SumField) (k which start c c' : ℕ) → c' ≡ c + length (changes_of (listed k which start (f ∷ []))) → SumsAsk (f ∷ g ∷ []) start c
    → SumsAsk (g ∷ []) start c'
unfolding SumsAsk
second_asks f g k which start c c' e h = (h.2.0, omega (arith, changes_few (listed k which start (f ∷ [])), h.2.1), tt)

-- what SumsAsk says of one field
pub asked : (f : SumField) (start c : ℕ) → SumsAsk (f ∷ []) start c → (start + f.at + 1 < 2 ^ 64) × (c + 1 < 2 ^ 64)
unfolding SumsAsk
asked f start c h = (h.0, h.1)
