-- Packets handed in by calls of `take` lead to the state that the theorems on an assembly speak of, so these hold of the calls.
use mathlib.Core.Path.{◌≡◌, refl, sym, ap, ◌∙◌}
use mathlib.Core.Bool.{true}
use mathlib.Core.List.{List, [], ◌∷◌, ◌++◌}
use Prim.Native.Nat.{ℕ}
use native.Mathlib.Omega.{arith}
use Rattle.pkt.specs.Answers.{Answer, refused, gives, mapped}
use Rattle.assembly.specs.declared.Key.{Key}
use Rattle.assembly.specs.declared.Rec.{Rec}
use Rattle.std.specs.Prelude.{Ok}
use Rattle.assembly.specs.declared.Taken.{Taken}
use Rattle.assembly.specs.declared.Outcome.TheVariants.{Complete}
use Rattle.assembly.specs.Assembly.{State, opened, complete}
use Rattle.assembly.specs.View.{view, record_of}
use Rattle.assembly.specs.Answers.{reply, reply_of, payload_after, map_after}
use Rattle.assembly.specs.Calls.{capacity, map_bytes, take_answer, Takes}
use Rattle.assembly.specs.Packets.{after, take_all}
use Rattle.assembly.proofs.Steps.{view_of, record_of_lem}
use Rattle.assembly.proofs.Delivers.{says_complete, delivers_here}
use Rattle.demands.specs.Handing.{Handed, by_open, by_take, InAnyOrder}

pub take_one_more : (s : State) (ls : List (List ℕ)) (l : List ℕ)
    → take_all capacity map_bytes s (ls ++ (l ∷ [])) ≡ after capacity map_bytes (take_all capacity map_bytes s ls) l
unfolding take_all
take_one_more s [] l = refl
take_one_more s (m ∷ ls) l = take_one_more (after capacity map_bytes s m) ls l

-- The record and the buffers after the calls are the state after the packets.
pub handed_is : (k : Key) (ls : List (List ℕ)) (r : Rec) (d m : List ℕ) → Handed k ls r d m
    → view r d m ≡ take_all capacity map_bytes (opened k capacity map_bytes) ls
unfolding take_all
handed_is k ls r d m (by_open d₀ m₀ d' m' r' x) = (delivers_here k).opening d₀ m₀ d' m' r' x
handed_is k ls r d m (by_take ms l d₀ m₀ d' m' r₀ a h x) =
    (delivers_here k).calling r₀ d₀ m₀ l a d' m' x
    ∙ ap (λ s. after capacity map_bytes s l) (handed_is k ms r₀ d₀ m₀ h)
    ∙ sym (take_one_more (opened k capacity map_bytes) ms l)

-- Demand 3, over the calls: "The same accepted pieces, in any order and with any repeats, end in the same state, spoilt exactly when two of
-- them contradict each other by document 01."
pub in_any_order : (k : Key) → InAnyOrder k
in_any_order k =
    record {
      one_end =
          λ ls ms r s d m d' m' x y same.
          let e : view r d m ≡ view s d' m' = handed_is k ls r d m x ∙ (delivers_here k).one_end ls ms same ∙ sym (handed_is k ms s d' m' y) in
          (sym (record_of_lem r d m) ∙ ap record_of e ∙ record_of_lem s d' m', ap (λ (t : State). t.payload) e, ap (λ (t : State). t.map) e);
      spoilt_when =
          λ ls r d m x.
          let e : r.spoilt ≡ (take_all capacity map_bytes (opened k capacity map_bytes) ls).spoilt = ap (λ (t : State). t.spoilt) (handed_is k ls r d m x) in
          let w = (delivers_here k).spoilt_when ls in
          (λ h. w.0 (sym e ∙ h), λ c. e ∙ w.1 c);
    }

-- A call that answers complete leaves an assembly that is.
pub complete_told : (C M : ℕ) (s : State) (l : List ℕ) (r : Rec) (d m : List ℕ) → Takes C M s l (Ok (reply Complete r)) d m → complete (view r d m) ≡ true
complete_told C M s l r d m x = go (take_answer C M s l) x.answer x.payload_is x.map_is
  where
    go : (a : Answer State) → gives (reply Complete r) ≡ mapped reply_of a → d ≡ payload_after a s.payload → m ≡ map_after a s.map
        → complete (view r d m) ≡ true
    go (gives t) e p q =
        let z : reply Complete r ≡ reply_of t = cc in
        let is : view r d m ≡ t = (λ i. view (z i).rec (p i) (q i)) ∙ view_of t in
        ap complete is ∙ (says_complete t).0 (ap (λ (y : Taken). y.answer) (sym z))
    go (refused n) e p q = let z : ◌≡◌ {A = ℕ} 0 1 = cc in absurd (omega arith)
