-- The bytes behind a capture's header are whole records, each a header of 16 bytes and its packet, and behind them what is no whole record.
use Rattle.std.specs.Prelude.{Some}
use mathlib.Core.Path.{◌≡◌, refl, sym, ap, ap₂, ◌∙◌, subst}
use Prim.Native.Nat.{ℕ, zero, suc, ◌+◌, ◌≤◌}
use native.Mathlib.Omega.{arith}
use mathlib.Core.Bool.{Bool, true, false, not}
use mathlib.Core.List.{List, [], ◌∷◌, ◌++◌, append_assoc}
use lib.ListN.{length, take, drop, length-append, length-drop, take-append-drop}
use lib.Seq.{length-take-le, take_at, drop_at, drop-drop, take-append-le, drop-append-le}
use lib.Dec.{ltb, eqb}
use borrow.Author.Tests.{le-ltb, ne_eqb}
use Rattle.pkt.specs.Answers.{gives_all}
use Rattle.pkt.proofs.Choice.{pick_yes, pick_no}
use Rattle.pcap.specs.Read.{Recorded, le_value, number, record_at, record_size, is_broken}
use Rattle.reading.specs.Reading.{header_size, spot_at, step_at, more_at, past_at}
use Rattle.reading.proofs.Broken.{broken_short, broken_no}
use Rattle.mending.specs.Sums.{sums_in}
use Rattle.mending.specs.Mend.{Listed, listed, sums_at, sums_from}
use Rattle.mending.specs.declared.sums.SumField.{SumField}
use Rattle.mending.proofs.Placing.{AllFrom}

pub data Laid : List ℕ → Type 0 where
  stops : (l : List ℕ) → is_broken l ≡ true → Laid l
  goes : (h p r : List ℕ) → length h ≡ 16 → number 4 8 h ≡ length p → length p ≤ 65535 → Laid r → Laid (h ++ (p ++ r))

-- ---- a number stands in the bytes that it is read from

pub number_front : (k i : ℕ) (h z : List ℕ) → i + k ≤ length h → number k i (h ++ z) ≡ number k i h
unfolding number
number_front k i h z e =
    let a : i ≤ length h = omega arith in
    let b : k ≤ length (drop i h) = omega (arith, length-drop i h) in
    ap (λ (t : List ℕ). le_value (take k t)) (drop-append-le i h z a) ∙ ap le_value (take-append-le k (drop i h) z b)

-- ---- a record in front of others

-- the record of a header and a packet
abbrev pub record_of : List ℕ → List ℕ → Recorded
record_of h p = record { stamped = record { sec = number 4 0 h; usec = number 4 4 h; packet = p }; original = number 4 12 h }

module _ (h p r : List ℕ) (sixteen : length h ≡ 16) (names : number 4 8 h ≡ length p) (few : length p ≤ 65535) where
  pub laid_length : length (h ++ (p ++ r)) ≡ 16 + length p + length r
  laid_length = omega (arith, length-append h (p ++ r), length-append p r)

  laid_number : number 4 8 (h ++ (p ++ r)) ≡ length p
  laid_number = number_front 4 8 h (p ++ r) (omega arith) ∙ names

  pub laid_size : record_size (h ++ (p ++ r)) ≡ 16 + length p
  unfolding record_size
  laid_size = ap (λ (n : ℕ). 16 + n) laid_number

  pub laid_whole : is_broken (h ++ (p ++ r)) ≡ false
  unfolding is_broken
  laid_whole =
      let l : List ℕ = h ++ (p ++ r) in
      let long = laid_length in
      let a : ltb (length l) 16 ≡ false = le-ltb (length l) 16 (omega arith) in
      let b : ltb (length l) (16 + length p) ≡ false = le-ltb (length l) (16 + length p) (omega arith) in
      rw (a, laid_number, laid_size, le-ltb 65535 (length p) few, b)

  pub laid_some : eqb (length (h ++ (p ++ r))) 0 ≡ false
  laid_some = ne_eqb (length (h ++ (p ++ r))) 0 (λ e. omega (arith, laid_length))

  laid_packet : take (length p) (drop 16 (h ++ (p ++ r))) ≡ p
  laid_packet = rw (drop_at h (p ++ r) 16 sixteen, take_at p r (length p) refl)

  pub laid_rest : drop (record_size (h ++ (p ++ r))) (h ++ (p ++ r)) ≡ r
  laid_rest =
      ap (λ (n : ℕ). drop n (h ++ (p ++ r))) laid_size
      ∙ ap (drop (16 + length p)) (sym (append_assoc h p r))
      ∙ drop_at (h ++ p) r (16 + length p) (omega (arith, length-append h p))

  pub laid_record : record_at (h ++ (p ++ r)) ≡ record_of h p
  unfolding record_at
  laid_record =
      rw (
        laid_number,
        laid_packet,
        number_front 4 0 h (p ++ r) (omega arith),
        number_front 4 4 h (p ++ r) (omega arith),
        number_front 4 12 h (p ++ r) (omega arith),
      )

  -- .. at a place of a capture, behind a
  module _ (a : List ℕ) (at k : ℕ) (here : length a ≡ at) (behind : header_size ≤ at) where
    laid_here : drop at (a ++ (h ++ (p ++ r))) ≡ h ++ (p ++ r)
    laid_here = drop_at a (h ++ (p ++ r)) at here

    laid_more : more_at (a ++ (h ++ (p ++ r))) at ≡ true
    laid_more = pick_no _ _ (le-ltb at header_size behind) ∙ ap not (ap is_broken laid_here ∙ laid_whole)

    laid_past : past_at (a ++ (h ++ (p ++ r))) at ≡ at + (16 + length p)
    laid_past = pick_yes _ _ laid_more ∙ ap (λ (t : List ℕ). at + record_size t) laid_here ∙ ap (λ (n : ℕ). at + n) laid_size

    laid_step : step_at (a ++ (h ++ (p ++ r))) at k ≡ gives_all (Some (spot_at (a ++ (h ++ (p ++ r))) at k))
    laid_step =
        pick_no _ _ (le-ltb at header_size behind)
        ∙ pick_no _ _ (ap (λ (t : List ℕ). eqb (length t) 0) laid_here ∙ laid_some)
        ∙ pick_no _ _ (ap is_broken laid_here ∙ laid_whole)

    laid_sums : sums_at (a ++ (h ++ (p ++ r))) (step_at (a ++ (h ++ (p ++ r))) at k) ≡ listed k 0 (at + 16) (sums_in p)
    unfolding sums_at
    laid_sums =
        let l : List ℕ = a ++ (h ++ (p ++ r)) in
        let q : take (number 4 8 (drop at l)) (drop (at + 16) l) ≡ p =
        ap (λ (t : List ℕ). take (number 4 8 (drop at l)) t) (sym (drop-drop 16 at l))
        ∙ ap (λ (t : List ℕ). take (number 4 8 t) (drop 16 t)) laid_here
        ∙ ap (λ (n : ℕ). take n (drop 16 (h ++ (p ++ r)))) laid_number
        ∙ laid_packet in
        ap (sums_at l) laid_step ∙ ap (λ (t : List ℕ). listed k 0 (at + 16) (sums_in t)) q

-- ---- every list is laid out so

pub laid : (m : ℕ) (l : List ℕ) → length l ≤ m → Laid l
unfolding record_size
laid zero l f = stops l (broken_short l (omega arith))
laid (suc m) l f = go (is_broken l) refl (laid m (drop (record_size l) l))
  where
    go : (b : Bool) → is_broken l ≡ b → (length (drop (record_size l) l) ≤ m → Laid (drop (record_size l) l)) → Laid l
    go true e ih = stops l e
    go false e ih =
        let n : ℕ = number 4 8 l in
        let c = broken_no l e in
        let left : length (drop (16 + n) l) ≤ m = omega (arith, length-drop (16 + n) l) in
        let size : length (take n (drop 16 l)) ≡ n = length-take-le n (drop 16 l) (omega (arith, length-drop 16 l)) in
        let sixteen : length (take 16 l) ≡ 16 = length-take-le 16 l c.0 in
        let names : number 4 8 (take 16 l) ≡ n =
        sym (number_front 4 8 (take 16 l) (drop 16 l) (omega arith)) ∙ ap (number 4 8) (take-append-drop 16 l) in
        let parts : take 16 l ++ (take n (drop 16 l) ++ drop (16 + n) l) ≡ l =
        ap (λ (t : List ℕ). take 16 l ++ (take n (drop 16 l) ++ t)) (sym (drop-drop n 16 l))
        ∙ ap (λ (t : List ℕ). take 16 l ++ t) (take-append-drop n (drop 16 l))
        ∙ take-append-drop 16 l in
        subst Laid parts (goes (take 16 l) (take n (drop 16 l)) (drop (16 + n) l) sixteen (names ∙ sym size) (omega arith) (ih left))

-- ---- the sums, record by record

-- the fields of the records, from a place behind k records on
unfoldable pub sums_by : {l : List ℕ} → Laid l → ℕ → ℕ → List Listed
sums_by (stops l e) k at = []
sums_by (goes h p r sixteen names few v) k at = listed k 0 (at + 16) (sums_in p) ++ sums_by v (suc k) (at + (16 + length p))

pub sums_laid : {r : List ℕ} (v : Laid r) (most k at : ℕ) (a : List ℕ) → length a ≡ at → header_size ≤ at → length r ≤ most
    → sums_from most k at (a ++ r) ≡ sums_by v k at
unfolding sums_from sums_by
sums_laid (stops l e) zero k at a here behind f = refl
sums_laid (stops l e) (suc most) k at a here behind f =
    pick_no _ _ (pick_no _ _ (le-ltb at header_size behind) ∙ ap not (ap is_broken (drop_at a l at here) ∙ e))
sums_laid (goes h p r sixteen names few v) zero k at a here behind f = absurd (omega (arith, laid_length h p r sixteen names few))
sums_laid (goes h p r sixteen names few v) (suc most) k at a here behind f =
    let next : ℕ = at + (16 + length p) in
    let parts : (a ++ (h ++ p)) ++ r ≡ a ++ (h ++ (p ++ r)) = simp append_assoc in
    pick_yes _ _ (laid_more h p r sixteen names few a at k here behind)
    ∙ ap₂ ◌++◌ (laid_sums h p r sixteen names few a at k here behind)
    (ap (λ (n : ℕ). sums_from most (suc k) n (a ++ (h ++ (p ++ r)))) (laid_past h p r sixteen names few a at k here behind)
    ∙ ap (sums_from most (suc k) next) (sym parts)
    ∙ sums_laid v most (suc k) next (a ++ (h ++ p)) (omega (arith, length-append a (h ++ p), length-append h p)) (omega arith)
    (omega (arith, laid_length h p r sixteen names few)))

-- They stand behind the place.
from_later : (n m : ℕ) (ss : List Listed) → n ≤ m → AllFrom m ss → AllFrom n ss
unfolding AllFrom
from_later n m [] e h = tt
from_later n m (s ∷ ss) e (h, t) = (omega arith, from_later n m ss e t)

from_listed : (k which start : ℕ) (fs : List SumField) (n : ℕ) (ss : List Listed) → n ≤ start → AllFrom n ss → AllFrom n (listed k which start fs ++ ss)
unfolding AllFrom
from_listed k which start [] n ss e h = h
from_listed k which start (f ∷ fs) n ss e h = (omega arith, from_listed k (suc which) start fs n ss e h)

pub sums_from_lem : {r : List ℕ} (v : Laid r) (k at : ℕ) → AllFrom at (sums_by v k at)
unfolding sums_by AllFrom
sums_from_lem (stops l e) k at = tt
sums_from_lem (goes h p r sixteen names few v) k at =
    let next : ℕ = at + (16 + length p) in
    let rest : AllFrom at (sums_by v (suc k) next) = from_later at next (sums_by v (suc k) next) (omega arith) (sums_from_lem v (suc k) next) in
    from_listed k 0 (at + 16) (sums_in p) at (sums_by v (suc k) next) (omega arith) rest
