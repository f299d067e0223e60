-- Bytes that are left, behind those that were read, are the whole text.
use mathlib.Core.Path.{◌≡◌, refl, sym, ap, ◌∙◌}
use mathlib.Core.List.{List, [], ◌∷◌}
use Prim.Native.Nat.{ℕ, suc, ◌+◌, ◌≤◌, ◌<◌}
use native.Mathlib.Numerals.{add-one}
use lib.ListN.{length, get_or, drop, drop_of_length-le}
use lib.Seq.{drop-cons}
use Rattle.std.specs.Prelude.{Result, Ok, Err}
use Rattle.plan.specs.declared.lines.Fault.{Fault}
use Rattle.plan.specs.declared.lines.Reading.{Reading}
use Rattle.plan.specs.Lines.{byte_read, read_from}

-- what cannot be read on stays so
fault_stays : (f : Fault) (l : List ℕ) → read_from (Err f) l ≡ Err f
unfolding read_from
fault_stays f [] = refl
fault_stays f (c ∷ cs) = fault_stays f cs

module _ (l : List ℕ) (r : Reading) (i : ℕ) (all : Result Reading Fault) (so_far : read_from (Ok r) (drop i l) ≡ all) where
  pub read_end : length l ≤ i → Ok r ≡ all
  unfolding read_from
  read_end h = ap (read_from (Ok r)) (sym (drop_of_length-le l h)) ∙ so_far

  module _ (h : i < length l) where
    step : (o : Result Reading Fault) → byte_read r (get_or l i 0) ≡ o → read_from o (drop (suc i) l) ≡ all
    unfolding read_from
    step o e = ap (λ (x : Result Reading Fault). read_from x (drop (suc i) l)) (sym e) ∙ ap (read_from (Ok r)) (sym (drop-cons l i 0 h)) ∙ so_far

    pub next_fault : (f : Fault) → byte_read r (get_or l i 0) ≡ Err f → Err f ≡ all
    next_fault f e = sym (fault_stays f (drop (suc i) l)) ∙ step (Err f) e

    pub next_reading : (s : Reading) → byte_read r (get_or l i 0) ≡ Ok s → read_from (Ok s) (drop (i + 1) l) ≡ all
    next_reading s e = rw add-one (step (Ok s) e)
