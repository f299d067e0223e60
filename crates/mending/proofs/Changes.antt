-- Changes that are listed one after the other: those of two lists of fields are those of both.
use mathlib.Core.Path.{◌≡◌, refl, sym, ap, ◌∙◌}
use Prim.Native.Nat.{ℕ, suc, ◌+◌, ◌≤◌}
use native.Mathlib.Omega.{arith}
use mathlib.Core.Bool.{Bool, true, false}
use mathlib.Core.List.{List, [], ◌∷◌, ◌++◌}
use lib.ListN.{length, set, length-append}
use lib.Seq.{sets}
use lib.Dec.{eqb}
use Rattle.pkt.proofs.Choice.{pick_yes, pick_no}
use Rattle.mending.specs.Mend.{Listed, change_of, changes_of}

pub changed_no : (s : Listed) (ss : List Listed) → eqb s.old s.new ≡ true → changes_of (s ∷ ss) ≡ changes_of ss
unfolding changes_of
changed_no s ss e = pick_yes _ _ e

pub changed_yes : (s : Listed) (ss : List Listed) → eqb s.old s.new ≡ false → changes_of (s ∷ ss) ≡ change_of s ∷ changes_of ss
unfolding changes_of
changed_yes s ss e = pick_no _ _ e

pub changes_append : (ss ts : List Listed) → changes_of (ss ++ ts) ≡ changes_of ss ++ changes_of ts
unfolding changes_of
changes_append [] ts = refl
changes_append (s ∷ ss) ts = go (eqb s.old s.new) refl (changes_append ss ts)
  where
    go : (b : Bool) → eqb s.old s.new ≡ b → changes_of (ss ++ ts) ≡ changes_of ss ++ changes_of ts
        → changes_of (s ∷ (ss ++ ts)) ≡ changes_of (s ∷ ss) ++ changes_of ts
    go true e h = changed_no s (ss ++ ts) e ∙ h ∙ ap (λ (r : List (List ℕ)). r ++ changes_of ts) (sym (changed_no s ss e))
    go false e h =
        changed_yes s (ss ++ ts) e ∙ ap (λ (r : List (List ℕ)). change_of s ∷ r) h
        ∙ ap (λ (r : List (List ℕ)). r ++ changes_of ts) (sym (changed_yes s ss e))

-- no more changes than fields
pub changes_few : (ss : List Listed) → length (changes_of ss) ≤ length ss
unfolding changes_of
changes_few [] = omega arith
changes_few (s ∷ ss) = go (eqb s.old s.new) refl (changes_few ss)
  where
    go : (b : Bool) → eqb s.old s.new ≡ b → length (changes_of ss) ≤ length ss → length (changes_of (s ∷ ss)) ≤ suc (length ss)
    go true e h = rw (changed_no s ss e) (omega arith)
    go false e h = rw (changed_yes s ss e) (omega arith)

-- two runs of stores, one behind the other
pub sets_append : (k : ℕ) (rs ts : List (List ℕ)) (e : List (List ℕ)) → sets e k (rs ++ ts) ≡ sets (sets e k rs) (k + length rs) ts
sets_append k [] ts e = let z : k + 0 ≡ k = omega arith in ap (λ (j : ℕ). sets e j ts) (sym z)
sets_append k (r ∷ rs) ts e =
    let z : suc k + length rs ≡ k + suc (length rs) = omega arith in
    sets_append (suc k) rs ts (set e k r) ∙ ap (λ (j : ℕ). sets (sets (set e k r) (suc k) rs) j ts) z

-- the changes of two lists of fields are as many as those of both
pub changes_count : (ss ts : List Listed) → length (changes_of (ss ++ ts)) ≡ length (changes_of ss) + length (changes_of ts)
changes_count ss ts = ap length (changes_append ss ts) ∙ length-append (changes_of ss) (changes_of ts)
