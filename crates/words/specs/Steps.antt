-- What the steps answer; inner contracts alone cite it.
use Rattle.std.specs.Prelude.{ℕ, ◌&&◌, cond, Option, Some, None, List, leb, eqb}
use Rattle.std.specs.List.{position_or_len}
use Rattle.words.specs.Words.{all_digits, value_from}

-- digits w behind those of v, up to a number
unfoldable pub digits_in : ℕ → ℕ → List ℕ → Option ℕ
digits_in most v w = cond (all_digits w && leb (value_from v w) most) (Some (value_from v w)) None

-- where the first s of w is, or its length where there is none
abbrev pub place_of : ℕ → List ℕ → ℕ
place_of s w = position_or_len (λ c. eqb c s) w
