-- The words that the program takes: BYTES LINK, or BYTES LINK check.
use Rattle.std.specs.Prelude.{ℕ, ◌+◌, ◌-◌, ◌*◌, Bool, ◌&&◌, cond, not, Option, Some, None, List, [], ◌∷◌, length, get_or, leb, eqb}
use Rattle.plan.specs.declared.words.Ask.{Ask}
use Rattle.plan.specs.declared.words.Ask.TheVariants as ask

-- the largest number of 64 bits
abbrev pub most_number : ℕ
most_number = 18446744073709551615

abbrev pub is_digit : ℕ → Bool
is_digit c = leb 48 c && leb c 57

-- the number of one digit
abbrev pub first_digit : ℕ → Option ℕ
first_digit c = cond (is_digit c) (Some (c - 48)) None

-- one digit more behind those of v, which is not 0
abbrev pub more_digit : ℕ → ℕ → Option ℕ
more_digit v c = cond (not (eqb v 0) && (is_digit c && leb (10 * v + (c - 48)) most_number)) (Some (10 * v + (c - 48))) None

abbrev pub next_digit : Option ℕ → ℕ → Option ℕ
next_digit (Some v) c = more_digit v c
next_digit None c = None

-- these digits behind those of a number
unfoldable pub digits_from : Option ℕ → List ℕ → Option ℕ
digits_from r [] = r
digits_from r (c ∷ cs) = digits_from (next_digit r c) cs

-- A number's text: at least one digit, and no 0 before another.
unfoldable pub number_in : List ℕ → Option ℕ
number_in [] = None
number_in (c ∷ cs) = digits_from (first_digit c) cs

-- the word check
abbrev pub is_check : List ℕ → Bool
is_check w =
    eqb (length w) 5
    && (eqb (get_or w 0 0) 99 && (eqb (get_or w 1 0) 104 && (eqb (get_or w 2 0) 101 && (eqb (get_or w 3 0) 99 && eqb (get_or w 4 0) 107))))

-- what so many words ask for, of which these are the first three
abbrev pub ask_for : ℕ → ℕ → ℕ → Bool → Option Ask
ask_for count n m check = cond (eqb count 2) (Some (ask.List n m)) (cond (eqb count 3 && check) (Some (ask.Check n m)) None)

abbrev pub ask_of : ℕ → Option ℕ → Option ℕ → Bool → Option Ask
ask_of count (Some n) (Some m) check = ask_for count n m check
ask_of count (Some n) None check = None
ask_of count None m check = None

abbrev pub ask_in : ℕ → List ℕ → List ℕ → List ℕ → Option Ask
ask_in count n m third = ask_of count (number_in n) (number_in m) (is_check third)
