-- Numbers and addresses as a program's words.
use Rattle.std.specs.Prelude.{ℕ, ◌+◌, ◌-◌, ◌*◌, Bool, true, false, ◌&&◌, cond, not, Option, Some, None, List, [], ◌∷◌, leb, eqb}
use Rattle.std.specs.List.{before_first, after_first}
use Rattle.ezpkt.specs.declared.SocketAddrV4.{SocketAddrV4}

-- a text of digits alone, `0` to `9`
unfoldable pub all_digits : List ℕ → Bool
all_digits [] = true
all_digits (c ∷ cs) = leb 48 c && leb c 57 && all_digits cs

-- at least one digit, and no 0 before another
unfoldable pub is_plain : List ℕ → Bool
is_plain [] = false
is_plain (c ∷ []) = true
is_plain (c ∷ d ∷ cs) = not (eqb c 48)

-- what digits stand for, the first the highest, behind digits that stand for v
unfoldable pub value_from : ℕ → List ℕ → ℕ
value_from v [] = v
value_from v (c ∷ cs) = value_from (10 * v + (c - 48)) cs

abbrev pub value_of : List ℕ → ℕ
value_of w = value_from 0 w

-- A number's text: plain decimal digits, which stand for a number from `least` to `most`.
unfoldable pub is_number : ℕ → ℕ → List ℕ → Bool
is_number least most w = is_plain w && all_digits w && leb least (value_of w) && leb (value_of w) most

abbrev pub number_in : ℕ → ℕ → List ℕ → Option ℕ
number_in least most w = cond (is_number least most w) (Some (value_of w)) None

-- the text before the first s, which is all of it where there is none; and the text behind that s, or nothing
abbrev pub before : ℕ → List ℕ → List ℕ
before s w = before_first (λ c. eqb c s) w

abbrev pub behind : ℕ → List ℕ → List ℕ
behind s w = after_first (λ c. eqb c s) w

-- four numbers up to 255, and a port
abbrev pub are_parts : List ℕ → List ℕ → List ℕ → List ℕ → List ℕ → Bool
are_parts a b c d p = is_number 0 255 a && is_number 0 255 b && is_number 0 255 c && is_number 0 255 d && is_number 0 65535 p

abbrev pub parts_of : List ℕ → List ℕ → List ℕ → List ℕ → List ℕ → SocketAddrV4
parts_of a b c d p = record { ip = ((value_of a * 256 + value_of b) * 256 + value_of c) * 256 + value_of d; port = value_of p }

abbrev pub parts_in : List ℕ → List ℕ → List ℕ → List ℕ → List ℕ → Option SocketAddrV4
parts_in a b c d p = cond (are_parts a b c d p) (Some (parts_of a b c d p)) None

-- An address's text: those with a dot behind each of the first three, and a colon before the port.
abbrev pub dot : ℕ
dot = 46

abbrev pub colon : ℕ
colon = 58

abbrev pub in_parts : {A : Type 0} → (List ℕ → List ℕ → List ℕ → List ℕ → List ℕ → A) → List ℕ → A
in_parts f w =
    f (before dot w)
    (before dot (behind dot w))
    (before dot (behind dot (behind dot w)))
    (before colon (behind dot (behind dot (behind dot w))))
    (behind colon (behind dot (behind dot (behind dot w))))

unfoldable pub is_address : List ℕ → Bool
is_address w = in_parts are_parts w

unfoldable pub address_of : List ℕ → SocketAddrV4
address_of w = in_parts parts_of w

abbrev pub address_in : List ℕ → Option SocketAddrV4
address_in w = cond (is_address w) (Some (address_of w)) None
