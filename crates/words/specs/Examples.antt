-- Words that are addresses, and words that are not, as ASCII.
use Rattle.std.specs.Prelude.{ℕ, ◌≡◌, Some, None, List, [], ◌∷◌}
use Rattle.words.specs.Words.{number_in, address_in}

-- 10.0.0.1:5000
abbrev pub car : List ℕ
car = 49 ∷ 48 ∷ 46 ∷ 48 ∷ 46 ∷ 48 ∷ 46 ∷ 49 ∷ 58 ∷ 53 ∷ 48 ∷ 48 ∷ 48 ∷ []

-- 255.255.255.255:65535
abbrev pub most : List ℕ
most = 50 ∷ 53 ∷ 53 ∷ 46 ∷ 50 ∷ 53 ∷ 53 ∷ 46 ∷ 50 ∷ 53 ∷ 53 ∷ 46 ∷ 50 ∷ 53 ∷ 53 ∷ 58 ∷ 54 ∷ 53 ∷ 53 ∷ 51 ∷ 53 ∷ []

-- 10.0.0.01:5000
abbrev pub zero_before : List ℕ
zero_before = 49 ∷ 48 ∷ 46 ∷ 48 ∷ 46 ∷ 48 ∷ 46 ∷ 48 ∷ 49 ∷ 58 ∷ 53 ∷ 48 ∷ 48 ∷ 48 ∷ []

-- 10.0.0.256:5000
abbrev pub octet256 : List ℕ
octet256 = 49 ∷ 48 ∷ 46 ∷ 48 ∷ 46 ∷ 48 ∷ 46 ∷ 50 ∷ 53 ∷ 54 ∷ 58 ∷ 53 ∷ 48 ∷ 48 ∷ 48 ∷ []

-- 10.0.0.1
abbrev pub no_port : List ℕ
no_port = 49 ∷ 48 ∷ 46 ∷ 48 ∷ 46 ∷ 48 ∷ 46 ∷ 49 ∷ []

-- 10.0.1:5000
abbrev pub three_numbers : List ℕ
three_numbers = 49 ∷ 48 ∷ 46 ∷ 48 ∷ 46 ∷ 49 ∷ 58 ∷ 53 ∷ 48 ∷ 48 ∷ 48 ∷ []

-- 10.0.0.0.1:5000
abbrev pub five_numbers : List ℕ
five_numbers = 49 ∷ 48 ∷ 46 ∷ 48 ∷ 46 ∷ 48 ∷ 46 ∷ 48 ∷ 46 ∷ 49 ∷ 58 ∷ 53 ∷ 48 ∷ 48 ∷ 48 ∷ []

-- 10..0.1:5000
abbrev pub no_number : List ℕ
no_number = 49 ∷ 48 ∷ 46 ∷ 46 ∷ 48 ∷ 46 ∷ 49 ∷ 58 ∷ 53 ∷ 48 ∷ 48 ∷ 48 ∷ []

pub record WordsTold : Type 0 where
  pub car_told : address_in car ≡ Some (record { ip = 0x0a000001; port = 5000 })
  pub most_told : address_in most ≡ Some (record { ip = 0xffffffff; port = 65535 })
  pub zero_before_wrong : address_in zero_before ≡ None
  pub octet_256 : address_in octet256 ≡ None
  pub no_port_wrong : address_in no_port ≡ None
  pub three_numbers_wrong : address_in three_numbers ≡ None
  pub five_numbers_wrong : address_in five_numbers ≡ None
  pub no_number_wrong : address_in no_number ≡ None
  -- a number from 28 to 65,535, as a link's is, on either side of its bounds
  pub link_27 : number_in 28 65535 (50 ∷ 55 ∷ []) ≡ None
  pub link_28 : number_in 28 65535 (50 ∷ 56 ∷ []) ≡ Some 28
  pub link_65535 : number_in 28 65535 (54 ∷ 53 ∷ 53 ∷ 51 ∷ 53 ∷ []) ≡ Some 65535
  pub link_65536 : number_in 28 65535 (54 ∷ 53 ∷ 53 ∷ 51 ∷ 54 ∷ []) ≡ None
  pub no_link : number_in 28 65535 ([]) ≡ None
  pub one_zero : number_in 28 65535 (48 ∷ []) ≡ None
