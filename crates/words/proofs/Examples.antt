use mathlib.Core.Path.{refl}
use Rattle.words.specs.Words.{all_digits, is_plain, value_from, is_number, is_address, address_of}
use Rattle.words.specs.Examples.{WordsTold}

pub words_told : WordsTold
unfolding all_digits is_plain value_from is_number is_address address_of
words_told =
    record {
      car_told = refl;
      most_told = refl;
      zero_before_wrong = refl;
      octet_256 = refl;
      no_port_wrong = refl;
      three_numbers_wrong = refl;
      five_numbers_wrong = refl;
      no_number_wrong = refl;
      link_27 = refl;
      link_28 = refl;
      link_65535 = refl;
      link_65536 = refl;
      no_link = refl;
      one_zero = refl;
    }
