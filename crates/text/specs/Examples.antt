-- Numbers, fields, tabs as bits, keys and prefixes, computed.
use Rattle.std.specs.Prelude.{◌≡◌, refl, true, false, [], ◌∷◌, replicate}
use Rattle.std.specs.Prelude.{Some, None}
use Rattle.buffers.specs.Texts.{bytes}
use Rattle.buffers.specs.Lists.{begins}
use Rattle.text.specs.Numbers.{is_digit, leading_zero, number_of, positive_of}
use Rattle.text.specs.Fields.{fields, field_of, place_of}
use Rattle.text.specs.Bits.{bits_of}
use Rattle.text.specs.Lines.{lines_of}
use Rattle.text.specs.Keys.{is_key_byte, is_prefix, is_key}
use Rattle.text.specs.Printing.{digits}

-- what the definitions say of these texts
pub record Examples : Type 0 where
  pub zero_alone : number_of 7 (bytes "0") ≡ Some 0
  pub most : number_of 18446744073709551615 (bytes "18446744073709551615") ≡ Some 18446744073709551615
  pub too_large : number_of 18446744073709551615 (bytes "18446744073709551616") ≡ None
  pub leading_zeros : number_of 100 (bytes "007") ≡ None
  pub empty : number_of 100 [] ≡ None
  pub sign : number_of 100 (bytes "+1") ≡ None
  pub no_positive : positive_of 100 (bytes "0") ≡ None
  pub printed : digits 2024 ≡ bytes "2024"
  pub split : fields (bytes "GET\tkey\t\t7") ≡ bytes "GET" ∷ bytes "key" ∷ [] ∷ bytes "7" ∷ []
  pub last : place_of (bytes "GET\tkey\t\t7") 3 ≡ record { start = 9; len = 1 }
  pub missing : field_of (bytes "GET\tkey") 2 ≡ []
  -- the second and the fourth byte
  pub tab_bits : bits_of 9 (bytes "a\tb\t") ≡ 10
  pub lines : lines_of (bytes "GET\n\nPUT") ≡ bytes "GET" ∷ [] ∷ bytes "PUT" ∷ []
  pub last_feed : lines_of (bytes "GET\n") ≡ bytes "GET" ∷ []
  pub dash_key : is_key (bytes "-") ≡ true
  pub space : is_key (bytes "a b") ≡ false
  pub empty_key : is_key [] ≡ false
  pub empty_prefix : is_prefix [] ≡ true
  pub longest_key : is_key (replicate 63 97) ≡ true
  pub long_key : is_key (replicate 64 97) ≡ false
  pub begun : begins (bytes "lo") (bytes "logs") ≡ true
  pub long_prefix : begins (bytes "logs") (bytes "lo") ≡ false

-- each by computing
pub examples : Examples
unfolding is_digit leading_zero number_of positive_of field_of place_of is_key_byte is_prefix is_key digits
examples =
    record {
      zero_alone = refl;
      most = refl;
      too_large = refl;
      leading_zeros = refl;
      empty = refl;
      sign = refl;
      no_positive = refl;
      printed = refl;
      split = refl;
      last = refl;
      missing = refl;
      tab_bits = refl;
      lines = refl;
      last_feed = refl;
      dash_key = refl;
      space = refl;
      empty_key = refl;
      empty_prefix = refl;
      longest_key = refl;
      long_key = refl;
      begun = refl;
      long_prefix = refl;
    }
