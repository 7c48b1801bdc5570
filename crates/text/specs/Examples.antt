-- Some numbers and bytes as text, computed.
use Rattle.std.specs.Prelude.{◌≡◌, refl, [], ◌∷◌}
use Rattle.text.specs.Decimal.{digits, decimal}
use Rattle.text.specs.Hex.{hex}

-- "0"
pub zero_is : decimal 0 ≡ 48 ∷ []
unfolding decimal digits
zero_is = refl

-- "7"
pub seven_is : decimal 7 ≡ 55 ∷ []
unfolding decimal digits
seven_is = refl

-- "10"
pub ten_is : decimal 10 ≡ 49 ∷ 48 ∷ []
unfolding decimal digits
ten_is = refl

-- "65535"
pub largest_identifier_is : decimal 65535 ≡ 54 ∷ 53 ∷ 53 ∷ 51 ∷ 53 ∷ []
unfolding decimal digits
largest_identifier_is = refl

-- "00", "0f", "a9", "ff": the high digit first, lower case
pub hex_is : hex (0 ∷ 15 ∷ 169 ∷ 255 ∷ []) ≡ 48 ∷ 48 ∷ 48 ∷ 102 ∷ 97 ∷ 57 ∷ 102 ∷ 102 ∷ []
unfolding hex
hex_is = refl
