-- Names, values and numbers in the words of their subject.
use Rattle.std.specs.Prelude.{◌≡◌, ◌≢◌, ℕ, ◌<◌, ◌≤◌, ◌^◌, List, length}
use Rattle.std.specs.List.{All}
use Rattle.std.specs.Str.Parse.{IsNumeral, digits_value}

-- so many bytes at least and at most, none of them a control byte or 127
pub record IsText (least most : ℕ) (bytes : List ℕ) : Type 0 where
  pub some : least ≤ length bytes
  pub short : length bytes ≤ most
  pub good : All (λ b. (32 ≤ b) × (b ≢ 127)) bytes

-- at most 20 decimal digits, at least one, that write a number of 64 bits
pub record Spells (bytes : List ℕ) (n : ℕ) : Type 0 where
  pub digits : IsNumeral 10 bytes
  pub short : length bytes ≤ 20
  pub value : digits_value 10 bytes ≡ n
  pub fits : n < 2 ^ 64
