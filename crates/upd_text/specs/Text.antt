-- Names, values and numbers as lists of bytes.
use Rattle.std.specs.Prelude.{◌≡◌, ℕ, ◌+◌, ◌-◌, ◌*◌, ◌^◌, ◌==◌, ◌&&◌, ◌||◌, Bool, nat_lt, nat_le, if◌then◌else◌, List, [], ◌∷◌, length, drop, position, Option, Some, None, Result, Ok, Err, codes}
use Rattle.std.specs.List.{list_all, before_first, starts_with}
use Rattle.std.specs.Prelude.{nat_eq}
use Rattle.std.specs.Result.{result_ok}
use Rattle.upd_text.specs.declared.fault.NameFault.{NameFault}
use Rattle.upd_text.specs.declared.fault.NameFault.TheVariants.{Empty, TooLong, BadByte}

-- a control byte or 127, which no name and no value holds
abbrev pub is_bad : ℕ → Bool
is_bad b = nat_lt b 32 || (b == 127)

-- the bytes, or where the first bad one is
abbrev pub unless_bad : List ℕ → Option ℕ → Result (List ℕ) NameFault
unless_bad bytes None = Ok bytes
unless_bad bytes (Some i) = Err (BadByte i)

-- what `Value::read` makes of bytes
unfoldable pub value_of : List ℕ → Result (List ℕ) NameFault
value_of bytes = if nat_lt 1024 (length bytes) then Err TooLong else unless_bad bytes (position is_bad bytes)

-- what `Name::read` makes of bytes
unfoldable pub name_of : List ℕ → Result (List ℕ) NameFault
name_of bytes = if length bytes == 0 then Err Empty else (if nat_lt 128 (length bytes) then Err TooLong else unless_bad bytes (position is_bad bytes))

abbrev pub IsName : List ℕ → Type 0
IsName bytes = name_of bytes ≡ Ok bytes

abbrev pub IsValue : List ℕ → Type 0
IsValue bytes = value_of bytes ≡ Ok bytes

-- ---- numbers

abbrev pub is_digit : ℕ → Bool
is_digit b = nat_le 48 b && nat_le b 57

-- the number of the digits, behind those of n
abbrev pub number_after : ℕ → List ℕ → ℕ
number_after n [] = n
number_after n (b ∷ bs) = number_after (n * 10 + (b - 48)) bs

-- what `read_decimal` makes of bytes
unfoldable pub decimal_of : List ℕ → Option ℕ
decimal_of bs = if nat_lt (number_after 0 bs) (2 ^ 64) && (list_all is_digit bs && (nat_le 1 (length bs) && nat_le (length bs) 20)) then Some (number_after 0 bs) else None

-- the line up to the first newline, or all of the bytes
abbrev pub first_line : List ℕ → List ℕ
first_line bytes = before_first (λ b. b == 10) bytes

abbrev pub device_type_key : List ℕ
device_type_key = codes "device_type="

-- what `read_device_type` makes of bytes
unfoldable pub device_type_of : List ℕ → Option (List ℕ)
device_type_of bytes = if starts_with nat_eq (first_line bytes) device_type_key then result_ok (name_of (drop 12 (first_line bytes))) else None
