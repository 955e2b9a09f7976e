-- What a source's length says of the parts of its file.
use Rattle.std.proofs.Common.{◌≡◌, ℕ, ◌+◌, ◌≤◌, arith}
use Rattle.io_model.specs.Source.{Content, IsLength, InFile}
use Rattle.io_model.specs.Source.Content.{Told, Untold}

-- a part that ends within the length lies in the file
pub in_file : (old new : Content) (i n at len : ℕ) → IsLength old i n → new ≡ old → at + len ≤ n → InFile new i at len
in_file old new i n at len long same fits = rw same (within old i n at len long fits)
  where
    within : (c : Content) (i n at len : ℕ) → IsLength c i n → at + len ≤ n → InFile c i at len
    within (Told t) i n at len long fits = omega (arith, long)
    within (Untold m) i n at len long fits = tt
