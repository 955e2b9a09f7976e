-- The cell of a position, and what a cell says.
use Rattle.std.specs.Prelude.{◌≡◌, ℕ, zero, suc, List, [], ◌∷◌, ◌++◌, replicate, Option, Some, None, Result, Ok, IsTrue, if◌then◌else◌, codes, nat_eq}
use Rattle.std.specs.List.{starts_with}
use Rattle.flow_table.specs.Valid.{is_valid}
use Rattle.flow_table.specs.declared.position.Position.{Position}
use Rattle.record_codec.specs.Spelling.{position_bytes}
use Rattle.upd_text.specs.Results.{◌>>=◌}
use Rattle.record_codec.specs.Reading.{Rest, literal_at, position_at}

-- how many zeros stand behind the position of a cell
unfoldable pub filling : ℕ
filling = 55

-- MUC1, the position, and zeros
unfoldable pub cell_of : Position → List ℕ
cell_of p = codes "MUC1" ++ position_bytes p ++ replicate filling 0

-- the bytes are the cell of a valid position
pub record IsCell (bytes : List ℕ) (p : Position) : Type 0 where
  pub valid : IsTrue (is_valid p)
  pub spelled : bytes ≡ cell_of p

-- so many zeros, each of which is a field
unfoldable pub zeros_at : ℕ → Rest → Result Rest ℕ
zeros_at zero r = Ok r
zeros_at (suc n) r = literal_at (0 ∷ []) r >>= zeros_at n

-- the position that a cell is of
unfoldable pub cell_at : Rest → Result Position ℕ
cell_at r = do
  magic ← literal_at (codes "MUC1") r
  position ← position_at magic
  rest ← zeros_at filling position.1
  Ok position.0

-- what a cell says: nothing behind four zero bytes, or a position; or the offset of its first wrong byte
unfoldable pub cell : List ℕ → Result (Option Position) ℕ
cell bytes = if starts_with nat_eq bytes (0 ∷ 0 ∷ 0 ∷ 0 ∷ []) then Ok None else (cell_at (record { at = 0; bytes = bytes }) >>= λ p. Ok (Some p))
