-- What a manifest is, as a text: one line for each file, its sum and its path.
use Rattle.std.specs.Prelude.{◌≡◌, ◌≢◌, ℕ, ◌+◌, ◌<◌, ◌≤◌, nat_eq, Bool, true, false, List, [], ◌∷◌, ◌++◌, length, codes, Ok}
use Rattle.std.specs.List.{All, AllPairs, Any, starts_with}
use Rattle.hex.specs.Hex.{decode_of}
use Rattle.upd_text.specs.Text.{IsName}
use Rattle.manifest_sums.specs.declared.manifest.Line.{Line}
use Rattle.manifest_sums.specs.declared.manifest.ManifestFault.{ManifestFault}
use Rattle.manifest_sums.specs.declared.manifest.ManifestFault.TheVariants.{BadLine, Doubled, PackedHeader, TooMany, NoMemory}

-- 64 digits of either case, that spell the sum
pub record SpellsSum (digits sum : List ℕ) : Type 0 where
  pub long : length digits ≡ 64
  pub value : decode_of digits ≡ Ok sum

-- the digits, two spaces, the path, a newline
pub record SpellsLine (text : List ℕ) (line : Line) : Type 0 where
  pub digits : List ℕ
  pub sum : SpellsSum digits line.sum
  pub path : IsName line.path
  pub parts : text ≡ digits ++ codes "  " ++ line.path ++ 10 ∷ []

-- the bytes are the spellings of the lines in a row, and then the rest
abbrev pub Begins : List ℕ → List Line → List ℕ → Type 0
Begins bytes [] rest = bytes ≡ rest
Begins bytes (line ∷ lines) rest = (text more : List ℕ) × (bytes ≡ text ++ more) × SpellsLine text line × Begins more lines rest

-- a path that begins so names a header in packed form
abbrev pub is_packed : Line → Bool
is_packed line = starts_with nat_eq line.path (codes "header.tar")

-- no two lines with one path, and no packed header
pub record AreRight (lines : List Line) : Type 0 where
  pub distinct : AllPairs (λ a b. a.path ≢ b.path) lines
  pub unpacked : All (λ line. is_packed line ≡ false) lines

-- the bytes are a manifest with these lines
pub record IsManifest (bytes : List ℕ) (lines : List Line) : Type 0 where
  pub rows : Begins bytes lines []
  pub right : AreRight lines
  pub few : length lines ≤ 256

-- ---- the first fault of other bytes

-- what is wrong with the rest, behind the lines that are right; line numbers count from 1
abbrev pub IsWrong : List Line → List ℕ → ManifestFault → Type 0
-- more bytes follow, and they don't begin with a line
IsWrong lines rest (BadLine k) =
    (k ≡ length lines + 1) × (length lines < 256) × (0 < length rest)
    × ((line : Line) (more : List ℕ) → ¬ (Begins rest (line ∷ []) more))
-- the next line names a packed header
IsWrong lines rest (PackedHeader k) =
    (k ≡ length lines + 1) × (length lines < 256)
    × (line : Line) × (more : List ℕ) × Begins rest (line ∷ []) more × (is_packed line ≡ true)
-- the next line has the path of an earlier one
IsWrong lines rest (Doubled k) =
    (k ≡ length lines + 1) × (length lines < 256)
    × (line : Line) × (more : List ℕ) × Begins rest (line ∷ []) more × (is_packed line ≡ false)
    × Any (λ earlier. earlier.path ≡ line.path) lines
-- 256 lines are right, and more bytes follow
IsWrong lines rest TooMany = (length lines ≡ 256) × (0 < length rest)
-- want of memory is no fault of the bytes
IsWrong lines rest NoMemory = ⊥

-- the bytes begin with right lines, and then comes this fault
pub record IsFirstFault (bytes : List ℕ) (fault : ManifestFault) : Type 0 where
  pub lines : List Line
  pub rest : List ℕ
  pub rows : Begins bytes lines rest
  pub right : AreRight lines
  pub wrong : IsWrong lines rest fault
