-- Files of one folder, in byte order of their names.
use Rattle.std.specs.List.{All}
use Rattle.std.specs.Prelude.{◌≢◌, ◌≤◌, ℕ, if◌then◌else◌, List, [], ◌∷◌, fold, map, unwrap_or}
use Rattle.upd_text.specs.Order.{is_below}
use Rattle.io_model.specs.Source.{File, Tree, path_at, bytes_at}

-- a file's name, and its bytes
abbrev pub Named : Type 0
Named = List ℕ × List ℕ

abbrev pub named : File → Named
named file = (unwrap_or file.0 [], file.1)

-- one more file among files in order
abbrev pub insert : List Named → Named → List Named
insert [] file = file ∷ []
insert (f ∷ fs) file = if is_below file.0 f.0 then file ∷ f ∷ fs else f ∷ insert fs file

abbrev pub by_name : Tree → List Named
by_name files = fold insert [] (map named files)

-- ---- by their indexes

abbrev pub name_at : Tree → ℕ → List ℕ
name_at files i = unwrap_or (path_at files i) []

abbrev pub file_at : Tree → ℕ → Named
file_at files i = (name_at files i, bytes_at files i)

abbrev pub files_at : Tree → List ℕ → List Named
files_at files order = map (file_at files) order

-- no control byte and not 127
abbrev pub IsGoodText : List ℕ → Type 0
IsGoodText text = All (λ b. (32 ≤ b) × (b ≢ 127)) text
