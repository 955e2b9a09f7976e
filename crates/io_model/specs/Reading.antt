-- How much was read, of one file and of several.
use Rattle.std.specs.Prelude.{◌≡◌, ◌≢◌, ◌⊎◌, ℕ, ◌≤◌, Bool, true, false, List, [], ◌∷◌, length, get_or, Option}
use Rattle.upd_text.specs.Counts.{raised}
use Rattle.upd_text.specs.Told.{WhereTold}
use Rattle.io_model.specs.Source.{Tree, Content, bytes_at}
use Rattle.io_model.specs.Source.Content.{Told, Untold}

-- so many bytes of file i were given
abbrev pub Rises : ℕ → ℕ → List ℕ → List ℕ → Type 0
Rises i count old new = get_or new i 0 ≡ raised (get_or old i 0) count

abbrev pub IsUnread : ℕ → List ℕ → List ℕ → Type 0
IsUnread i old new = get_or new i 0 ≡ get_or old i 0

-- no file but i was read
abbrev pub OnlyOf : ℕ → List ℕ → List ℕ → Type 0
OnlyOf i old new = (j : ℕ) → j ≢ i → IsUnread j old new

-- all bytes of the file were given, once
abbrev pub IsReadOnce : Tree → ℕ → List ℕ → List ℕ → Type 0
IsReadOnce t i old new = Rises i (length (bytes_at t i)) old new

-- at most as many bytes as the file has
pub record IsReadInPart (t : Tree) (i : ℕ) (old new : List ℕ) : Type 0 where
  pub count : ℕ
  pub most : count ≤ length (bytes_at t i)
  pub rises : Rises i count old new

-- once, where all went well; else in part
abbrev pub IsReadBy : Bool → Tree → ℕ → List ℕ → List ℕ → Type 0
IsReadBy true = IsReadOnce
IsReadBy false = IsReadInPart

-- ---- by one call

-- of file i some bytes were given, as many as P says, and none of another file
pub record Gave (i : ℕ) (P : ℕ → Type 0) (old new : Option (List ℕ)) : Type 0 where
  pub count : ℕ
  pub many : P count
  pub is : WhereTold (λ a b. Rises i count a b × OnlyOf i a b) old new

-- at most as many as the file has, where it is told
abbrev pub IsAtMost : Content → ℕ → ℕ → Type 0
IsAtMost (Untold n) i count = Unit {0}
IsAtMost (Told t) i count = count ≤ length (bytes_at t i)

-- ---- one file after the other

-- file n was read so, and nothing else
abbrev pub IsReadAlone : Bool → Tree → ℕ → List ℕ → List ℕ → Type 0
IsReadAlone whole t n old new = IsReadBy whole t n old new × OnlyOf n old new

-- the files with these numbers, in this order: all of them, each once; else the first ones, and of the next a part
abbrev pub AreRead : Bool → Tree → List ℕ → List ℕ → List ℕ → Type 0
AreRead whole t [] old new = new ≡ old
AreRead true t (n ∷ ns) old new = (mid : List ℕ) × IsReadAlone true t n old mid × AreRead true t ns mid new
AreRead false t (n ∷ ns) old new = IsReadAlone false t n old new ⊎ ((mid : List ℕ) × IsReadAlone true t n old mid × AreRead false t ns mid new)
