-- Bytes that are added to the fresh content.
use Rattle.std.specs.Prelude.{◌≡◌, ℕ, ◌-◌, Bool, MatchBool, List, [], ◌++◌, take, drop, Option, Some, None, option_map}
use Rattle.io_model.specs.Source.{Content, bytes_at}
use Rattle.file_module.specs.Contents.{Contents}
use Rattle.file_module.specs.Payload.{When}

-- so many bytes of a content from an offset on
abbrev pub piece : ℕ → ℕ → Option (List ℕ) → List ℕ
piece at count None = []
piece at count (Some bytes) = take count (drop at bytes)

-- all bytes from an offset on
abbrev pub rest : ℕ → Option (List ℕ) → List ℕ
rest at None = []
rest at (Some bytes) = drop at bytes

-- the next bytes of what is saved stand in the target, one byte before
abbrev pub IsSamePiece : ℕ → ℕ → Contents → Type 0
IsSamePiece at count m = piece at count m.saved ≡ piece (at - 1) count m.target

-- the target is what is saved, behind its first byte
abbrev pub IsBack : Contents → Type 0
IsBack m = m.target ≡ Some (rest 1 m.saved)

-- it is said whether this holds
abbrev pub Tells : Bool → Type 0 → Type 0
Tells said fact = MatchBool said fact (fact → ⊥)

-- these bytes were added at the end of the fresh content
abbrev pub AddsFresh : List ℕ → Contents → Contents → Type 0
AddsFresh bytes old new = new.fresh ≡ option_map (λ before. before ++ bytes) old.fresh

-- so many bytes were added; where the source's files are told, they are the file's from this place on
pub record CopiesPiece (files : Content) (i at count : ℕ) (old new : Contents) : Type 0 where
  pub bytes : List ℕ
  pub added : AddsFresh bytes old new
  pub same : When files (λ t. bytes ≡ take count (drop at (bytes_at t i)))

-- some bytes were added; where the source's files are told, they are the file's
pub record CopiesFile (files : Content) (i : ℕ) (old new : Contents) : Type 0 where
  pub bytes : List ℕ
  pub added : AddsFresh bytes old new
  pub same : When files (λ t. bytes ≡ bytes_at t i)

-- the fresh content has these bytes; where the source's files are told, they are this file's
pub record HoldsFile (files : Content) (i : ℕ) (m : Contents) : Type 0 where
  pub bytes : List ℕ
  pub fresh : m.fresh ≡ Some bytes
  pub same : When files (λ t. bytes ≡ bytes_at t i)
