-- Words for the laws that say key by key what a change leaves, and which wants are met.
use Rattle.std.specs.Prelude.{◌≡◌, ◌≢◌, ℕ, List, ◌∷◌, ◌++◌, Some, Option, IsSome, MatchOption, All, Any, Contains}
use Rattle.provides_map.specs.Pairs.{Pairs}
use Rattle.provides_map.specs.Match.{Matches}
use Rattle.provides_map.specs.After.{artifact_name, artifact_group, value_of}
use Rattle.provides_map.specs.declared.change.Clears.{Clears}
use Rattle.provides_map.specs.declared.change.Clears.TheVariants.{All as AllCleared, Listed}
use Rattle.provides_map.specs.declared.change.Change.{Change}
use Rattle.provides_map.specs.declared.change.Want.{Want}

-- all is cleared, or one of the patterns matches the key
abbrev pub IsCleared : Clears → List ℕ → Type 0
IsCleared AllCleared key = Unit {0}
IsCleared (Listed patterns) key = Any (λ pattern. Matches pattern key) patterns

-- neither the name, nor the group where the change has one
pub record IsOther (change : Change) (key : List ℕ) : Type 0 where
  pub not_name : key ≢ artifact_name
  pub not_group : IsSome change.group → key ≢ artifact_group

-- the key has a value, and it is an allowed one
abbrev pub IsMet : List ℕ → Pairs → Want → Type 0
IsMet type held want = (value : List ℕ) × (value_of type held want.key ≡ Some value) × Contains want.allowed value

-- the want isn't met, and all wants before it are
pub record IsFirstUnmet (type : List ℕ) (held : Pairs) (wants : List Want) (want : Want) : Type 0 where
  pub before : List Want
  pub behind : List Want
  pub place : wants ≡ before ++ want ∷ behind
  pub met : All (IsMet type held) before
  pub unmet : ¬ IsMet type held want

-- what an answer of `first_unmet` says: with none all wants are met, and a key is that of the first one that isn't
abbrev pub TellsUnmet : List ℕ → Pairs → List Want → Option (List ℕ) → Type 0
TellsUnmet type held wants answer = MatchOption answer (All (IsMet type held) wants) (λ key. (want : Want) × IsFirstUnmet type held wants want × (want.key ≡ key))
