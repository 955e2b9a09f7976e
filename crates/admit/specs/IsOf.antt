-- What is admitted is of its source.
use Rattle.std.specs.Prelude.{◌≡◌, ◌≢◌, ◌⊎◌, ℕ, ◌<◌, ◌↔◌, ◌++◌, List, length, codes, Some, AllPairs}
use Rattle.std.specs.List.{All, AllPass, Any, AllZip, Contains}
use Rattle.io_model.specs.Source.{Content, count_of, path_at, When}
use Rattle.artifact_meta.specs.Header.{AreKinds}
use Rattle.manifest_sums.specs.declared.manifest.Line.{Line}
use Rattle.script_names.specs.Scripts.{is_artifact_script}
use Rattle.admit.specs.Places.{place_of, is_allowed, spelled}
use Rattle.admit.specs.declared.place.TreePlace.TheVariants.{TypeInfo}
use Rattle.admit.specs.declared.admitted.Admitted.{Admitted}

abbrev pub HasLine : List ℕ → List Line → Type 0
HasLine path lines = Any (λ line. line.path ≡ path) lines

pub record IsOf (content : Content) (admitted : Admitted) : Type 0 where
  -- one number for each line, each an index of a file
  pub numbered : length admitted.numbers ≡ length admitted.manifest
  pub below : All (λ n. n < count_of content) admitted.numbers
  -- no path stands twice
  pub distinct : AllPairs (λ a b. a.path ≢ b.path) admitted.manifest
  -- as many payloads as there may be, and what is said of each
  pub kinds : AreKinds admitted.header.kinds
  pub infos : length admitted.infos ≡ length admitted.header.kinds
  -- only allowed paths, and the files of the header among them
  pub allowed : AllPass (λ line. is_allowed (place_of line.path)) admitted.manifest
  pub header_info : HasLine (codes "header/header-info") admitted.manifest
  pub type_infos : (k : ℕ) → k < length admitted.header.kinds → HasLine (spelled (TypeInfo k)) admitted.manifest
  -- its scripts are the files under `header/scripts/`, and all of them are such as an artifact may bring
  pub scripts : AllPass is_artifact_script admitted.scripts
  pub script_names : (name : List ℕ) → Contains admitted.scripts name ↔ HasLine (codes "header/scripts/" ++ name) admitted.manifest
  -- each number is that of a file with its line's path
  pub places : When content (λ t. AllZip (λ line n. path_at t n ≡ Some line.path) admitted.manifest admitted.numbers)
  -- every file has its number there, but the manifest and its signature
  pub every : When content (λ t. (n : ℕ) → n < length t → (path_at t n ≡ Some (codes "manifest")) ⊎ (path_at t n ≡ Some (codes "manifest.sig")) ⊎ Contains admitted.numbers n)
