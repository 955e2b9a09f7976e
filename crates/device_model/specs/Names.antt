-- The words by which a module is called.
use Rattle.std.specs.Prelude.{ℕ, List, [], ◌∷◌, Option, None, String, codes, string_bytes}
use Rattle.std.specs.Global.{Global}
use Rattle.std.specs.List.{find}
use Rattle.std.specs.Str.{bytes_eq}
use Rattle.device_model.specs.declared.calls.ModState.{ModState}
use Rattle.device_model.specs.declared.calls.ModState.TheVariants.{Download, ArtifactInstall, ArtifactReboot, ArtifactVerifyReboot, ArtifactCommit, ArtifactRollback, ArtifactRollbackReboot, ArtifactVerifyRollbackReboot, ArtifactFailure, Cleanup}
use Rattle.device_model.specs.declared.calls.Query.{Query}
use Rattle.device_model.specs.declared.calls.Query.TheVariants.{SupportsRollback, NeedsArtifactReboot}
use Rattle.device_model.specs.declared.module_word.ModuleWord.{ModuleWord}
use Rattle.device_model.specs.declared.module_word.ModuleWord.TheVariants.{State, Ask}
use Rattle.device_model.specs.declared.module_word.TheConstants.{MODULE_WORDS}

abbrev pub mod_state_name : ModState → List ℕ
mod_state_name Download = codes "Download"
mod_state_name ArtifactInstall = codes "ArtifactInstall"
mod_state_name ArtifactReboot = codes "ArtifactReboot"
mod_state_name ArtifactVerifyReboot = codes "ArtifactVerifyReboot"
mod_state_name ArtifactCommit = codes "ArtifactCommit"
mod_state_name ArtifactRollback = codes "ArtifactRollback"
mod_state_name ArtifactRollbackReboot = codes "ArtifactRollbackReboot"
mod_state_name ArtifactVerifyRollbackReboot = codes "ArtifactVerifyRollbackReboot"
mod_state_name ArtifactFailure = codes "ArtifactFailure"
mod_state_name Cleanup = codes "Cleanup"

abbrev pub query_name : Query → List ℕ
query_name SupportsRollback = codes "SupportsRollback"
query_name NeedsArtifactReboot = codes "NeedsArtifactReboot"

abbrev pub module_name : ModuleWord → List ℕ
module_name (State state) = mod_state_name state
module_name (Ask query) = query_name query

-- what a text names, if it is one of the twelve words
abbrev pub module_named : List ℕ → Option ModuleWord
module_named text = find (λ word. bytes_eq text (module_name word)) MODULE_WORDS

-- what a command line calls a module for: it has one of the twelve words and a folder
unfoldable pub module_called : List (String Global) → Option ModuleWord
module_called [] = None
module_called (word ∷ []) = None
module_called (word ∷ (folder ∷ [])) = module_named (string_bytes word)
module_called (word ∷ (folder ∷ (next ∷ words))) = None
