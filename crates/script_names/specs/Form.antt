-- What a script's name is, as a text.
use Rattle.std.specs.Prelude.{◌≡◌, ◌≢◌, ◌⊎◌, ℕ, true, List, [], ◌∷◌, ◌++◌, codes}
use Rattle.std.specs.List.{All}
use Rattle.upd_text.specs.Text.{is_digit}
use Rattle.script_names.specs.declared.place.Stage.{Stage}
use Rattle.script_names.specs.declared.place.Stage.TheVariants.{Download, Install, Reboot, Commit, Rollback, RollbackReboot, Failure}
use Rattle.script_names.specs.declared.place.Action.{Action}
use Rattle.script_names.specs.declared.place.Action.TheVariants.{Enter, Leave, Error}
use Rattle.script_names.specs.declared.place.Place.{Place}

abbrev pub stage_name : Stage → List ℕ
stage_name Download = codes "Download"
stage_name Install = codes "ArtifactInstall"
stage_name Reboot = codes "ArtifactReboot"
stage_name Commit = codes "ArtifactCommit"
stage_name Rollback = codes "ArtifactRollback"
stage_name RollbackReboot = codes "ArtifactRollbackReboot"
stage_name Failure = codes "ArtifactFailure"

abbrev pub action_name : Action → List ℕ
action_name Enter = codes "Enter"
action_name Leave = codes "Leave"
action_name Error = codes "Error"

-- nothing, or `_` and at least one byte
abbrev pub IsTail : List ℕ → Type 0
IsTail tail = (tail ≡ []) ⊎ ((byte : ℕ) × (more : List ℕ) × (tail ≡ 95 ∷ byte ∷ more))

-- the state's name, `_`, the action's name, `_`, two decimal digits, and then nothing or `_` and at least one byte; no `/`
pub record Says (name : List ℕ) (place : Place) : Type 0 where
  pub tens : ℕ
  pub ones : ℕ
  pub tail : List ℕ
  pub first_digit : is_digit tens ≡ true
  pub second_digit : is_digit ones ≡ true
  pub is_tail : IsTail tail
  pub form : name ≡ stage_name place.stage ++ (codes "_" ++ (action_name place.action ++ (codes "_" ++ tens ∷ ones ∷ tail)))
  pub plain : All (λ b. b ≢ 47) name
