-- Names of state scripts, and the list of them.
use Rattle.std.specs.Prelude.{◌≡◌, ℕ, ◌+◌, ◌≤◌, ◌==◌, ◌&&◌, nat_eq, Bool, true, false, not, if◌then◌else◌, List, [], ◌∷◌, ◌++◌, length, drop, codes, Option, Some, None, filter}
use Rattle.std.specs.List.{starts_with, AllByRecursion}
use Rattle.std.specs.List.Sorted.{IsStrictlySortedBy}
use Rattle.std.specs.Option.{option_and_then, is_some}
use Rattle.upd_text.specs.Text.{is_digit, IsName}
use Rattle.upd_text.specs.Parts.{has_slash}
use Rattle.script_names.specs.declared.place.Stage.{Stage}
use Rattle.script_names.specs.declared.place.Stage.TheVariants.{Download, Install, Reboot, Commit, Rollback, RollbackReboot, Failure}
use Rattle.script_names.specs.declared.place.Action.{Action}
use Rattle.script_names.specs.declared.place.Action.TheVariants.{Enter, Leave, Error}
use Rattle.script_names.specs.declared.place.Place.{Place}
use Rattle.upd_text.specs.Order.{byte_cmp, last_from, itself}

-- the states' names
abbrev pub stages : List (List ℕ × Stage)
stages = (codes "Download", Download) ∷ (codes "ArtifactInstall", Install) ∷ (codes "ArtifactReboot", Reboot) ∷ (codes "ArtifactCommit", Commit) ∷ (codes "ArtifactRollback", Rollback) ∷ (codes "ArtifactRollbackReboot", RollbackReboot) ∷ (codes "ArtifactFailure", Failure) ∷ []

abbrev pub actions : List (List ℕ × Action)
actions = (codes "Enter", Enter) ∷ (codes "Leave", Leave) ∷ (codes "Error", Error) ∷ []

-- the first of the words that begins the text with `_` behind it, and what follows
abbrev pub named : {A : Type 0} → List (List ℕ × A) → List ℕ → Option (A × List ℕ)
named [] text = None
named (w ∷ ws) text = if starts_with nat_eq text (w.0 ++ 95 ∷ []) then Some (w.1, drop (length w.0 + 1) text) else named ws text

-- two digits, and then nothing or `_` and at least one byte
abbrev pub is_end : List ℕ → Bool
is_end [] = false
is_end (a ∷ []) = false
is_end (a ∷ b ∷ []) = is_digit a && is_digit b
is_end (a ∷ b ∷ c ∷ []) = false
is_end (a ∷ b ∷ c ∷ d ∷ ds) = is_digit a && (is_digit b && (c == 95))

abbrev pub place_if : Bool → Stage → Action → Option Place
place_if true s a = Some (record { stage = s; action = a })
place_if false s a = None

-- where a script of this name runs, if it is one
unfoldable pub place_of : List ℕ → Option Place
place_of name = if has_slash name then None else option_and_then (λ s. option_and_then (λ a. place_if (is_end a.1) s.0 a.0) (named actions s.1)) (named stages name)

abbrev pub is_download : Stage → Bool
is_download Download = true
is_download _ = false

abbrev pub is_artifact_place : Option Place → Bool
is_artifact_place None = false
is_artifact_place (Some place) = not (is_download place.stage)

-- whether it names a script that an artifact may bring: one of any stage but Download
abbrev pub is_artifact_script : List ℕ → Bool
is_artifact_script name = is_artifact_place (place_of name)

-- ---- lists

abbrev pub IsScript : List ℕ → Type 0
IsScript name = IsName name × (is_some (place_of name) ≡ true)

-- at most 64 scripts in strictly ascending byte order
pub record AreScripts (names : List (List ℕ)) : Type 0 where
  pub sorted : IsStrictlySortedBy byte_cmp names
  pub few : length names ≤ 64
  pub scripts : AllByRecursion IsScript names

-- the last name, or the empty list where there is none
abbrev pub last_script : List (List ℕ) → List ℕ
last_script names = last_from itself [] names

-- codes of the stages and actions, to compare them
abbrev pub stage_number : Stage → ℕ
stage_number Download = 0
stage_number Install = 1
stage_number Reboot = 2
stage_number Commit = 3
stage_number Rollback = 4
stage_number RollbackReboot = 5
stage_number Failure = 6

abbrev pub action_number : Action → ℕ
action_number Enter = 0
action_number Leave = 1
action_number Error = 2

abbrev pub same_place : Place → Option Place → Bool
same_place p None = false
same_place p (Some q) = (stage_number p.stage == stage_number q.stage) && (action_number p.action == action_number q.action)

-- whether the script runs at the place
abbrev pub is_at : Place → List ℕ → Bool
is_at place name = same_place place (place_of name)

abbrev pub due_of : Place → List (List ℕ) → List (List ℕ)
due_of place names = filter (is_at place) names
