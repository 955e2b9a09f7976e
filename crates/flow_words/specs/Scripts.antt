-- What a run of scripts looks like.
use Rattle.std.specs.Prelude.{ℕ, zero, suc, Bool, true, false, if◌then◌else◌, ◌==◌, List, [], ◌∷◌, ⊤}
use Rattle.device_model.specs.declared.calls.Answer.{Answer}
use Rattle.device_model.specs.declared.calls.Answer.TheVariants.{Exit, Reply, NotStarted}
use Rattle.device_model.specs.declared.calls.Call.TheVariants.{Script}
use Rattle.device_model.specs.declared.calls.Event.TheVariants.{Pause}
use Rattle.flow_words.specs.declared.mode.Mode.{Mode}
use Rattle.flow_words.specs.declared.mode.Mode.TheVariants.{Checked, Ignored, Once}
use Rattle.flow_words.specs.Course.{Course, done, say, call, and_then}

-- the child did its work
abbrev pub is_success : Answer → Bool
is_success (Exit code) = code == 0
is_success (Reply code text) = false
is_success NotStarted = false

-- the script wants to be started again
abbrev pub is_retry : Answer → Bool
is_retry (Exit code) = code == 21
is_retry (Reply code text) = false
is_retry NotStarted = false

-- A script is started, and after a pause again while it asks for that and tries are left. It is good if it ends with 0.
unfoldable pub block : List ℕ → ℕ → Course Bool
block name zero = call (Script name) (λ a. done (is_success a))
block name (suc left) =
    call (Script name) (λ a. if is_retry a then say (Pause 60) (block name left) else done (is_success a))

-- One script in a run. Checked: as it is. Ignored: always good. Once: it is started one time, and always good.
abbrev pub step : List ℕ → Mode → Course Bool
step name Checked = block name 30
step name Ignored = and_then (block name 30) (λ good. done true)
step name Once = call (Script name) (λ a. done true)

-- the scripts in order, up to and with the first that isn't good
abbrev pub run : List (List ℕ) → Mode → Course Bool
run [] mode = done true
run (name ∷ names) mode = and_then (step name mode) (λ good. if good then run names mode else done false)

-- no answer ends the run
abbrev pub IsIgnored : Mode → Type 0
IsIgnored Checked = ⊥
IsIgnored Ignored = ⊤
IsIgnored Once = ⊤
