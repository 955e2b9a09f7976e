-- Worked runs of scripts.
use Rattle.std.specs.Prelude.{◌≡◌, ℕ, ◌==◌, Bool, true, false, List, [], ◌∷◌, ◌++◌, length, filter, replicate, codes, Some}
use Rattle.device_model.specs.declared.calls.Answer.TheVariants.{Exit, NotStarted}
use Rattle.device_model.specs.declared.calls.Call.TheVariants.{Script}
use Rattle.device_model.specs.declared.calls.Event.{Event}
use Rattle.device_model.specs.declared.calls.Event.TheVariants.{Start, End, Pause}
use Rattle.flow_words.specs.declared.mode.Mode.TheVariants.{Checked, Ignored, Once}
use Rattle.flow_words.specs.Played.{events_for, result_for}
use Rattle.flow_words.specs.Scripts.{block, run}

abbrev pub first_name : List ℕ
first_name = codes "ArtifactInstall_Enter_00"

abbrev pub second_name : List ℕ
second_name = codes "ArtifactInstall_Enter_01"

abbrev pub both : List (List ℕ)
both = first_name ∷ second_name ∷ []

abbrev pub is_start : Event → Bool
is_start (Start c) = true
is_start _ = false

abbrev pub is_pause : Event → Bool
is_pause (Pause seconds) = seconds == 60
is_pause _ = false

-- a script that exits 21 thirty times and then 0 is started 31 times with 30 pauses; with a 31st 21 it isn't good
abbrev pub TriesThirtyOne : Type 0
TriesThirtyOne =
    (length (filter is_start (events_for (block first_name 30) (replicate 30 (Exit 21) ++ Exit 0 ∷ []))) ≡ 31)
    × (length (filter is_pause (events_for (block first_name 30) (replicate 30 (Exit 21) ++ Exit 0 ∷ []))) ≡ 30)
    × (result_for (block first_name 30) (replicate 30 (Exit 21) ++ Exit 0 ∷ []) ≡ Some true)
    × (length (filter is_pause (events_for (block first_name 30) (replicate 31 (Exit 21)))) ≡ 30)
    × (result_for (block first_name 30) (replicate 31 (Exit 21)) ≡ Some false)

-- the first script exits 1, or isn't started: the second is left out
abbrev pub StopsAtTheFirst : Type 0
StopsAtTheFirst =
    (events_for (run both Checked) (Exit 1 ∷ []) ≡ Start (Script first_name) ∷ End (Exit 1) ∷ [])
    × (result_for (run both Checked) (Exit 1 ∷ []) ≡ Some false)
    × (result_for (run both Checked) (NotStarted ∷ []) ≡ Some false)
    × (result_for (run both Checked) (Exit 0 ∷ Exit 0 ∷ []) ≡ Some true)

-- the same with the answers ignored: both run
abbrev pub GoesOnIgnored : Type 0
GoesOnIgnored =
    (events_for (run both Ignored) (Exit 1 ∷ Exit 0 ∷ []) ≡ Start (Script first_name) ∷ End (Exit 1) ∷ Start (Script second_name) ∷ End (Exit 0) ∷ [])
    × (result_for (run both Ignored) (Exit 1 ∷ Exit 0 ∷ []) ≡ Some true)

-- each is started one time, also where it asks for another
abbrev pub StartsOnce : Type 0
StartsOnce =
    (events_for (run both Once) (Exit 1 ∷ Exit 21 ∷ []) ≡ Start (Script first_name) ∷ End (Exit 1) ∷ Start (Script second_name) ∷ End (Exit 21) ∷ [])
    × (result_for (run both Once) (Exit 1 ∷ Exit 21 ∷ []) ≡ Some true)
