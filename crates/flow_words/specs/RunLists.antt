-- A run of scripts, as a list of events.
use Rattle.std.specs.Prelude.{◌≡◌, ℕ, Bool, true, false, List, [], ◌∷◌, ◌++◌}
use Rattle.device_model.specs.declared.calls.Answer.{Answer}
use Rattle.device_model.specs.declared.calls.Call.TheVariants.{Script}
use Rattle.device_model.specs.declared.calls.Event.{Event}
use Rattle.device_model.specs.declared.calls.Event.TheVariants.{Start, End}
use Rattle.flow_words.specs.Blocks.{IsBlock}

-- checked: good blocks, up to the end or to one that isn't good
pub data IsCheckedRun : List (List ℕ) → List Event → Bool → Type 0 where
  none_left : IsCheckedRun [] [] true
  is_good : {name : List ℕ} {names : List (List ℕ)} {all : List Event} {good : Bool} (w v : List Event) → IsBlock name w true → IsCheckedRun names v good → all ≡ w ++ v → IsCheckedRun (name ∷ names) all good
  is_bad : {name : List ℕ} {names : List (List ℕ)} {w : List Event} → IsBlock name w false → IsCheckedRun (name ∷ names) w false

-- ignored: the block of each script, good or not
pub data IsIgnoredRun : List (List ℕ) → List Event → Type 0 where
  no_block : IsIgnoredRun [] []
  a_block : {name : List ℕ} {names : List (List ℕ)} {all : List Event} (w v : List Event) (good : Bool) → IsBlock name w good → IsIgnoredRun names v → all ≡ w ++ v → IsIgnoredRun (name ∷ names) all

-- once: the start and the end of each script
pub data IsRunOnce : List (List ℕ) → List Event → Type 0 where
  no_try : IsRunOnce [] []
  a_try : {name : List ℕ} {names : List (List ℕ)} {all : List Event} (a : Answer) (v : List Event) → IsRunOnce names v → all ≡ Start (Script name) ∷ End a ∷ v → IsRunOnce (name ∷ names) all
