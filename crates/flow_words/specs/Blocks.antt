-- A script's tries, as a list of events.
use Rattle.std.specs.Prelude.{◌≡◌, ◌≢◌, ℕ, zero, suc, ◌≤◌, Bool, List, [], ◌∷◌, ◌++◌, ◌⊎◌}
use Rattle.device_model.specs.declared.calls.Answer.{Answer}
use Rattle.device_model.specs.declared.calls.Answer.TheVariants.{Exit}
use Rattle.device_model.specs.declared.calls.Call.TheVariants.{Script}
use Rattle.device_model.specs.declared.calls.Event.{Event}
use Rattle.device_model.specs.declared.calls.Event.TheVariants.{Start, End, Pause}
use Rattle.flow_words.specs.Scripts.{is_success}

-- so many tries that end with 21, each with a pause after it
abbrev pub retries : List ℕ → ℕ → List Event
retries name zero = []
retries name (suc j) = Start (Script name) ∷ End (Exit 21) ∷ Pause 60 ∷ retries name j

-- at most 30 such tries, and one that ends the block
pub record IsBlock (name : List ℕ) (w : List Event) (good : Bool) : Type 0 where
  pub tries : ℕ
  pub few : tries ≤ 30
  pub answer : Answer
  pub last : (answer ≢ Exit 21) ⊎ (tries ≡ 30)
  pub events : w ≡ retries name tries ++ Start (Script name) ∷ End answer ∷ []
  pub is_good : is_success answer ≡ good
