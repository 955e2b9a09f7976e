-- Where an outcome of a deployment comes from.
use Rattle.std.specs.Prelude.{◌≡◌, ℕ, ◌+◌, Bool, false, IsFalse, List, [], ◌∷◌, ◌++◌}
use Rattle.device_model.specs.declared.calls.Answer.TheVariants.{Exit}
use Rattle.device_model.specs.declared.calls.Call.TheVariants.{Module}
use Rattle.device_model.specs.declared.calls.Event.{Event}
use Rattle.device_model.specs.declared.calls.Event.TheVariants.{Start, End as Ends}
use Rattle.device_model.specs.declared.calls.ModState.{ModState}
use Rattle.device_model.specs.declared.calls.ModState.TheVariants.{ArtifactCommit}
use Rattle.flow_table.specs.declared.position.Outcome.TheVariants.{Undecided}
use Rattle.flow_table.specs.declared.position.Position.{Position}
use Rattle.flow_table.specs.declared.position.State.TheVariants.{Rollback}
use Rattle.flow_table.specs.declared.table.Heard.{Heard}
use Rattle.flow_table.specs.Laws.{IsTrial, is_fine}
use Rattle.flow_words.specs.Course.{Course, Whole}
use Rattle.flow_words.specs.Pieces.{Halted, Pieces}

-- the modules of these types were called in turn, from payload k on, and each exited 0
abbrev pub all_exit_0 : ℕ → List (List ℕ) → ModState → List Event
all_exit_0 k [] state = []
all_exit_0 k (kind ∷ kinds) state = Start (Module k kind state) ∷ Ends (Exit 0) ∷ all_exit_0 (k + 1) kinds state

-- all modules were called to commit, and each exited 0
pub record HasCommit (kinds : List (List ℕ)) (events : List Event) : Type 0 where
  pub before : List Event
  pub behind : List Event
  pub is : events ≡ before ++ (all_exit_0 0 kinds ArtifactCommit ++ behind)

-- what makes a deployment inconsistent where a state was run and this was heard
pub data Cause (p : Position) (heard : Heard) : Type 0 where
  -- something is installed, the state failed, and the modules can't take it back
  cannot_roll_back : IsTrial p.state → IsFalse (is_fine p.state heard) → p.undoable ≡ false → Cause p heard
  -- taking it back failed
  failed_to_roll_back : p.state ≡ Rollback → IsFalse (is_fine p.state heard) → Cause p heard
  -- nothing was decided, and no further state may be entered
  at_the_limit : p.n ≡ 28 → p.outcome ≡ Undecided → Cause p heard

-- on the way from the first position, a state was run that made the deployment inconsistent
pub record Broke (words : Position → Course Heard) (stop : Bool) (first : Position) (events : List Event) : Type 0 where
  pub there : Position
  pub heard : Heard
  pub front : List Event
  pub piece : List Event
  pub back : List Event
  pub is : events ≡ front ++ (piece ++ back)
  pub came : Pieces words stop first front Halted there
  pub ran : Whole (words there) piece heard
  pub cause : Cause there heard
