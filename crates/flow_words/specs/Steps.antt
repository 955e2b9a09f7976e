-- A run of a state, told step by step.
use Rattle.std.specs.Prelude.{◌≡◌, Bool, true, false, List, ◌++◌}
use Rattle.device_model.specs.declared.calls.Event.{Event}
use Rattle.script_names.specs.declared.place.Action.TheVariants.{Enter, Leave}
use Rattle.flow_table.specs.declared.table.Heard.{Heard}
use Rattle.flow_table.specs.declared.table.Heard.TheVariants.{Failed}
use Rattle.flow_words.specs.declared.rows.Row.{Row}
use Rattle.flow_words.specs.Course.{Whole}
use Rattle.flow_words.specs.Words.{Callees, scripts, main_call, question, errors, is_failed}

-- Enter scripts, main call, question and Leave scripts, up to and with the first that fails
pub data IsCalls (who : Callees) (row : Row) : List Event → Heard → Type 0 where
  enter_failed : {w : List Event} → Whole (scripts who Enter row.enter) w false → IsCalls who row w Failed
  main_failed : {w : List Event} (enter main : List Event) → Whole (scripts who Enter row.enter) enter true → Whole (main_call who.kinds row.main) main false → w ≡ enter ++ main → IsCalls who row w Failed
  question_failed : {w : List Event} (enter main question_events : List Event) (h : Heard) → Whole (scripts who Enter row.enter) enter true → Whole (main_call who.kinds row.main) main true → Whole (question who.kinds row.query) question_events h → is_failed h ≡ true → w ≡ enter ++ (main ++ question_events) → IsCalls who row w Failed
  leave_failed : {w : List Event} (enter main question_events leave : List Event) (h : Heard) → Whole (scripts who Enter row.enter) enter true → Whole (main_call who.kinds row.main) main true → Whole (question who.kinds row.query) question_events h → is_failed h ≡ false → Whole (scripts who Leave row.leave) leave false → w ≡ enter ++ (main ++ (question_events ++ leave)) → IsCalls who row w Failed
  all_well : {w : List Event} (enter main question_events leave : List Event) (h : Heard) → Whole (scripts who Enter row.enter) enter true → Whole (main_call who.kinds row.main) main true → Whole (question who.kinds row.query) question_events h → is_failed h ≡ false → Whole (scripts who Leave row.leave) leave true → w ≡ enter ++ (main ++ (question_events ++ leave)) → IsCalls who row w h

-- these, and the Error scripts where one failed
pub data IsRun (who : Callees) (row : Row) : List Event → Heard → Type 0 where
  well : {w : List Event} {h : Heard} → is_failed h ≡ false → IsCalls who row w h → IsRun who row w h
  failed : {w : List Event} (made errors_made : List Event) (good : Bool) → IsCalls who row made Failed → Whole (errors who row.error) errors_made good → w ≡ made ++ errors_made → IsRun who row w Failed
