-- How a run of scripts ends.
use Rattle.std.specs.Prelude.{Bool, true, false}
use Rattle.device_model.specs.State.{State}
use Rattle.flow_words.specs.Course.{Course}
use Rattle.flow_words.specs.Stretch.{Finishes, Stops}
use Rattle.script_runs.specs.declared.run.RunEnd.{RunEnd}
use Rattle.script_runs.specs.declared.run.RunEnd.TheVariants.{Done, Failed, Off}

-- the whole word of a course and whether it is good, or a part of it and a loss of power
abbrev pub EndsRun : Course Bool → RunEnd → State → State → Type 0
EndsRun t Done old new = Finishes t true old new
EndsRun t Failed old new = Finishes t false old new
EndsRun t Off old new = Stops t old new
