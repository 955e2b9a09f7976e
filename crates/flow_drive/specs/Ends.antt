-- How the calls of a state end.
use Rattle.device_model.specs.State.{State}
use Rattle.flow_table.specs.declared.table.Heard.{Heard}
use Rattle.flow_words.specs.Course.{Course}
use Rattle.flow_words.specs.Stretch.{Finishes, Stops}
use Rattle.flow_drive.specs.declared.payloads.StateEnd.{StateEnd}
use Rattle.flow_drive.specs.declared.payloads.StateEnd.TheVariants as state_end

-- the whole word of a course and what was heard, or a part of it and a loss of power
abbrev pub EndsState : Course Heard → StateEnd → State → State → Type 0
EndsState t (state_end.Heard h) old new = Finishes t h old new
EndsState t state_end.Off old new = Stops t old new
