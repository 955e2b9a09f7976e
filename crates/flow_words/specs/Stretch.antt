-- What children and pauses leave of a device, and which words of a course they make.
use Rattle.std.specs.Prelude.{List}
use Rattle.device_model.specs.declared.calls.Event.{Event}
use Rattle.device_model.specs.Disk.{KeepsDisk}
use Rattle.device_model.specs.State.{State}
use Rattle.device_model.specs.How.{How, Through, PowerLost, Passed}
use Rattle.device_model.specs.declared.calls.Call.{Call}
use Rattle.device_model.specs.declared.calls.Answer.TheVariants as answer
use Rattle.device_model.specs.declared.calls.Ran.{Ran}
use Rattle.device_model.specs.declared.calls.Ran.TheVariants as ran
use Rattle.device_model.specs.declared.calls.Asked.{Asked}
use Rattle.device_model.specs.declared.calls.Asked.TheVariants as asked
use Rattle.flow_words.specs.Course.{Course, Whole, Part, child}

-- These events were added and nothing is written: the disk may hold nothing new.
pub record Stretch (events : List Event) (how : How) (old new : State) : Type 0 where
  pub passed : Passed events how old new
  pub disk : KeepsDisk old.disk new.disk

-- all of a course was done, with this result
pub record Finishes {A : Type 0} (t : Course A) (result : A) (old new : State) : Type 0 where
  pub events : List Event
  pub stretch : Stretch events Through old new
  pub whole : Whole t events result

-- a part of a course was done, and then power was lost
pub record Stops {A : Type 0} (t : Course A) (old new : State) : Type 0 where
  pub events : List Event
  pub stretch : Stretch events PowerLost old new
  pub part : Part t events

-- what a child leaves, by its answer
abbrev pub RanChild : Call → Ran → State → State → Type 0
RanChild c (ran.Exit code) old new = Finishes (child c) (answer.Exit code) old new
RanChild c ran.NotStarted old new = Finishes (child c) answer.NotStarted old new
RanChild c ran.Off old new = Stops (child c) old new

-- what a question leaves, by its reply
abbrev pub RanAsk : Call → Asked → State → State → Type 0
RanAsk c (asked.Reply code text) old new = Finishes (child c) (answer.Reply code text) old new
RanAsk c asked.NotStarted old new = Finishes (child c) answer.NotStarted old new
RanAsk c asked.Off old new = Stops (child c) old new
