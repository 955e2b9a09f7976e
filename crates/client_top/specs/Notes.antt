-- What is noted of a command that runs a deployment.
use Rattle.std.specs.Prelude.{Option, Some, None}
use Rattle.flow_words.specs.Pieces.{End}
use Rattle.client_words.specs.declared.command.Command.{Command}
use Rattle.client_words.specs.declared.command.Command.TheVariants as command
use Rattle.trace_check.specs.declared.note.Deed.{Deed}
use Rattle.trace_check.specs.declared.note.Deed.TheVariants.{Install, Resume, ResumeStop, Commit, Rollback}
use Rattle.trace_check.specs.declared.note.NoteEnd.{NoteEnd}
use Rattle.trace_check.specs.declared.note.NoteEnd.TheVariants.{Nothing}
use Rattle.trace_check.specs.Follows.{noted}

-- the deed of a command that runs a deployment
abbrev pub deed_of : Command → Option Deed
deed_of command.Install = Some Install
deed_of command.Resume = Some Resume
deed_of command.ResumeStop = Some ResumeStop
deed_of command.Commit = Some Commit
deed_of command.Rollback = Some Rollback
deed_of _ = None

-- how a boot ends in its note
abbrev pub end_noted : Option End → NoteEnd
end_noted None = Nothing
end_noted (Some e) = noted e
