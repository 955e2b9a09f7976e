-- The text of a note.
use Rattle.std.specs.Prelude.{ℕ, Bool, true, false, List, ◌++◌, codes, decimal}
use Rattle.std.specs.List.{flat_map}
use Rattle.device_model.specs.declared.calls.Event.{Event}
use Rattle.event_text.specs.Lines.{line}
use Rattle.flow_table.specs.declared.position.Position.{Position}
use Rattle.flow_table.specs.Names.{state_name, outcome_name, reboot_name}
use Rattle.trace_check.specs.declared.note.Deed.{Deed}
use Rattle.trace_check.specs.declared.note.Deed.TheVariants.{Install, Resume, ResumeStop, Commit, Rollback}
use Rattle.trace_check.specs.declared.note.Note.{Note}
use Rattle.trace_check.specs.declared.note.NoteHead.{NoteHead}
use Rattle.trace_check.specs.declared.note.NoteEnd.{NoteEnd}
use Rattle.trace_check.specs.declared.note.NoteEnd.TheVariants.{Nothing, Ended, Waits, RebootNeeded, Halted}

-- ---- words

abbrev pub deed_name : Deed → List ℕ
deed_name Install = codes "install"
deed_name Resume = codes "resume"
deed_name ResumeStop = codes "resume-stop"
deed_name Commit = codes "commit"
deed_name Rollback = codes "rollback"

abbrev pub undoable_name : Bool → List ℕ
undoable_name true = codes "1"
undoable_name false = codes "0"

-- ---- lines

abbrev pub boot_line : Deed → List ℕ
boot_line deed = codes "boot " ++ deed_name deed ++ codes "\n"

abbrev pub from_line : Position → List ℕ
from_line p =
    codes "from " ++ state_name p.state ++ codes " " ++ outcome_name p.outcome ++ codes " " ++ undoable_name p.undoable
    ++ codes " " ++ reboot_name p.reboot ++ codes " " ++ decimal p.n ++ codes "\n"

abbrev pub kind_line : List ℕ → List ℕ
kind_line name = codes "kind " ++ name ++ codes "\n"

abbrev pub script_line : List ℕ → List ℕ
script_line name = codes "script " ++ name ++ codes "\n"

abbrev pub site_line : List ℕ → List ℕ
site_line name = codes "site " ++ name ++ codes "\n"

abbrev pub end_line : NoteEnd → List ℕ
end_line Nothing = codes "end none\n"
end_line (Ended o) = codes "end ended " ++ outcome_name o ++ codes "\n"
end_line Waits = codes "end waits\n"
end_line RebootNeeded = codes "end reboot-needed\n"
end_line Halted = codes "end halted\n"

-- ---- notes

abbrev pub start_text : NoteHead → List ℕ
start_text head = boot_line head.deed ++ from_line head.from

abbrev pub lists_text : NoteHead → List ℕ
lists_text head = flat_map kind_line head.kinds ++ (flat_map script_line head.scripts ++ flat_map site_line head.site)

abbrev pub note_text : NoteHead → List Event → NoteEnd → List ℕ
note_text head events e = start_text head ++ (lists_text head ++ (flat_map line events ++ end_line e))

abbrev pub text_of : Note → List ℕ
text_of note = note_text note.head note.events.events note.end

abbrev pub texts_of : List Note → List ℕ
texts_of notes = flat_map text_of notes
