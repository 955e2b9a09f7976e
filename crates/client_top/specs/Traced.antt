-- What a command does whose boot is noted: what it does without, and behind its text the note of the boot.
use Rattle.std.specs.Prelude.{◌≡◌, ◌≢◌, ◌⊎◌, ℕ, Bool, true, false, if◌then◌else◌, List, [], ◌++◌, Option, Some, None, Result, Ok, Err}
use Rattle.std.specs.Option.{option_and_then}
use Rattle.device_model.specs.declared.calls.Event.{Event}
use Rattle.device_model.specs.Disk.{Disk, IsTold}
use Rattle.device_model.specs.State.{State}
use Rattle.io_model.specs.Source.{Tree, When}
use Rattle.io_model.specs.Sink.{Written}
use Rattle.script_names.specs.declared.site.Site.{Site}
use Rattle.admit.specs.Admit.{head_plan_of}
use Rattle.admit.specs.declared.admitted.Admitted.{Admitted}
use Rattle.admit.specs.declared.refusal.Refusal.{Refusal}
use Rattle.flow_table.specs.declared.position.State.TheVariants.{Idle}
use Rattle.record_codec.specs.declared.entry.Db.{Db}
use Rattle.record_codec.specs.declared.entry.Db.TheVariants.{Empty, Full}
use Rattle.record_codec.specs.Held.{held, position_of}
use Rattle.trace_check.specs.declared.note.Deed.{Deed}
use Rattle.trace_check.specs.declared.note.Deed.TheVariants.{Install}
use Rattle.trace_check.specs.declared.note.NoteEnd.{NoteEnd}
use Rattle.trace_check.specs.declared.note.NoteEnd.TheVariants.{Nothing}
use Rattle.trace_check.specs.declared.note.NoteHead.{NoteHead}
use Rattle.trace_check.specs.Form.{has_text}
use Rattle.trace_check.specs.Texts.{note_text}
use Rattle.client_words.specs.declared.command.Command.TheVariants as command
use Rattle.client_top.specs.declared.status.Status.{Status}
use Rattle.client_top.specs.declared.status.Status.TheVariants.{DiskFault, SourceFault, NoMemory, SinkFault, PowerOff}
use Rattle.client_top.specs.Answers.{Words, end_of, text_of}
use Rattle.client_top.specs.Did.{Did, Shelf, Said}
use Rattle.client_top.specs.Finds.{Request}
use Rattle.client_top.specs.Notes.{deed_of, end_noted}

-- ---- which boots are noted

abbrev deed_said : Words → Option Deed
deed_said (Ok command) = deed_of command
deed_said (Err fault) = None

-- what is noted: a command that runs a deployment, where a trace is asked for
abbrev pub deed_noted : Bool → Words → Option Deed
deed_noted true words = deed_said words
deed_noted false words = None

-- no note tells of a boot that was cut off or that wanted memory
abbrev pub is_noted : Status → Bool
is_noted DiskFault = false
is_noted NoMemory = false
is_noted SinkFault = false
is_noted PowerOff = false
is_noted status = true

-- ---- how a note begins

abbrev pub head_with : Deed → Site → Db → List (List ℕ) → List (List ℕ) → NoteHead
head_with deed site c kinds scripts = record { deed = deed; from = position_of c; kinds = kinds; scripts = scripts; site = site.scripts }

-- with the lists of the deployment that is held
abbrev pub head_held : Deed → Site → Db → NoteHead
head_held deed site Empty = head_with deed site Empty [] []
head_held deed site (Full e) = head_with deed site (Full e) e.kinds e.scripts

-- with those of the tree's plan
abbrev pub head_planned : Site → Db → Admitted → NoteHead
head_planned site c plan = head_with Install site c plan.header.kinds plan.scripts

abbrev pub unless_refused : Site → Db → Result Admitted Refusal → Option NoteHead
unless_refused site c (Ok plan) = Some (head_planned site c plan)
unless_refused site c (Err refusal) = None

-- the note of an install begins with its tree, and not where that is refused; each other one with what is held
abbrev pub head_of : Deed → Site → Tree → Db → Option NoteHead
head_of Install site t c = unless_refused site c (head_plan_of t site.device_type (held c))
head_of deed site t c = Some (head_held deed site c)

-- where nothing was done, nobody was called
abbrev pub with_lists : NoteEnd → NoteHead → NoteHead
with_lists Nothing head = record head { kinds = []; scripts = []; site = [] }
with_lists e head = head

-- ---- its text

-- the text of a note that begins so, with these events and this end
abbrev pub noted_text : NoteHead → List Event → NoteEnd → List ℕ
noted_text head events e = note_text (with_lists e head) events e

abbrev pub text_by : Option NoteHead → List Event → Status → List ℕ
text_by None events status = []
text_by (Some head) events status = if is_noted status then noted_text head events (end_noted (end_of status)) else []

-- the text of the note that is due, over the database that was read
abbrev pub text_due : Deed → Site → Tree → Option Db → List Event → Status → List ℕ
text_due deed site t from events status = text_by (option_and_then (head_of deed site t) from) events status

-- the tree is looked into before the command is done, and what can't be read then leaves no note
abbrev pub IsDue : Status → List ℕ → List ℕ → Type 0
IsDue SourceFault due text = (text ≡ []) ⊎ (text ≡ due)
IsDue status due text = text ≡ due

-- nothing, or a note of this deed, with these events and this end
pub data IsNoteOf (deed : Deed) (events : List Event) (e : NoteEnd) : List ℕ → Type 0 where
  none : IsNoteOf deed events e []
  one : (head : NoteHead) → head.deed ≡ deed → has_text head events e ≡ true → IsNoteOf deed events e (note_text head events e)

-- The text behind the answer: of a disk and a tree that are told, the note that is due.
pub record NotesBoot (deed : Deed) (asked : Request) (disk : Option Disk) (from : Option Db) (events : List Event) (status : Status) (text : List ℕ) : Type 0 where
  pub of_boot : IsNoteOf deed events (end_noted (end_of status)) text
  pub due : IsTold disk → When asked.content (λ t. IsDue status (text_due deed asked.site t from events status) text)

-- of a boot that isn't noted there is none
abbrev pub NotesIf : Option Deed → Request → Option Disk → Option Db → List Event → Status → List ℕ → Type 0
NotesIf None asked disk from events status text = text ≡ []
NotesIf (Some deed) asked disk from events status text = NotesBoot deed asked disk from events status text

-- ---- the whole

-- an install that is noted looks into its tree also where a deployment is in progress: a fault there is that of a check
pub data DoesAs (deed : Option Deed) (asked : Request) (from : Option Db) (status : Status) : Request → Type 0 where
  as_asked : DoesAs deed asked from status asked
  looks : (c : Db) → deed ≡ Some Install → from ≡ Some c → (position_of c).state ≢ Idle → status ≡ SourceFault → DoesAs deed asked from status (record asked { command = Ok command.Check })

-- One command whose boot is noted, if that is asked for: it did what it does, told it, and behind it the note.
pub record Traced (deed : Option Deed) (asked : Request) (old new : State) (source source' : Shelf) (before behind : Written) (result : Status) : Type 0 where
  pub from : Option Db
  pub meant : Status
  pub note : List ℕ
  pub done : Request
  pub does : DoesAs deed asked from meant done
  pub did : Did done from meant old new source source'
  pub notes : NotesIf deed asked old.disk from did.events meant note
  pub said : Said meant (text_of asked.command from meant ++ note) before behind result
