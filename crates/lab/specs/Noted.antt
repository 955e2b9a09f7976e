-- What is noted of boots in a row.
use Rattle.std.specs.Prelude.{◌≡◌, List, [], ◌∷◌, Option, Some, None}
use Rattle.device_model.specs.Disk.{Disk}
use Rattle.io_model.specs.Source.{Content}
use Rattle.script_names.specs.declared.site.Site.{Site}
use Rattle.flow_words.specs.Pieces.{Halted}
use Rattle.record_codec.specs.declared.entry.Db.{Db}
use Rattle.slot_store.specs.Slots.{May}
use Rattle.trace_check.specs.declared.note.Note.{Note}
use Rattle.client_top.specs.Answers.{end_of}
use Rattle.client_top.specs.Notes.{deed_of, end_noted}
use Rattle.client_top.specs.NoteHeads.{IsHead}
use Rattle.trace_check.specs.Follows.{Chain}
use Rattle.lab.specs.declared.runs.BootRun.{BootRun}
use Rattle.lab.specs.Path.{Step}

-- The note is of this boot, which led from the database c to d.
pub record IsNoteOf (site : Site) (c : Db) (run : BootRun) (d : Db) (note : Note) : Type 0 where
  pub head : IsHead site run.command c (end_of run.status) d note.head
  pub events : note.events.events ≡ run.events.events
  pub end : note.end ≡ end_noted (end_of run.status)

-- The notes of boots in a row, from c to d.
pub data Noted (site : Site) (content : Content) : Db → List BootRun → Db → List Note → Type 0 where
  -- no boot
  none : {c : Db} → Noted site content c [] c []
  -- a boot that is noted
  one : {c m d : Db} {run : BootRun} {runs : List BootRun} {note : Note} {notes : List Note}
      → Step site content c run m → IsNoteOf site c run m note → Noted site content m runs d notes
      → Noted site content c (run ∷ runs) d (note ∷ notes)
  -- a command that runs no deployment has no note
  looks : {c m d : Db} {run : BootRun} {runs : List BootRun} {notes : List Note}
      → Step site content c run m → deed_of run.command ≡ None → Noted site content m runs d notes
      → Noted site content c (run ∷ runs) d notes
  -- and a boot that was cut off and left the database as it was need have none
  unmoved : {c m d : Db} {run : BootRun} {runs : List BootRun} {notes : List Note}
      → Step site content c run m → end_of run.status ≡ Some Halted → m ≡ c → Noted site content m runs d notes
      → Noted site content c (run ∷ runs) d notes

-- From some database that could stand on the disk the boots led to d, and were noted by the databases between; these notes are a
-- chain.
pub record LedNoted (site : Site) (content : Content) (old : Option Disk) (runs : List BootRun) (d : Db) : Type 0 where
  pub from : Db
  pub may : May old from
  pub notes : List Note
  pub noted : Noted site content from runs d notes
  pub chain : Chain notes
