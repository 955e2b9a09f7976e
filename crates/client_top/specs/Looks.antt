-- What is found before a boot that is noted, and what is written behind it.
use Rattle.std.specs.Prelude.{◌≡◌, ◌≤◌, ◌⊎◌, ℕ, false, if◌then◌else◌, List, [], length, Option, Some, None, IfSome, Result, Ok, Err, ⊤}
use Rattle.device_model.specs.declared.calls.Event.{Event}
use Rattle.device_model.specs.State.{State}
use Rattle.device_model.specs.How.{Through}
use Rattle.io_model.specs.Source.{Content, When}
use Rattle.io_model.specs.Sink.{Written, Puts}
use Rattle.io_model.specs.declared.sink.SinkFault.{SinkFault as Fault}
use Rattle.script_names.specs.declared.site.Site.{Site}
use Rattle.admit.specs.Given.{SparesPayloads}
use Rattle.flow_table.specs.declared.table.TheConstants.{MOST_KINDS}
use Rattle.record_codec.specs.declared.entry.Db.{Db}
use Rattle.record_codec.specs.Spelling.{IsRight, IfFull}
use Rattle.slot_store.specs.Kept.{Kept}
use Rattle.slot_store.specs.Mount.{AddsNoDb, IsBad}
use Rattle.slot_store.specs.Put.{Wrote}
use Rattle.slot_store.specs.declared.store.MountFault.{MountFault}
use Rattle.slot_store.specs.declared.store.MountFault.TheVariants.{Off, BadStore, DiskFault as DiskFailed, NoMemory as Wanting}
use Rattle.trace_check.specs.declared.note.Deed.{Deed}
use Rattle.trace_check.specs.declared.note.Deed.TheVariants.{Install}
use Rattle.trace_check.specs.declared.note.NoteEnd.{NoteEnd}
use Rattle.trace_check.specs.declared.note.NoteHead.{NoteHead}
use Rattle.trace_check.specs.Form.{has_text}
use Rattle.trace_check.specs.Texts.{note_text}
use Rattle.client_top.specs.declared.status.Status.{Status}
use Rattle.client_top.specs.declared.status.Status.TheVariants.{DiskFault, SourceFault, NoMemory, SinkFault, PowerOff}
use Rattle.client_top.specs.Answers.{row_of, end_of, text_of}
use Rattle.client_top.specs.Did.{Did, Shelf}
use Rattle.client_top.specs.Finds.{Request}
use Rattle.client_top.specs.Notes.{end_noted}
use Rattle.client_top.specs.Steps.{Mounted}
use Rattle.client_top.specs.Traced.{DoesAs, head_of, is_noted, with_lists}

-- ---- before it

-- a note of this deed; that of an install has as many payload types as there may be
pub record IsHeadOf (deed : Deed) (head : NoteHead) : Type 0 where
  pub of_deed : head.deed ≡ deed
  pub some : deed ≡ Install → 1 ≤ length head.kinds
  pub few : deed ≡ Install → length head.kinds ≤ MOST_KINDS

-- the note begins so over this database
pub record BeginsNote (deed : Deed) (site : Site) (content : Content) (c : Db) (found : Option NoteHead) : Type 0 where
  pub told : When content (λ t. found ≡ head_of deed site t c)
  pub head : IfSome found (λ head. IsHeadOf deed head)

-- how a note begins by a tree, or why that can't be said
abbrev pub PlansNote : Site → Content → Db → Result (Option NoteHead) Status → Type 0
PlansNote site content c (Ok found) = BeginsNote Install site content c found
PlansNote site content c (Err SourceFault) = ⊤
PlansNote site content c (Err NoMemory) = ⊤
PlansNote site content c (Err status) = ⊥

-- no payload was read, and nothing failed; without a tree nothing was read at all
abbrev pub OnlyLooks : Deed → Content → Shelf → Shelf → Type 0
OnlyLooks Install content old new = (new.faults ≡ old.faults) × When content (λ t. SparesPayloads t old.given new.given)
OnlyLooks deed content old new = new ≡ old

-- the store was mounted, and the note begins so; or it is none
pub data Looked (deed : Deed) (site : Site) (content : Content) (old new : State) : Option NoteHead → Type 0 where
  read : {found : Option NoteHead} (store : Kept) → Mounted store old new → IfFull IsRight store.db → BeginsNote deed site content store.db found → Looked deed site content old new found
  bad : (offset : ℕ) → Wrote Through old new → AddsNoDb old.disk new.disk → IsBad offset old new → Looked deed site content old new None

-- it couldn't be looked: this is answered, and no note is written
pub record FailsLook (deed : Deed) (asked : Request) (status : Status) (old new : State) (shelf shelf' : Shelf) : Type 0 where
  pub from : Option Db
  pub done : Request
  pub does : DoesAs (Some deed) asked from status done
  pub did : Did done from status old new shelf shelf'
  pub text : text_of asked.command from status ≡ (row_of status).text
  pub unnoted : (is_noted status ≡ false) ⊎ (status ≡ SourceFault)

-- a store that is no record has no note
abbrev pub unmounted : MountFault → Result (Option NoteHead) Status
unmounted (BadStore offset) = Ok None
unmounted Off = Err PowerOff
unmounted DiskFailed = Err DiskFault
unmounted Wanting = Err NoMemory

-- what the look finds, or what is answered
abbrev pub Looks : Deed → Request → State → State → Shelf → Shelf → Result (Option NoteHead) Status → Type 0
Looks deed asked old new shelf shelf' (Ok found) = Looked deed asked.site asked.content old new found × OnlyLooks deed asked.content shelf shelf'
Looks deed asked old new shelf shelf' (Err status) = FailsLook deed asked status old new shelf shelf'

-- ---- behind it

-- what is written of a note that begins so
abbrev pub written_by : NoteHead → List Event → NoteEnd → List ℕ
written_by head events e = if has_text head events e then note_text head events e else []

abbrev pub written : Option NoteHead → List Event → Status → List ℕ
written None events status = []
written (Some head) events status =
    if is_noted status then written_by (with_lists (end_noted (end_of status)) head) events (end_noted (end_of status)) else []

abbrev pub status_by : Result (Unit {0}) Fault → Status → Status
status_by (Ok u) status = status
status_by (Err e) status = SinkFault

-- the note was written behind an answer, or the sink failed
pub record AddsNote (text : List ℕ) (before : Written) (status : Status) (behind : Written) (result : Status) : Type 0 where
  pub put : Result (Unit {0}) Fault
  pub puts : Puts before text put behind
  pub still : is_noted status ≡ false → behind ≡ before
  pub is : result ≡ status_by put status
