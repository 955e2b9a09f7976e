-- What one command promises: the device, the source and the sink before and after it, by what it answers.
use Rattle.std.specs.Prelude.{◌≡◌, ◌↔◌, ℕ, ◌&&◌, Bool, true, false, List, [], Option, Some, None, IfSome, Ok, ⊤}
use Rattle.device_model.specs.declared.calls.Event.{Event}
use Rattle.upd_text.specs.Told.{WhereTold}
use Rattle.device_model.specs.Disk.{Disk, IsTold, IsSettled, area_of}
use Rattle.device_model.specs.Work.{Work}
use Rattle.device_model.specs.State.{State}
use Rattle.io_model.specs.Source.{Content, When}
use Rattle.io_model.specs.Sink.{Written, Writes, WritesFront}
use Rattle.flow_table.specs.Table.{fresh_position}
use Rattle.flow_words.specs.Pieces.{End}
use Rattle.device_model.specs.How.{Passed, SameArea, has_start}
use Rattle.flow_drive.specs.Drive.{Leads}
use Rattle.record_codec.specs.declared.entry.Db.{Db}
use Rattle.record_codec.specs.Spelling.{IsRight, IfFull}
use Rattle.record_codec.specs.Held.{held}
use Rattle.slot_store.specs.Slots.{May, Sound, Stands}
use Rattle.admit.specs.Given.{ReadsPayloads}
use Rattle.admit.specs.declared.admitted.Admitted.{Admitted}
use Rattle.admit.specs.declared.refusal.Refusal.TheVariants.{PayloadDiffers}
use Rattle.work_folder.specs.Rows.{rows_of}
use Rattle.work_folder.specs.Folder as folder
use Rattle.client_words.specs.declared.command.Command.TheVariants.{Install}
use Rattle.client_top.specs.declared.status.Status.{Status}
use Rattle.client_top.specs.declared.status.Status.TheVariants.{Refused, NoMemory, SinkFault}
use Rattle.client_top.specs.Finds.{Request, Found, Answers, Starts, Unsaid, finds, begun}
use Rattle.client_top.specs.Boot.{Boot, Fits}
use Rattle.client_top.specs.Answers.{Words, Basis, Wording, Slot, row_of, end_of, how_of, text_of, source_count, is_synced, Due, weighs}

-- ---- the device

abbrev pub is_install : Words → Bool
is_install (Ok Install) = true
is_install _ = false

-- a deployment begins, or would begin but for a sum of its payload, which is read while it is copied
abbrev pub is_copied : Found → Bool
is_copied (Starts e p) = true
is_copied Unsaid = true
is_copied (Answers (Refused (PayloadDiffers d))) = true
is_copied _ = false

-- the work folder is emptied and filled
abbrev pub prepares : Request → Option Db → Bool
prepares asked None = false
prepares asked (Some c) = is_install asked.command && is_copied (finds asked c)

-- What the first child of a deployment that begins was given: the files of one plan, over what the database held that was
-- read; and the events are those of that plan's deployment.
pub record Given (asked : Request) (c : Db) (events : List Event) (end : Option End) (ready : Option Work) : Type 0 where
  pub plan : Admitted
  pub fits : Fits asked c plan
  pub last : Db
  pub to : End
  pub ends : end ≡ Some to
  pub leads : Leads asked.site (begun c plan) false fresh_position events to last
  pub files : IfSome ready (λ work. folder.Stands asked.content (rows_of asked.site (held c) plan) work)

-- an area that is told is told still, and stands for the same database, or as before for none
abbrev pub StandsAlike : Option (List ℕ) → Option (List ℕ) → Type 0
StandsAlike None new = ⊤
StandsAlike (Some old) None = ⊥
StandsAlike (Some old) (Some new) = (d : Db) → Stands old d ↔ Stands new d

-- how the area is left where no deployment began or went on
abbrev pub Leaves : Basis → State → State → Type 0
Leaves Wording old new = new ≡ old
Leaves (Slot offset) old new = SameArea old new
Leaves _ old new = StandsAlike (area_of old.disk) (area_of new.disk)

-- What happened to the device. Nothing but children changes the work folder, unless a deployment begins.
pub record DeviceLeft (asked : Request) (from : Option Db) (events : List Event) (status : Status) (old new : State) : Type 0 where
  -- the work folder as it was before the first child
  pub ready : Option Work
  pub told : WhereTold (λ before now. ⊤) old.work ready
  pub kept : prepares asked from ≡ false → ready ≡ old.work
  pub before : status ≡ NoMemory → ready ≡ old.work
  pub passed : Passed events (how_of status) (record old { work = ready }) new
  pub given : prepares asked from ≡ true → has_start events ≡ true → IfSome from (λ c. Given asked c events (end_of status) ready)
  pub leaves : end_of status ≡ None → Leaves (row_of status).basis old new
  pub settled : is_synced (row_of status).basis ≡ true → IsSettled new.disk
  pub sound : Sound old.disk → Sound new.disk

-- ---- the answer

-- a source before or after a command: the count of its faults, and how many bytes of each file it gave, where it tells it
pub record Shelf : Type 0 where
  pub faults : ℕ
  pub given : Option (List ℕ)

-- A command that looks into a tree reads each payload's file at most once, and whole where a child was started. All others leave
-- the source as it is.
abbrev pub Reads : Bool → List Event → Content → Option (List ℕ) → Option (List ℕ) → Type 0
Reads true events content old new = When content (λ t. ReadsPayloads (has_start events) t old new)
Reads false events content old new = new ≡ old

-- What the answer rests on.
pub record AnswerRests (asked : Request) (from : Option Db) (events : List Event) (status : Status) (area : Option (List ℕ)) (old new : Shelf) : Type 0 where
  pub due : Due asked from area status
  -- the database that was read is the one that the area stood for
  pub read : IfSome from (λ c. IfFull IsRight c × IfSome area (λ a. Stands a c))
  pub source : new.faults ≡ source_count (row_of status).basis old.faults
  pub given : Reads (weighs asked.command) events asked.content old.given new.given

-- ---- the database

-- the way from the database that was read; where none was read nothing was done
abbrev pub Path : Request → Option Db → List Event → Option End → Type 0
Path asked None events end = events ≡ []
Path asked (Some c) events end = (d : Db) × Boot asked c events end d

-- From the database that was read the boot leads to d; where none was read, d could stand before.
abbrev pub LeadsTo : Request → Option Db → List Event → Option End → Option Disk → Db → Type 0
LeadsTo asked None events end old d = May old d
LeadsTo asked (Some c) events end old d = May old c × Boot asked c events end d

-- Where the database went: along the path on every device; where the device is told, whatever may stand then.
pub record DatabaseWent (asked : Request) (from : Option Db) (events : List Event) (end : Option End) (old new : Option Disk) : Type 0 where
  pub path : Path asked from events end
  pub came : IsTold old → (d : Db) → May new d → LeadsTo asked from events end old d

-- ---- the whole

-- What was done, by the answer that is to be given, from the database that was read, if one was.
pub record Did (asked : Request) (from : Option Db) (status : Status) (old new : State) (source source' : Shelf) : Type 0 where
  pub events : List Event
  pub device : DeviceLeft asked from events status old new
  pub answer : AnswerRests asked from events status (area_of old.disk) source source'
  pub database : DatabaseWent asked from events (end_of status) old.disk new.disk

-- The answer was given and its text was written, or the sink failed and a front of the text was.
pub data Said (meant : Status) (text : List ℕ) (old new : Written) : Status → Type 0 where
  whole : Writes old text new → Said meant text old new meant
  cut : WritesFront old text new → Said meant text old new SinkFault

-- One command: it did something that some answer tells, and told it.
pub record Obeyed (asked : Request) (old new : State) (source source' : Shelf) (before behind : Written) (result : Status) : Type 0 where
  pub from : Option Db
  pub meant : Status
  pub did : Did asked from meant old new source source'
  pub said : Said meant (text_of asked.command from meant) before behind result
