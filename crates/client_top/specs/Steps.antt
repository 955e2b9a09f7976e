-- What the steps of a command do.
use Rattle.std.specs.Prelude.{◌≡◌, ℕ, ◌<◌, ◌≤◌, Bool, true, false, if◌then◌else◌, nat_lt, Option, Some, Result, Ok, Err, ⊤}
use Rattle.device_model.specs.State.{State}
use Rattle.device_model.specs.How.{Through}
use Rattle.io_model.specs.Source.{Content, When}
use Rattle.script_names.specs.declared.site.Site.{Site}
use Rattle.provides_map.specs.Pairs.{Pairs}
use Rattle.provides_map.specs.After.{after}
use Rattle.std.specs.List.{AllPass}
use Rattle.artifact_meta.specs.Header.{AreKinds}
use Rattle.script_names.specs.Scripts.{is_artifact_script}
use Rattle.admit.specs.Admit.{head_plan_of}
use Rattle.admit.specs.Change.{change_of}
use Rattle.admit.specs.Differing.{in_payload}
use Rattle.admit.specs.IsOf.{IsOf}
use Rattle.admit.specs.declared.admitted.Admitted.{Admitted}
use Rattle.admit.specs.declared.refusal.AdmitFault.{AdmitFault}
use Rattle.admit.specs.declared.refusal.AdmitFault.TheVariants as admit_fault
use Rattle.admit.specs.declared.refusal.Differs.{Differs}
use Rattle.admit.specs.declared.refusal.Refusal.{Refusal}
use Rattle.admit.specs.declared.refusal.Refusal.TheVariants.{SumDiffers, PayloadDiffers}
use Rattle.flow_table.specs.declared.position.Position.{Position}
use Rattle.flow_table.specs.declared.position.Outcome.{Outcome}
use Rattle.flow_table.specs.declared.position.Outcome.TheVariants as outcome
use Rattle.flow_table.specs.declared.table.Opening.TheVariants as opening
use Rattle.flow_table.specs.declared.table.Order.{Order}
use Rattle.flow_table.specs.declared.table.Order.TheVariants as order
use Rattle.flow_table.specs.Table.{first_of, fresh_position}
use Rattle.flow_drive.specs.declared.flow.DriveEnd.{DriveEnd}
use Rattle.flow_drive.specs.declared.flow.DriveEnd.TheVariants as drive_end
use Rattle.record_codec.specs.declared.length.TheConstants.{LARGEST_RECORD}
use Rattle.record_codec.specs.declared.entry.Entry.{Entry}
use Rattle.record_codec.specs.declared.entry.Db.{Db}
use Rattle.record_codec.specs.declared.entry.Db.TheVariants.{Full}
use Rattle.record_codec.specs.Spelling.{IsRight, record_length}
use Rattle.record_codec.specs.Held.{held}
use Rattle.slot_store.specs.declared.store.MountFault.{MountFault}
use Rattle.slot_store.specs.declared.store.MountFault.TheVariants as mount_fault
use Rattle.slot_store.specs.Kept.{Kept}
use Rattle.slot_store.specs.Put.{Wrote}
use Rattle.slot_store.specs.Mount.{IsMounted, AddsNoDb}
use Rattle.work_folder.specs.declared.fault.PrepareFault.{PrepareFault}
use Rattle.work_folder.specs.declared.fault.PrepareFault.TheVariants as prepare_fault
use Rattle.client_words.specs.declared.command.Command.{Command}
use Rattle.client_words.specs.declared.command.Command.TheVariants as command
use Rattle.client_top.specs.declared.act.Deed.{Deed}
use Rattle.client_top.specs.declared.act.Deed.TheVariants.{Tell, Show}
use Rattle.client_top.specs.declared.begin.Begun.{Begun}
use Rattle.client_top.specs.declared.status.Good.TheVariants.{Committed, Waiting, RolledBack, Shown, Admitted as Admissible}
use Rattle.client_top.specs.declared.status.Status.{Status}
use Rattle.client_top.specs.declared.status.Status.TheVariants.{Done, Refused, NoUpdate, NotNow, Inconsistent, RebootNeeded, DiskFault, SourceFault, NoMemory, PowerOff, BadStore, TooLarge, NotInstalled}
use Rattle.client_top.specs.Finds.{Request, Found, Answers, Stays, ordered, begun, install_found}
use Rattle.client_top.specs.Answers.{row_of, source_count, Says, text_of}
use Rattle.client_top.specs.Did.{Did, Shelf}

-- ---- the whole, but for its text

-- what was done is told by this answer, which shows nothing
pub record Tells (asked : Request) (status : Status) (old new : State) (source source' : Shelf) : Type 0 where
  pub from : Option Db
  pub did : Did asked from status old new source source'
  pub text : text_of asked.command from status ≡ (row_of status).text

-- what was done before it is told: what is shown is the database that was read
abbrev pub Acted : Request → State → State → Shelf → Shelf → Deed → Type 0
Acted asked old new source source' (Tell status) = Tells asked status old new source source'
Acted asked old new source source' (Show store) = Did asked (Some store.db) (Done Shown) old new source source'

-- ---- the store

-- the device was so before it was mounted
pub record Mounted (store : Kept) (old new : State) : Type 0 where
  pub wrote : Wrote Through old new
  pub adds : AddsNoDb old.disk new.disk
  pub is : IsMounted store old new

-- the answer where nothing was mounted
abbrev pub not_mounted : MountFault → Status
not_mounted mount_fault.Off = PowerOff
not_mounted mount_fault.DiskFault = DiskFault
not_mounted (mount_fault.BadStore offset) = BadStore offset
not_mounted mount_fault.NoMemory = NoMemory

-- ---- a deployment that goes on

-- the command that gives an order
abbrev pub command_of : Order → Command
command_of order.Resume = command.Resume
command_of order.ResumeStop = command.ResumeStop
command_of order.Commit = command.Commit
command_of order.Rollback = command.Rollback

abbrev pub stops : Order → Bool
stops order.ResumeStop = true
stops _ = false

abbrev pub takes_back : Order → Bool
takes_back order.Rollback = true
takes_back _ = false

-- the deployment enters this position
pub record Enters (o : Order) (c : Db) (p : Position) : Type 0 where
  pub entry : Entry
  pub is : c ≡ Full entry
  pub enters : first_of entry.position o ≡ opening.Enter p

-- the answer of an order that enters no position
abbrev pub IsResting : Status → Type 0
IsResting NoUpdate = ⊤
IsResting (NotNow when) = ⊤
IsResting _ = ⊥

-- the order has its answer, or the deployment waits and stays as it is
pub data Rests (o : Order) (c : Db) (status : Status) : Type 0 where
  answered : IsResting status → ordered o c ≡ Answers status → Rests o c status
  waits : status ≡ Done Waiting → ordered o c ≡ Stays → Rests o c status

-- the position that the deployment enters by an order, or the answer where it enters none
abbrev pub Opens : Order → Db → Result Position Status → Type 0
Opens o c (Ok p) = Enters o c p
Opens o c (Err status) = Rests o c status

-- the answer where a deployment ended
abbrev pub status_ended : Outcome → Bool → Status
status_ended outcome.Committed takes_back = Done Committed
status_ended outcome.RolledBack takes_back = if takes_back then Done RolledBack else NotInstalled outcome.RolledBack
status_ended outcome.Inconsistent takes_back = Inconsistent
status_ended outcome takes_back = NotInstalled outcome

-- the answer after a deployment went on
abbrev pub status_after : DriveEnd → Bool → Status
status_after (drive_end.Ended outcome) takes_back = status_ended outcome takes_back
status_after drive_end.Waits takes_back = Done Waiting
status_after drive_end.RebootNeeded takes_back = RebootNeeded
status_after drive_end.Off takes_back = PowerOff
status_after drive_end.DiskFault takes_back = DiskFault

-- ---- a tree

-- the answer where nothing was admitted
abbrev pub not_admitted : AdmitFault → Status
not_admitted admit_fault.Source = SourceFault
not_admitted admit_fault.Memory = NoMemory
not_admitted (admit_fault.Refused refusal) = Refused refusal

-- the answer by the length of a record
abbrev pub fitting : Entry → Status
fitting e = if nat_lt LARGEST_RECORD (record_length e) then TooLarge (record_length e) else Done Admissible

-- what a tree answers, by what was found in it; a fault of the source and want of memory are free
abbrev pub WeighsTree : Found → Site → Content → Db → Status → Type 0
WeighsTree found site content c (Refused refusal) = Says found site content c (Refused refusal)
WeighsTree found site content c (TooLarge bytes) = Says found site content c (TooLarge bytes)
WeighsTree found site content c (Done Admissible) = Says found site content c (Done Admissible)
WeighsTree found site content c SourceFault = ⊤
WeighsTree found site content c NoMemory = ⊤
WeighsTree found site content c _ = ⊥

-- ---- a deployment that begins

-- the entry of a deployment with this number, over these pairs
abbrev pub entry_by : ℕ → Pairs → Admitted → Entry
entry_by id before plan = record {
  position = fresh_position;
  id = id;
  before = before;
  new = after before (change_of plan);
  kinds = plan.header.kinds;
  scripts = plan.scripts;
}

abbrev pub entry_of : Begun → Entry
entry_of b = record {
  position = fresh_position;
  id = b.id;
  before = b.before;
  new = b.new;
  kinds = b.plan.header.kinds;
  scripts = b.plan.scripts;
}

-- what a plan begins, where its record fits
pub record IsBegun (id : ℕ) (before : Pairs) (plan : Admitted) (b : Begun) : Type 0 where
  pub plan_is : b.plan ≡ plan
  pub entry : entry_of b ≡ entry_by id before plan
  pub small : record_length (entry_by id before plan) ≤ LARGEST_RECORD
  pub right : AreKinds plan.header.kinds → AllPass is_artifact_script plan.scripts → IsRight (entry_by id before plan)

-- the parts of a deployment, or why it can't begin
abbrev pub HasParts : ℕ → Pairs → Admitted → Result Begun Status → Type 0
HasParts id before plan (Ok b) = IsBegun id before plan b
HasParts id before plan (Err (TooLarge bytes)) = (bytes ≡ record_length (entry_by id before plan)) × (LARGEST_RECORD < bytes)
HasParts id before plan (Err NoMemory) = ⊤
HasParts id before plan (Err _) = ⊥

-- the deployment of a plan that the tree gives, but for the sums of its payloads
pub record Begins (site : Site) (content : Content) (c : Db) (b : Begun) : Type 0 where
  pub head : When content (λ t. head_plan_of t site.device_type (held c) ≡ Ok b.plan)
  pub is_of : IsOf content b.plan
  pub before : b.before ≡ held c
  pub entry : entry_of b ≡ begun c b.plan
  pub right : IsRight (begun c b.plan)
  pub small : record_length (begun c b.plan) ≤ LARGEST_RECORD

abbrev pub Planned : Site → Content → Db → Result Begun Status → Type 0
Planned site content c (Ok b) = Begins site content c b
Planned site content c (Err (Done good)) = ⊥
Planned site content c (Err status) = WeighsTree (install_found site content c) site content c status

-- the source's count of faults
abbrev pub count_after : {A : Type 0} → Result A Status → ℕ → ℕ
count_after (Ok x) faults = faults
count_after (Err status) faults = source_count (row_of status).basis faults

-- the refusal of a copied file with another sum than the listed one
abbrev pub other_sum : Differs → Refusal
other_sum d = if in_payload d.path then PayloadDiffers d else SumDiffers d

-- the answer where the work folder wasn't filled
abbrev pub unprepared : PrepareFault → Status
unprepared prepare_fault.Off = PowerOff
unprepared prepare_fault.DiskFault = DiskFault
unprepared prepare_fault.SourceFault = SourceFault
unprepared (prepare_fault.Differs d) = Refused (other_sum d)
