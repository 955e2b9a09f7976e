-- What follows for the user from what one command promises.
use Rattle.std.specs.Prelude.{◌≡◌, ◌⊎◌, if◌then◌else◌, List, Option, Some, None, ⊤}
use Rattle.upd_text.specs.Counts.{Rose}
use Rattle.device_model.specs.declared.calls.Event.{Event}
use Rattle.device_model.specs.State.{State}
use Rattle.device_model.specs.Work.{Work, File, Synced}
use Rattle.admit.specs.declared.admitted.Admitted.{Admitted}
use Rattle.work_folder.specs.Folder.{IsFolder}
use Rattle.work_folder.specs.Rows.{rows_of}
use Rattle.flow_table.specs.Laws.{BreaksAtLoss}
use Rattle.flow_table.specs.Table.{fresh_position}
use Rattle.flow_table.specs.declared.position.Outcome.{Outcome}
use Rattle.flow_table.specs.declared.position.Outcome.TheVariants as outcome
use Rattle.flow_table.specs.declared.position.Position.{Position}
use Rattle.flow_words.specs.Causes.{HasCommit, Broke}
use Rattle.flow_words.specs.Pieces.{End, Ended, Waits, Halted}
use Rattle.flow_words.specs.Pieces as flow
use Rattle.flow_words.specs.Words.{word_at}
use Rattle.flow_drive.specs.Calls.{callees}
use Rattle.provides_map.specs.After.{broken}
use Rattle.record_codec.specs.declared.entry.Entry.{Entry}
use Rattle.record_codec.specs.declared.entry.Db.{Db}
use Rattle.record_codec.specs.declared.entry.Db.TheVariants.{Empty, Full}
use Rattle.record_codec.specs.Held.{held, position_of}
use Rattle.provides_map.specs.Pairs.{Pairs}
use Rattle.flow_drive.specs.Drive.{at}
use Rattle.client_top.specs.declared.status.Status.{Status}
use Rattle.client_top.specs.declared.status.Status.TheVariants.{Done, RebootNeeded, NotInstalled, Inconsistent}
use Rattle.client_top.specs.declared.status.Good.TheVariants as good
use Rattle.client_top.specs.Finds.{Request, Found, Answers, Stays, Starts, Unsaid, finds, begun}
use Rattle.client_top.specs.Boot.{is_stop, Fits}
use Rattle.client_top.specs.Answers.{Words, rolls_back, Basis, Wording, Slot, Store, Files, DeviceCount, SourceCount, Free, end_of, Says}
use Rattle.client_top.specs.Did.{Shelf}

-- ---- each answer comes where it is due

-- an answer that no database gives: a count rose, a field of the store is wrong, or memory is wanting
abbrev pub IsUntied : Basis → Type 0
IsUntied (Slot offset) = ⊤
IsUntied DeviceCount = ⊤
IsUntied SourceCount = ⊤
IsUntied Free = ⊤
IsUntied _ = ⊥

-- the answer that tells the end of a deployment
abbrev pub answer_for : Words → End → Option Status
answer_for words (Ended outcome.Committed) = Some (Done good.Committed)
answer_for words (Ended outcome.RolledBack) = Some (if rolls_back words then Done good.RolledBack else NotInstalled outcome.RolledBack)
answer_for words (Ended outcome.Kept) = Some (NotInstalled outcome.Kept)
answer_for words (Ended outcome.Inconsistent) = Some Inconsistent
answer_for words (Ended outcome.Undecided) = None
answer_for words Waits = Some (Done good.Waiting)
answer_for words flow.RebootNeeded = Some RebootNeeded
answer_for words Halted = None

-- what an answer says of a database that may have stood before
abbrev pub Replies : Basis → Request → Db → Status → Type 0
Replies Wording asked c status = finds asked c ≡ Answers status
Replies Store asked c status = finds asked c ≡ Answers status
Replies Files asked c status = Says (finds asked c) asked.site asked.content c status
Replies _ asked c status = ⊤

-- ---- without a fault

-- no count rose
pub record Calm (old new : State) (source source' : Shelf) : Type 0 where
  pub losses : Rose old.losses new.losses → ⊥
  pub faults : Rose old.faults new.faults → ⊥
  pub files : Rose source.faults source'.faults → ⊥

-- the deployment came to its end, waits, or needs a reboot
abbrev pub IsOver : Option End → Type 0
IsOver None = ⊥
IsOver (Some Halted) = ⊥
IsOver (Some end) = ⊤

-- the command did what it found to do
abbrev pub Fulfils : Found → Status → Type 0
Fulfils (Answers due) status = status ≡ due
Fulfils Stays status = end_of status ≡ Some Waits
Fulfils (Starts e p) status = IsOver (end_of status)
Fulfils Unsaid status = ⊤

-- installed, or on its way
abbrev pub IsWell : Status → Type 0
IsWell (Done good.Committed) = ⊤
IsWell (Done good.Waiting) = ⊤
IsWell RebootNeeded = ⊤
IsWell _ = ⊥

-- ---- what a module is given

-- the first child since the folder was cleared was given the files of this plan, which survive a loss of power
pub record IsGiven (asked : Request) (c : Db) (plan : Admitted) (work : Work) : Type 0 where
  pub files : List File
  pub are : IsFolder asked.content (rows_of asked.site (held c) plan) files
  pub given : work.given ≡ Some (Synced files)

-- ---- what may be held

abbrev pub Was : Outcome → Db → Type 0
Was o Empty = ⊥
Was o (Full e) = e.position.outcome ≡ o

abbrev pub BreaksIn : Db → Type 0
BreaksIn Empty = ⊥
BreaksIn (Full e) = BreaksAtLoss e.position

-- a plan of a tree that isn't told makes this deployment
pub record Plans (asked : Request) (c : Db) (e : Entry) (p : Position) : Type 0 where
  pub untold : finds asked c ≡ Unsaid
  pub plan : Admitted
  pub fits : Fits asked c plan
  pub is : e ≡ begun c plan
  pub fresh : p ≡ fresh_position

-- The deployment that a boot from c enters at this position: it is the one that c has, or it begins over what c holds; it was
-- found so, or a plan of a tree that isn't told makes it.
pub record Enters (asked : Request) (c : Db) (e : Entry) (p : Position) : Type 0 where
  pub own : (c ≡ Full e) ⊎ (e.before ≡ held c)
  pub found : (finds asked c ≡ Starts e p) ⊎ Plans asked c e p

-- why a deployment is inconsistent that was entered at p: it was, or the power was lost where it can't be taken back or nothing
-- further may be entered, or a state was run that made it so
pub data Mixed (asked : Request) (c : Db) (e : Entry) (p : Position) (events : List Event) : Type 0 where
  before : BreaksIn c → Mixed asked c e p events
  here : Broke (word_at (callees asked.site e)) (is_stop asked.command) p events → Mixed asked c e p events

-- a deployment with this outcome leaves what was held before it: it neither committed nor became inconsistent
abbrev pub KeepsOld : Outcome → Type 0
KeepsOld outcome.Undecided = ⊤
KeepsOld outcome.Kept = ⊤
KeepsOld outcome.RolledBack = ⊤
KeepsOld outcome.Committed = ⊥
KeepsOld outcome.Inconsistent = ⊥

-- What a boot from c with these events leaves held. Nothing changed; or a deployment stands, and by its outcome the old is held;
-- the new, once its modules were called to commit and exited 0; or the new, marked.
pub data Holds (asked : Request) (c : Db) (events : List Event) (d : Db) : Type 0 where
  same : d ≡ c → Holds asked c events d
  old : (e : Entry) (p : Position) → Enters asked c e p → KeepsOld (position_of d).outcome → held d ≡ e.before → Holds asked c events d
  new : (e : Entry) (p : Position) → Enters asked c e p → Was outcome.Committed d → held d ≡ e.new → Was outcome.Committed c ⊎ HasCommit e.kinds events → Holds asked c events d
  mixed : (e : Entry) (p : Position) → Enters asked c e p → Was outcome.Inconsistent d → held d ≡ broken e.new → Mixed asked c e p events → Holds asked c events d

-- what an answer says is held that tells how a deployment stands: the new, the old, or the new, marked
abbrev pub told_by : Status → Entry → Option Pairs
told_by (Done good.Committed) e = Some e.new
told_by (Done good.Waiting) e = Some e.before
told_by (Done good.RolledBack) e = Some e.before
told_by Inconsistent e = Some (broken e.new)
told_by RebootNeeded e = Some e.before
told_by (NotInstalled how) e = Some e.before
told_by _ e = None

-- the deployment that c has, or one that a plan makes over what c holds
abbrev pub IsFrom : Db → Entry → Type 0
IsFrom c e = (c ≡ Full e) ⊎ ((plan : Admitted) × (e ≡ begun c plan))

-- behind a boot from c the database d has a deployment, and holds of it what the answer says
pub record TellsHeld (c : Db) (status : Status) (d : Db) : Type 0 where
  pub deployment : Entry
  pub position : Position
  pub from : IsFrom c deployment
  pub stands : d ≡ at deployment position
  pub holds : told_by status deployment ≡ Some (held d)
