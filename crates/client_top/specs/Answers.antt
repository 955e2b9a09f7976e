-- The answers: each a row of one table, from which all that holds of it follows.
use Rattle.std.specs.Prelude.{◌≡◌, ◌⊎◌, ℕ, ◌<◌, ◌≤◌, ◌&&◌, Bool, true, false, not, IsTrue, List, [], ◌++◌, codes, Option, Some, None, IfSome, Result, Ok, Err, ⊤}
use Rattle.std.specs.Fmt.{decimal}
use Rattle.upd_text.specs.Counts.{counted}
use Rattle.device_model.specs.How.{How, Through, PowerLost, DiskFailed}
use Rattle.flow_table.specs.declared.position.State.{State}
use Rattle.flow_table.specs.declared.position.State.TheVariants.{Idle}
use Rattle.flow_table.specs.declared.position.Outcome.{Outcome}
use Rattle.flow_table.specs.declared.position.Outcome.TheVariants as outcome
use Rattle.flow_words.specs.Pieces.{End, Ended, Waits, Halted}
use Rattle.flow_words.specs.Pieces as flow
use Rattle.record_codec.specs.declared.entry.Db.{Db}
use Rattle.record_codec.specs.Spelling.{record_length}
use Rattle.record_codec.specs.Held.{position_of}
use Rattle.slot_store.specs.Slots.{stood}
use Rattle.io_model.specs.Source.{Content, count_of}
use Rattle.script_names.specs.declared.site.Site.{Site}
use Rattle.admit.specs.Answers.{IsProper}
use Rattle.admit.specs.declared.admitted.Admitted.{Admitted}
use Rattle.admit.specs.Texts.{refused}
use Rattle.record_codec.specs.declared.length.TheConstants.{LARGEST_RECORD}
use Rattle.client_words.specs.declared.command.Command.{Command}
use Rattle.client_words.specs.declared.command.Command.TheVariants.{Install, Resume, ResumeStop, Commit, Rollback, ShowProvides, ShowArtifact, ShowDeployment, Check, Simulate}
use Rattle.client_words.specs.declared.command.UsageFault.{UsageFault}
use Rattle.client_top.specs.declared.status.Good.TheVariants.{Committed, Waiting, RolledBack, Shown, Admitted as Admissible, Simulated}
use Rattle.client_top.specs.declared.status.Status.{Status}
use Rattle.client_top.specs.declared.status.Status.TheVariants.{Done, Refused, NoUpdate, Inconsistent, RebootNeeded, DiskFault, SourceFault, NoMemory, SinkFault, Usage, PowerOff, BadStore, TooLarge, NotNow, NotInstalled}
use Rattle.client_top.specs.Finds.{Request, Found, Answers, Unsaid, finds, begun}
use Rattle.client_top.specs.Boot.{IsPlan}
use Rattle.client_top.specs.Texts.{about_words, about_now, not_installed, shown}

-- ---- whose answer it may be

abbrev pub Words : Type 0
Words = Result Command UsageFault

-- goes on with a deployment
abbrev pub orders : Words → Bool
orders (Ok Resume) = true
orders (Ok ResumeStop) = true
orders (Ok Commit) = true
orders (Ok Rollback) = true
orders _ = false

-- begins a deployment or goes on with one
abbrev pub deploys : Words → Bool
deploys (Ok Install) = true
deploys w = orders w

abbrev pub rolls_back : Words → Bool
rolls_back (Ok Rollback) = true
rolls_back _ = false

abbrev pub shows : Words → Bool
shows (Ok ShowProvides) = true
shows (Ok ShowArtifact) = true
shows (Ok ShowDeployment) = true
shows _ = false

abbrev pub checks : Words → Bool
checks (Ok Check) = true
checks _ = false

-- looks into a tree
abbrev pub weighs : Words → Bool
weighs (Ok Install) = true
weighs w = checks w

-- reads the store
abbrev pub reads : Words → Bool
reads (Ok (Simulate seed rounds)) = false
reads (Ok command) = true
reads (Err fault) = false

-- are no command that is done here
abbrev pub fail : Words → Bool
fail w = not (reads w)

-- no answer of these commands
abbrev pub nobody : Words → Bool
nobody w = false

-- a deployment that is kept was not installed, and so is one that was rolled back unasked
abbrev pub failing : Outcome → Words → Bool
failing outcome.Kept w = deploys w
failing outcome.RolledBack w = deploys w && not (rolls_back w)
failing _ w = false

-- ---- what it rests on

pub data Basis : Type 0 where
  Wording : Basis  -- the words alone: nothing was read
  Slot : ℕ → Basis  -- the picked slot, whose first wrong field this is
  Store : Basis  -- the database that was read
  Files : Basis  -- the tree, and what the database holds
  Course : Basis  -- where the deployment led
  DeviceCount : Basis  -- a count of the device that rose
  SourceCount : Basis  -- the source's count of faults, which rose
  Free : Basis  -- nothing

-- ---- the table

pub record Row : Type 0 where
  pub number : ℕ  -- the exit status
  pub end : Option End
  pub how : How  -- what cut the command off
  pub whose : Words → Bool
  pub basis : Basis
  pub text : List ℕ

abbrev row : ℕ → Option End → How → (Words → Bool) → Basis → List ℕ → Row
row n end how whose basis text = record { number = n; end = end; how = how; whose = whose; basis = basis; text = text ++ codes "\n" }

-- an answer without a text of its own
abbrev mute : ℕ → Option End → How → (Words → Bool) → Basis → Row
mute n end how whose basis = record { number = n; end = end; how = how; whose = whose; basis = basis; text = [] }

-- number, end, what cut it off, whose answer it may be, what it rests on, text
abbrev pub row_of : Status → Row
row_of (Done Committed) = row 0 (Some (Ended outcome.Committed)) Through deploys Course (codes "committed")
row_of (Done Waiting) = row 0 (Some Waits) Through deploys Course (codes "waiting")
row_of (Done RolledBack) = row 0 (Some (Ended outcome.RolledBack)) Through rolls_back Course (codes "rolled back")
row_of (Done Shown) = mute 0 None Through shows Store
row_of (Done Admissible) = row 0 None Through checks Files (codes "admitted")
row_of (Done Simulated) = mute 0 None Through nobody Free
row_of (Refused refusal) = row 1 None Through weighs Files (refused refusal)
row_of NoUpdate = row 2 None Through orders Store (codes "no update")
row_of Inconsistent = row 3 (Some (Ended outcome.Inconsistent)) Through deploys Course (codes "inconsistent")
row_of RebootNeeded = row 4 (Some flow.RebootNeeded) Through deploys Course (codes "reboot needed")
row_of DiskFault = row 5 (Some Halted) DiskFailed reads DeviceCount (codes "disk fault")
row_of SourceFault = row 6 None Through weighs SourceCount (codes "source fault")
row_of NoMemory = row 7 None Through reads Free (codes "no memory")
row_of SinkFault = mute 8 None Through nobody Free
row_of (Usage fault) = row 9 None Through fail Wording (codes "usage " ++ about_words fault)
row_of PowerOff = mute 10 (Some Halted) PowerLost reads DeviceCount
row_of (BadStore offset) = row 11 None Through reads (Slot offset) (codes "bad store " ++ decimal offset)
row_of (TooLarge bytes) = row 12 None Through weighs Files (codes "too large " ++ decimal bytes)
row_of (NotNow when) = row 13 None Through deploys Store (codes "not now " ++ about_now when)
row_of (NotInstalled how) = row 14 (Some (Ended how)) Through (failing how) Course (codes "not installed: " ++ not_installed how)

-- ---- what follows from it

abbrev pub number_of : Status → ℕ
number_of status = (row_of status).number

-- the end of a boot that an answer tells
abbrev pub end_of : Status → Option End
end_of status = (row_of status).end

-- what cut the command off
abbrev pub how_of : Status → How
how_of status = (row_of status).how

-- what is written: what is shown is of the database that was read
abbrev pub text_of : Words → Option Db → Status → List ℕ
text_of words (Some c) (Done Shown) = shown words c
text_of words from status = (row_of status).text

-- the source's count of faults: an answer for its fault adds one
abbrev pub source_count : Basis → ℕ → ℕ
source_count SourceCount faults = counted faults
source_count _ faults = faults

-- the disk was read through, so that nothing is unsynced
abbrev pub is_synced : Basis → Bool
is_synced Wording = false
is_synced DeviceCount = false
is_synced Free = false
is_synced _ = true

-- a database was read, of which this holds
abbrev pub WasRead : Option Db → (Db → Type 0) → Type 0
WasRead None P = ⊥
WasRead (Some c) P = P c

-- what can be said of an answer over a tree that isn't told
abbrev pub IsLikely : Site → Content → Db → Status → Type 0
IsLikely site content c (Refused refusal) = IsProper (count_of content) refusal
IsLikely site content c (TooLarge bytes) = (plan : Admitted) × IsPlan site content c plan × (bytes ≡ record_length (begun c plan)) × (LARGEST_RECORD < bytes)
IsLikely site content c (Done Admissible) = (plan : Admitted) × IsPlan site content c plan × (record_length (begun c plan) ≤ LARGEST_RECORD)
IsLikely site content c _ = ⊥

-- the answer is what was found, or what can be said where the tree isn't told
abbrev pub Says : Found → Site → Content → Db → Status → Type 0
Says found site content c status = (found ≡ Answers status) ⊎ ((found ≡ Unsaid) × IsLikely site content c status)

-- a tree is opened by a check, and by an install where no deployment is in progress
abbrev pub opens : Words → State → Bool
opens (Ok Install) Idle = true
opens (Ok Install) s = false
opens w s = checks w

-- why an answer came, by what it rests on
abbrev pub Rests : Basis → Request → Option Db → Option (List ℕ) → Status → Type 0
Rests Wording asked from area status = (from ≡ None) × ((c : Db) → finds asked c ≡ Answers status)
Rests (Slot offset) asked from area status = (from ≡ None) × IfSome area (λ a. stood a ≡ Err offset)
Rests Store asked from area status = WasRead from (λ c. finds asked c ≡ Answers status)
Rests Files asked from area status = WasRead from (λ c. Says (finds asked c) asked.site asked.content c status)
Rests Course asked from area status = WasRead from (λ c. ⊤)
Rests DeviceCount asked from area status = ⊤
Rests SourceCount asked from area status = WasRead from (λ c. IsTrue (opens asked.command (position_of c).state))
Rests Free asked from area status = ⊤

-- an answer belongs to what is asked, and has its cause
pub record Due (asked : Request) (from : Option Db) (area : Option (List ℕ)) (status : Status) : Type 0 where
  pub whose : IsTrue ((row_of status).whose asked.command)
  pub rests : Rests (row_of status).basis asked from area status
