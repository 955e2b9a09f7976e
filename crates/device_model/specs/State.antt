-- What a device means, and what each call leaves of that, by its answer.
use Rattle.std.specs.Prelude.{◌≡◌, ◌⊎◌, ℕ, ◌-◌, Bool, true, false, List, [], ◌∷◌, ◌++◌, length, take, drop, Option, option_map, IfSome, Result, Ok, Err, MatchBool, ⊤}
use Rattle.upd_text.specs.Counts.{counted}
use Rattle.device_model.specs.declared.calls.Down.{Down}
use Rattle.device_model.specs.declared.calls.Down.TheVariants.{Off, Fault}
use Rattle.device_model.specs.declared.calls.Event.{Event}
use Rattle.device_model.specs.declared.calls.Event.TheVariants.{Start, End, Pause, Loss}
use Rattle.device_model.specs.declared.calls.Call.{Call}
use Rattle.device_model.specs.declared.calls.Call.TheVariants as call
use Rattle.device_model.specs.declared.calls.Answer.TheVariants as answer
use Rattle.device_model.specs.declared.calls.Ran.{Ran}
use Rattle.device_model.specs.declared.calls.Ran.TheVariants as ran
use Rattle.device_model.specs.declared.calls.Asked.{Asked}
use Rattle.device_model.specs.declared.calls.Asked.TheVariants as asked
use Rattle.device_model.specs.Disk.{Disk, WhereTold, IsSpoiled, IsTorn, written, synced}
use Rattle.device_model.specs.Work.{Work, work_lost, work_failed, child_given, ChildChanges}

-- what a device means
pub record State : Type 0 where
  pub on : Bool
  pub disk : Option Disk  -- none where it isn't told
  pub work : Option Work  -- none where it isn't told
  pub journal : List Event  -- since power came on
  pub room : ℕ  -- how many events still fit
  pub faults : ℕ
  pub losses : ℕ

abbrev pub after_write : ℕ → List ℕ → State → State
after_write at bytes old = record old { disk = option_map (written at bytes) old.disk }

abbrev pub after_sync : State → State
after_sync old = record old { disk = option_map synced old.disk }

-- the work folder is changed in this way
abbrev pub after_work : (Work → Work) → State → State
after_work change old = record old { work = option_map change old.work }

-- these events stand at the journal's end
abbrev pub with_events : List Event → State → State
with_events events old = record old { journal = old.journal ++ events; room = old.room - length events }

-- power was lost in a call that may have written this range
pub record LosesPower (at count : ℕ) (old new : State) : Type 0 where
  pub rest : new ≡ record old { on = false; disk = new.disk; work = option_map work_lost old.work; journal = old.journal ++ Loss ∷ []; room = old.room - 1; losses = counted old.losses }
  pub disk : WhereTold (IsTorn at count) old.disk new.disk

-- power was lost before a call's effect or after it
abbrev pub LosesIn : (State → State) → State → State → Type 0
LosesIn effect old new = LosesPower 0 0 old new ⊎ LosesPower 0 0 (effect old) new

-- a call failed and did nothing: what was unsynced stays so
abbrev pub Fails : State → State → Type 0
Fails old new = new ≡ record old { faults = counted old.faults }

-- a write in this range failed
pub record FailsToWrite (at count : ℕ) (old new : State) : Type 0 where
  pub rest : new ≡ record old { disk = new.disk; faults = counted old.faults }
  pub disk : WhereTold (IsSpoiled at count) old.disk new.disk

-- a device that is off stays as it is; one that is on lost its power in this way
abbrev pub GoesOff : Type 0 → State → State → Type 0
GoesOff lost old new = MatchBool old.on lost (new ≡ old)

-- what a read leaves
abbrev pub EndsRead : {T : Type 0} → State → Result T Down → State → Type 0
EndsRead old (Ok x) new = (old.on ≡ true) × (new ≡ old)
EndsRead old (Err Fault) new = (old.on ≡ true) × Fails old new
EndsRead old (Err Off) new = GoesOff (LosesPower 0 0 old new) old new

-- what a write leaves
abbrev pub EndsWrite : {T : Type 0} → ℕ → List ℕ → State → Result T Down → State → Type 0
EndsWrite at bytes old (Ok x) new = (old.on ≡ true) × (new ≡ after_write at bytes old)
EndsWrite at bytes old (Err Fault) new = (old.on ≡ true) × FailsToWrite at (length bytes) old new
EndsWrite at bytes old (Err Off) new = GoesOff (LosesPower at (length bytes) old new) old new

-- what a sync leaves
abbrev pub EndsSync : {T : Type 0} → State → Result T Down → State → Type 0
EndsSync old (Ok x) new = (old.on ≡ true) × (new ≡ after_sync old)
EndsSync old (Err Fault) new = (old.on ≡ true) × Fails old new
EndsSync old (Err Off) new = GoesOff (LosesPower 0 0 old new) old new

-- the bytes of the area from an offset on, where the call read them and the area is told
abbrev pub Reads : {T : Type 0} → Option Disk → ℕ → List ℕ → Result T Down → Type 0
Reads disk at into (Ok x) = IfSome disk (λ d. into ≡ take (length into) (drop at d.area))
Reads disk at into (Err e) = ⊤

-- a call that isn't a question
abbrev pub IsPlain : Call → Type 0
IsPlain (call.Module payload kind state) = ⊤
IsPlain (call.Ask payload kind query) = ⊥
IsPlain (call.Script name) = ⊤
IsPlain call.SystemReboot = ⊤

-- What a call of the work folder leaves: where it is done the folder is changed in this way.
abbrev pub EndsWork : {T : Type 0} → (Work → Work) → State → Result T Down → State → Type 0
EndsWork change old (Ok x) new = (old.on ≡ true) × (new ≡ after_work change old)
EndsWork change old (Err Fault) new = (old.on ≡ true) × (new ≡ record old { work = option_map work_failed old.work; faults = counted old.faults })
EndsWork change old (Err Off) new = GoesOff (LosesIn (after_work change) old new) old new

-- A child was started: these events stand at the journal's end, and the child may have changed the files.
pub record AfterChild (events : List Event) (old new : State) : Type 0 where
  pub rest : new ≡ record (with_events events old) { work = new.work }
  pub work : WhereTold ChildChanges (option_map child_given old.work) new.work

-- A child was started, and may have changed the files; then power was lost.
pub record LosesStarted (started : Call) (old new : State) : Type 0 where
  pub left : Option Work  -- the work folder as the child left it
  pub work : WhereTold ChildChanges (option_map child_given old.work) left
  pub rest : new ≡ record old { on = false; disk = new.disk; work = option_map work_lost left; journal = old.journal ++ Start started ∷ Loss ∷ []; room = old.room - 2; losses = counted old.losses }
  pub disk : WhereTold (IsTorn 0 0) old.disk new.disk

-- power was lost before a child's start, or after it
abbrev pub LosesChild : Call → State → State → Type 0
LosesChild c old new = LosesPower 0 0 old new ⊎ LosesStarted c old new

-- what a child leaves, by its answer
abbrev pub EndsChild : Call → State → Ran → State → Type 0
EndsChild c old (ran.Exit code) new = (old.on ≡ true) × AfterChild (Start c ∷ End (answer.Exit code) ∷ []) old new
EndsChild c old ran.NotStarted new = (old.on ≡ true) × AfterChild (Start c ∷ End answer.NotStarted ∷ []) old new
EndsChild c old ran.Off new = GoesOff (LosesChild c old new) old new

-- what a question leaves, by its answer
abbrev pub EndsAsk : Call → State → Asked → State → Type 0
EndsAsk c old (asked.Reply code text) new = (old.on ≡ true) × AfterChild (Start c ∷ End (answer.Reply code text) ∷ []) old new
EndsAsk c old asked.NotStarted new = (old.on ≡ true) × AfterChild (Start c ∷ End answer.NotStarted ∷ []) old new
EndsAsk c old asked.Off new = GoesOff (LosesChild c old new) old new

-- what a pause leaves, by its answer
abbrev pub EndsPause : {T E : Type 0} → ℕ → State → Result T E → State → Type 0
EndsPause seconds old (Ok x) new = (old.on ≡ true) × (new ≡ with_events (Pause seconds ∷ []) old)
EndsPause seconds old (Err e) new = GoesOff (LosesIn (with_events (Pause seconds ∷ [])) old new) old new
