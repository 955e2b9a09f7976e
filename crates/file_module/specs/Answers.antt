-- How the module ends: each answer a row of one table.
use Rattle.std.specs.Prelude.{◌≡◌, ◌≢◌, ◌⊎◌, ℕ, ◌||◌, Bool, true, false, if◌then◌else◌, List, Option, Result, Ok, Err}
use Rattle.upd_text.specs.Counts.{counted}
use Rattle.device_model.specs.How.{How, Through, PowerLost, DiskFailed}
use Rattle.device_model.specs.declared.module_word.ModuleWord.{ModuleWord}
use Rattle.file_module.specs.declared.answer.Stop.{Stop}
use Rattle.file_module.specs.declared.answer.Stop.TheVariants as stop
use Rattle.file_module.specs.declared.answer.FileAct.{FileAct}
use Rattle.file_module.specs.declared.answer.FileAct.TheVariants.{Done, Usage, BadPayload, DiskFault, SourceFault, SinkFault, Off, BadSaved}
use Rattle.file_module.specs.Contents.{Contents}
use Rattle.file_module.specs.Calls.{Loses, failed}
use Rattle.file_module.specs.Saved.{IsNew}
use Rattle.file_module.specs.Words.{Use, use_of}

abbrev pub stopped_by : Stop → FileAct
stopped_by (stop.BadPayload n) = BadPayload n
stopped_by stop.DiskFault = DiskFault
stopped_by stop.SourceFault = SourceFault
stopped_by stop.Off = Off
stopped_by stop.BadSaved = BadSaved

abbrev pub act_of : {T : Type 0} → Result T Stop → FileAct
act_of (Ok x) = Done
act_of (Err s) = stopped_by s

-- ---- the table

pub record Row : Type 0 where
  pub number : ℕ  -- the exit status
  pub how : How  -- what cut the calls of the place off
  pub of_source : Bool  -- the source's count of faults rose
  pub whose : Use → Bool  -- which words it may come after

abbrev row : ℕ → How → Bool → (Use → Bool) → Row
row number how of_source whose = record { number = number; how = how; of_source = of_source; whose = whose }

-- number, what cut the place off, whether the source failed, whose answer it may be
abbrev pub row_of : FileAct → Row
row_of Done = row 0 Through false (λ u. true)
row_of Usage = row 1 Through false (λ u. false)
row_of (BadPayload n) = row 2 Through false (λ u. u.payload)
row_of DiskFault = row 3 DiskFailed false (λ u. u.place)
row_of SourceFault = row 4 Through true (λ u. u.payload)
row_of SinkFault = row 5 Through false (λ u. u.reply)
row_of Off = row 6 PowerLost false (λ u. u.place)
row_of BadSaved = row 7 Through false (λ u. u.back)

-- ---- what follows from it

-- the status of the program
abbrev pub number_of : FileAct → ℕ
number_of act = (row_of act).number

abbrev pub how_of : FileAct → How
how_of act = (row_of act).how

-- the answer may come after this word
abbrev pub may_answer : ModuleWord → FileAct → Bool
may_answer word act = (row_of act).whose (use_of word)

-- the source's count of faults
abbrev pub source_after : FileAct → ℕ → ℕ
source_after act n = if (row_of act).of_source then counted n else n

abbrev pub is_cut : How → Bool
is_cut Through = false
is_cut how = true

-- the place cut it off
abbrev pub IsOfPlace : Stop → Type 0
IsOfPlace s = is_cut (how_of (stopped_by s)) ≡ true

-- the place or the source cut it off
abbrev pub IsOfWriting : Stop → Type 0
IsOfWriting s = is_cut (how_of (stopped_by s)) || (row_of (stopped_by s)).of_source ≡ true

-- ---- what is left of the place

abbrev pub is_on : How → Bool
is_on PowerLost = false
is_on how = true

abbrev pub losses_after : How → ℕ → ℕ
losses_after PowerLost n = counted n
losses_after how n = n

abbrev pub faults_after : How → ℕ → ℕ
faults_after DiskFailed n = counted n
faults_after how n = n

-- whether the place is on then, and its counts
pub record Counts (act : FileAct) (old new : Contents) : Type 0 where
  pub on : new.on ≡ is_on (how_of act)
  pub told : new.told ≡ old.told
  pub regular : new.regular ≡ old.regular
  pub losses : new.losses ≡ losses_after (how_of act) old.losses
  pub faults : new.faults ≡ faults_after (how_of act) old.faults

-- No call changed anything: all is as it was, but for the counts, and for what a loss makes of a fresh content that isn't settled.
abbrev pub Unchanged : How → Contents → Contents → Type 0
Unchanged Through old new = new ≡ old
Unchanged DiskFailed old new = new ≡ failed old
Unchanged PowerLost old new = Loses old new

abbrev pub Untouched : FileAct → Contents → Contents → Type 0
Untouched act old new = Unchanged (how_of act) old new

-- at most the fresh content was changed
pub record TouchesFresh (act : FileAct) (old new : Contents) : Type 0 where
  pub counts : Counts act old new
  pub target : new.target ≡ old.target
  pub saved : new.saved ≡ old.saved

-- the target has this content instead, or stays where the call didn't go through
pub record SetsTarget (act : FileAct) (bytes : Option (List ℕ)) (old new : Contents) : Type 0 where
  pub counts : Counts act old new
  pub target : (new.target ≡ old.target) ⊎ (new.target ≡ bytes)
  pub done : act ≡ Done → new.target ≡ bytes
  pub saved : new.saved ≡ old.saved

-- The target is given this content where it is a file or absent: nothing is written where it has it already.
pub record GivesBack (act : FileAct) (bytes : Option (List ℕ)) (old new : Contents) : Type 0 where
  pub sets : SetsTarget act bytes old new
  pub same : old.target ≡ bytes → Untouched act old new
  pub irregular : old.regular ≡ false → (act ≢ Done) × Untouched act old new

-- what is saved has this content instead, or stays where the call didn't go through
pub record SetsSaved (act : FileAct) (bytes : Option (List ℕ)) (old new : Contents) : Type 0 where
  pub counts : Counts act old new
  pub saved : (new.saved ≡ old.saved) ⊎ (new.saved ≡ bytes)
  pub done : act ≡ Done → new.saved ≡ bytes
  pub target : new.target ≡ old.target

-- the target has a new content instead, or stays where the call didn't go through
pub record Replaces (is_new : List ℕ → Type 0) (act : FileAct) (old new : Contents) : Type 0 where
  pub counts : Counts act old new
  pub target : (new.target ≡ old.target) ⊎ IsNew is_new new.target
  pub done : act ≡ Done → IsNew is_new new.target
  pub saved : new.saved ≡ old.saved
