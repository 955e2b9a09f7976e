-- The answers: each a row of one table.
use Rattle.std.specs.Prelude.{◌≡◌, ◌≢◌, ℕ, ◌<◌, ◌&&◌, Bool, true, false, not, Option, Result, Ok, Err, ⊤}
use Rattle.upd_text.specs.Counts.{counted}
use Rattle.device_model.specs.declared.calls.Down.{Down}
use Rattle.device_model.specs.declared.calls.Down.TheVariants.{Off, Fault}
use Rattle.device_model.specs.declared.module_word.ModuleWord.{ModuleWord}
use Rattle.device_model.specs.How.{How, Through, PowerLost, DiskFailed}
use Rattle.ab_image.specs.declared.report.AbAct.{AbAct}
use Rattle.ab_image.specs.declared.report.AbAct.TheVariants as answer
use Rattle.ab_image.specs.Layout.{partition_size}
use Rattle.ab_image.specs.Words.{Use, use_of}

-- what failed or was wanting in a call that was cut off
pub data Cut : Type 0 where
  Uncut : Cut
  ByDisk : Cut
  BySource : Cut
  BySink : Cut
  ByPower : Cut
  ByMemory : Cut

-- ---- whose answer it may be

abbrev anyone : Use → Bool
anyone u = true

abbrev nobody : Use → Bool
nobody u = not u.asked

abbrev reads : Use → Bool
reads u = u.reads

-- takes the artifact's image
abbrev takes : Use → Bool
takes u = u.reads && not u.chooses

-- chooses the image that was taken
abbrev commits : Use → Bool
commits u = u.reads && u.chooses

-- ---- the table

pub record Row : Type 0 where
  pub number : ℕ  -- the exit status
  pub cut : Cut
  pub early : Bool  -- it comes before any write
  pub whose : Use → Bool

abbrev row : ℕ → Cut → Bool → (Use → Bool) → Row
row number cut early whose = record { number = number; cut = cut; early = early; whose = whose }

-- number, what cut the call off, whether it comes before any write, whose answer it may be
abbrev pub row_of : AbAct → Row
row_of answer.Done = row 0 Uncut false anyone
row_of answer.Usage = row 1 Uncut true nobody
row_of (answer.BadPayload n) = row 2 Uncut true takes
row_of answer.NoChecksum = row 3 Uncut true reads
row_of (answer.TooLong n) = row 4 Uncut true takes
row_of (answer.Differs sum found) = row 5 Uncut false takes
row_of answer.NotReady = row 6 Uncut true commits
row_of answer.DiskFault = row 7 ByDisk false anyone
row_of answer.SourceFault = row 8 BySource false reads
row_of answer.SinkFault = row 9 BySink false anyone
row_of answer.Off = row 10 ByPower false anyone
row_of answer.NoMemory = row 11 ByMemory true reads

-- ---- what follows from it

-- the status of the program
abbrev pub number_of : AbAct → ℕ
number_of act = (row_of act).number

abbrev how_by : Cut → How
how_by ByPower = PowerLost
how_by ByDisk = DiskFailed
how_by cut = Through

-- what cut the calls of the disk off
abbrev pub how_of : AbAct → How
how_of act = how_by (row_of act).cut

abbrev source_by : Cut → ℕ → ℕ
source_by BySource n = counted n
source_by cut n = n

-- the source's count of faults
abbrev pub source_after : AbAct → ℕ → ℕ
source_after act n = source_by (row_of act).cut n

abbrev is_cut : Cut → Bool
is_cut Uncut = false
is_cut cut = true

-- a call of the source, the sink or the disk failed, or there was no memory
abbrev pub IsCut : AbAct → Type 0
IsCut act = is_cut (row_of act).cut ≡ true

-- the answer may come after these words
abbrev pub may_answer : Option ModuleWord → AbAct → Bool
may_answer word act = (row_of act).whose (use_of word)

-- what it tells is a fault, on a disk of this size
abbrev pub IsProper : ℕ → AbAct → Type 0
IsProper size (answer.BadPayload n) = n ≢ 1
IsProper size (answer.TooLong n) = partition_size size < n
IsProper size (answer.Differs sum found) = sum ≢ found
IsProper size act = ⊤

-- the answer where a call of the disk failed
abbrev pub stopped_by : Down → AbAct
stopped_by Off = answer.Off
stopped_by Fault = answer.DiskFault

-- the answer of a state that reads no artifact
abbrev pub answer_of : Result (Unit {0}) Down → AbAct
answer_of (Ok x) = answer.Done
answer_of (Err down) = stopped_by down
