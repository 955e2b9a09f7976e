-- What preparing the work folder leaves, by its answer.
use Rattle.std.specs.Prelude.{◌≡◌, ℕ, ◌+◌, ◌≤◌, true, false, List, [], map, option_map, Option, Some, None, Result, Ok, Err, ⊤}
use Rattle.std.specs.List.{Contains}
use Rattle.sha2.specs.Sha256.{sha256}
use Rattle.upd_text.specs.Counts.{counted}
use Rattle.upd_text.specs.Told.{WhereTold}
use Rattle.io_model.specs.Source.{Tree, Content, bytes_at, gave, When}
use Rattle.io_model.specs.Reading.{AreRead, IsAtMost}
use Rattle.device_model.specs.Disk.{IsSettled}
use Rattle.device_model.specs.Work.{Work}
use Rattle.device_model.specs.State.{State}
use Rattle.device_model.specs.How.{How, Through, PowerLost, DiskFailed, Passed}
use Rattle.admit.specs.declared.refusal.Differs.{Differs}
use Rattle.work_folder.specs.declared.fault.PrepareFault.{PrepareFault}
use Rattle.work_folder.specs.declared.fault.PrepareFault.TheVariants as fault
use Rattle.admit.specs.Table.{first_some}
use Rattle.admit.specs.Differing.{Listed, IsDiffering, differing}

-- the device is on and nothing of its disk is unsynced
pub record IsReady (state : State) : Type 0 where
  pub on : state.on ≡ true
  pub room : 1 ≤ state.room
  pub settled : IsSettled state.disk

-- how the device ended
abbrev pub how_of_fault : PrepareFault → How
how_of_fault fault.Off = PowerLost
how_of_fault fault.DiskFault = DiskFailed
how_of_fault fault.SourceFault = Through
how_of_fault (fault.Differs d) = Through

abbrev pub prepare_how : {T : Type 0} → Result T PrepareFault → How
prepare_how (Ok x) = Through
prepare_how (Err e) = how_of_fault e

-- the count of the source's faults, which this fault raises alone
abbrev pub after_fault : PrepareFault → ℕ → ℕ
after_fault fault.Off n = n
after_fault fault.DiskFault n = n
after_fault fault.SourceFault n = counted n
after_fault (fault.Differs d) n = n

abbrev pub source_after : {T : Type 0} → Result T PrepareFault → ℕ → ℕ
source_after (Ok x) n = n
source_after (Err e) n = after_fault e n

-- Of the device only the work folder was touched: from the folder that the calls left on, nothing happened but what cut them
-- off, and the disk is as it was.
pub record Touches (how : How) (old new : State) : Type 0 where
  pub ready : Option Work
  pub told : WhereTold (λ a b. ⊤) old.work ready
  pub passed : Passed [] how (record old { work = ready }) new
  pub disk : new.disk ≡ old.disk

-- of the sum that was found, where that is the fault
abbrev pub IfFaultDiffers : PrepareFault → (Differs → Type 0) → Type 0
IfFaultDiffers fault.Off P = Unit {0}
IfFaultDiffers fault.DiskFault P = Unit {0}
IfFaultDiffers fault.SourceFault P = Unit {0}
IfFaultDiffers (fault.Differs d) P = P d

-- ---- what was copied

-- of file i some bytes were read, which end within it where they begin at this place
pub record GaveFrom (content : Content) (i at : ℕ) (old new : Option (List ℕ)) : Type 0 where
  pub count : ℕ
  pub within : IsAtMost content i (at + count)
  pub is : new ≡ option_map (gave i count) old

-- the files of these lines
abbrev pub files_of : List Listed → List ℕ
files_of copied = map (λ l. l.1) copied

-- the first of these lines whose sum isn't that of its file
abbrev pub first_wrong : Tree → List Listed → Option Differs
first_wrong t copied = first_some (λ l. differing l.0 (sha256 (bytes_at t l.1))) copied

-- the files of these lines were copied, each read once for each copy, each with the listed sum
pub record CopiesAll (content : Content) (copied : List Listed) (old new : Option (List ℕ)) : Type 0 where
  pub read : When content (λ t. WhereTold (AreRead true t (files_of copied)) old new)
  pub right : When content (λ t. first_wrong t copied ≡ None)

-- the first of them were copied, and of the next a part was read; what differs is the first that does
pub record CopiesSome (content : Content) (copied : List Listed) (fault : PrepareFault) (old new : Option (List ℕ)) : Type 0 where
  pub read : When content (λ t. WhereTold (AreRead false t (files_of copied)) old new)
  pub wrong : IfFaultDiffers fault (λ d. When content (λ t. first_wrong t copied ≡ Some d))
  pub among : IfFaultDiffers fault (λ d. (l : Listed) × Contains copied l × IsDiffering content l d)

-- a fault of the device
abbrev pub IsOfDevice : PrepareFault → Type 0
IsOfDevice fault.Off = Unit {0}
IsOfDevice fault.DiskFault = Unit {0}
IsOfDevice fault.SourceFault = ⊥
IsOfDevice (fault.Differs d) = ⊥

abbrev pub NeverDiffers : {T : Type 0} → Result T PrepareFault → Type 0
NeverDiffers (Ok x) = Unit {0}
NeverDiffers (Err e) = IfFaultDiffers e (λ d. ⊥)
