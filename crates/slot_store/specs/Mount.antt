-- How a mount ends.
use Rattle.std.specs.Prelude.{◌≡◌, ℕ, ◌%◌, Bool, false, List, slice_index, nat_eq, Option, Result, Ok, Err, IfSome, IsTrue, IsFalse, ⊤}
use Rattle.std.specs.List.{starts_with}
use Rattle.record_codec.specs.declared.entry.Db.{Db}
use Rattle.record_codec.specs.declared.entry.Version.TheVariants.{First}
use Rattle.record_codec.specs.Spelling.{magic}
use Rattle.device_model.specs.declared.calls.Down.{Down}
use Rattle.device_model.specs.declared.calls.Down.TheVariants as down
use Rattle.device_model.specs.Disk.{Disk, IsTold, IsSettled, area_of}
use Rattle.device_model.specs.State.{State}
use Rattle.device_model.specs.How.{How, Through, PowerLost, DiskFailed, SameArea}
use Rattle.slot_store.specs.declared.reading.Found.{Found}
use Rattle.slot_store.specs.declared.store.MountFault.{MountFault}
use Rattle.slot_store.specs.declared.store.MountFault.TheVariants.{Off, DiskFault, BadStore, NoMemory}
use Rattle.slot_store.specs.Slots.{stood, Stands, May, Sound, IsAt, picked_slot, picked_cell, cell_selector}
use Rattle.slot_store.specs.Kept.{Kept, IsOf}
use Rattle.slot_store.specs.Put.{IsFull}
use Rattle.slot_store.specs.Written.{IsMigrated}

-- these are the bytes of the picked slot and its selectors and the picked cell
pub record IsFoundIn (area slot : List ℕ) (found : Found) : Type 0 where
  pub bytes : slot ≡ picked_slot area
  pub cell : found.cell ≡ picked_cell area
  pub picked : slice_index area 0 % 2 ≡ found.picked
  pub cell_picked : cell_selector area % 2 ≡ found.cell_picked

-- nothing is unsynced, and the area reads as before
pub record IsSynced (old new : State) : Type 0 where
  pub area : SameArea old new
  pub settled : IsSettled new.disk
  pub room : new.room ≡ old.room

-- the slot begins as a record of the older version does
unfoldable pub is_old : List ℕ → Bool
is_old slot = starts_with nat_eq slot (magic First)

-- whatever may stand could stand before, and a sound disk stays sound
pub record AddsNoDb (old new : Option Disk) : Type 0 where
  pub may : (db : Db) → May new db → May old db
  pub sound : Sound old → Sound new

-- what was read: the store is what the area stands for, and all that may stand
pub record IsLooked (store : Kept) (old new : State) : Type 0 where
  pub synced : IsSynced old new
  pub stands : IfSome (area_of old.disk) (λ area. Stands area store.db)
  pub holds : IfSome (area_of new.disk) (λ area. Stands area store.db)
  pub is_at : IsAt store.db new.disk
  pub is_of : IsOf store new.disk
  pub put : store.loaded ≡ false

-- the same of a mount: nothing is unsynced, and the area reads as before but where its slot had a record of the older version
pub record IsMounted (store : Kept) (old new : State) : Type 0 where
  pub settled : IsSettled new.disk
  pub room : new.room ≡ old.room
  pub area : IfSome old.disk (λ d. IsFalse (is_old (picked_slot d.area)) → SameArea old new)
  pub version : IsFull store.db → IfSome new.disk (λ d. IsFalse (is_old (picked_slot d.area)))
  pub migrated : IfSome old.disk (λ d. IsTrue (is_old (picked_slot d.area)) → IsFull store.db → IsMigrated store old.disk new.disk)
  pub stands : IfSome (area_of old.disk) (λ area. Stands area store.db)
  pub holds : IfSome (area_of new.disk) (λ area. Stands area store.db)
  pub is_at : IsAt store.db new.disk
  pub is_of : IsOf store new.disk
  pub put : store.loaded ≡ false

-- the picked slot is no record or its picked cell is none, so that nothing may stand
pub record IsBad (offset : ℕ) (old new : State) : Type 0 where
  pub synced : IsSynced old new
  pub fault : IfSome (area_of old.disk) (λ area. stood area ≡ Err offset)
  pub none : IsTold new.disk → (db : Db) → May new.disk db → ⊥

-- what cut a mount off
abbrev pub mount_how : {S : Type 0} → Result S MountFault → How
mount_how (Ok store) = Through
mount_how (Err Off) = PowerLost
mount_how (Err DiskFault) = DiskFailed
mount_how (Err (BadStore offset)) = Through
mount_how (Err NoMemory) = Through

-- what is picked and its bytes, and nothing is unsynced
pub record IsRead (slot : List ℕ) (found : Found) (old new : State) : Type 0 where
  pub synced : IsSynced old new
  pub bytes : IfSome (area_of new.disk) (λ area. IsFoundIn area slot found)

-- what a read of what is picked leaves and finds, by its answer
abbrev pub ReadEnds : State → Result Found Down → List ℕ → State → Type 0
ReadEnds old (Ok found) slot new = IsRead slot found old new
ReadEnds old (Err down.Off) slot new = ⊤
ReadEnds old (Err down.Fault) slot new = SameArea old new

-- an entry in a record of the older version, by what was read of it
pub record IsOldRead (is_old_there : Bool) (store : Kept) (old new : State) : Type 0 where
  pub entry : IsTrue is_old_there → IsFull store.db
  pub slot : IfSome old.disk (λ d. IsTrue is_old_there → IsTrue (is_old (picked_slot d.area)))
  pub only : IsFull store.db → IfSome (area_of new.disk) (λ a. IsTrue (is_old (picked_slot a)) → IsTrue is_old_there)

-- what a read leaves and finds, by its answer
abbrev pub LookEnds : State → Result (Kept × Bool) MountFault → State → Type 0
LookEnds old (Ok read) new = IsLooked read.0 old new × IsOldRead read.1 read.0 old new
LookEnds old (Err Off) new = ⊤
LookEnds old (Err DiskFault) new = SameArea old new
LookEnds old (Err (BadStore offset)) new = IsBad offset old new
LookEnds old (Err NoMemory) new = SameArea old new

-- what a mount leaves and finds, by its answer
abbrev pub MountEnds : State → Result Kept MountFault → State → Type 0
MountEnds old (Ok store) new = IsMounted store old new
MountEnds old (Err Off) new = ⊤
MountEnds old (Err DiskFault) new = ⊤
MountEnds old (Err (BadStore offset)) new = IsBad offset old new
MountEnds old (Err NoMemory) new = SameArea old new
