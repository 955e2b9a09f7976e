-- What a store keeps, and the device that it is of.
use Rattle.std.specs.Prelude.{◌≡◌, ℕ, ◌≤◌, ◌%◌, Bool, List, slice_index, Option, Some, None, Ok, MatchBool, ⊤}
use Rattle.flow_table.specs.declared.position.Position.{Position}
use Rattle.record_codec.specs.declared.entry.Entry.{Entry}
use Rattle.record_codec.specs.declared.entry.Db.{Db}
use Rattle.record_codec.specs.declared.entry.Db.TheVariants.{Empty, Full}
use Rattle.record_codec.specs.Reading.{database}
use Rattle.record_codec.specs.Spelling.{IsRight, record_length}
use Rattle.record_codec.specs.declared.length.TheConstants.{LARGEST_RECORD}
use Rattle.device_model.specs.Disk.{Disk, unmarked}
use Rattle.slot_store.specs.Slots.{picked_slot, cell_selector}

-- a store: which slot is picked and which of its cells, what it holds, and whether that was loaded and not put yet
pub record Kept : Type 0 where
  pub picked : ℕ
  pub cell : ℕ
  pub loaded : Bool
  pub db : Db

-- an entry that a slot can take
pub record IsStorable (e : Entry) : Type 0 where
  pub right : IsRight e
  pub fits : record_length e ≤ LARGEST_RECORD

-- the picked slot says that nothing is there, or it has a record of this entry, at whatever position, and its selector
-- picks this cell
abbrev pub HasRecord : Db → ℕ → List ℕ → Type 0
HasRecord Empty picked area = database (picked_slot area) ≡ Ok Empty
HasRecord (Full e) picked area = ((p : Position) × (database (picked_slot area) ≡ Ok (Full (record e { position = p })))) × (cell_selector area % 2 ≡ picked)

-- nothing is unsynced, and byte 0 picks this slot
pub record IsPicked (picked : ℕ) (disk : Disk) : Type 0 where
  pub settled : disk.unsynced ≡ unmarked disk.unsynced
  pub parity : slice_index disk.area 0 % 2 ≡ picked

-- the store is of a device that tells this disk
pub record IsOfDisk (store : Kept) (disk : Disk) : Type 0 where
  pub picked : IsPicked store.picked disk
  pub record_there : MatchBool store.loaded ⊤ (HasRecord store.db store.cell disk.area)

-- the store is of the device, where that tells its disk
abbrev pub IsOf : Kept → Option Disk → Type 0
IsOf store None = ⊤
IsOf store (Some disk) = IsOfDisk store disk
