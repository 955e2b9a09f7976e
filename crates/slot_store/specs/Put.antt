-- Putting an entry at another position.
use Rattle.std.specs.Prelude.{◌≡◌, ◌⊎◌, ℕ, ◌%◌, false, List, [], length, drop, Option, IfSome, Ok, ⊤}
use Rattle.flow_table.specs.declared.position.Position.{Position}
use Rattle.record_codec.specs.declared.entry.Entry.{Entry}
use Rattle.record_codec.specs.declared.entry.Db.{Db}
use Rattle.record_codec.specs.declared.entry.Db.TheVariants.{Empty, Full}
use Rattle.device_model.specs.Disk.{Disk, MayHold, ChangesOnly, IsTold, IsRefilled, IsApart, area_of}
use Rattle.device_model.specs.State.{State, after_write, after_sync}
use Rattle.device_model.specs.How.{How, Passed}
use Rattle.slot_store.specs.Slots.{slot_start, cells_start, stood, Stands, IsAt, cell_selector}
use Rattle.slot_store.specs.Kept.{Kept, IsOf, IsPicked, HasRecord}
use Rattle.slot_store.specs.declared.layout.TheConstants.{SLOT_0, CELLS}

-- there is an entry
abbrev pub IsFull : Db → Type 0
IsFull Empty = ⊥
IsFull (Full e) = ⊤

-- the entry at another position, where there is one
abbrev pub moved : Position → Db → Db
moved position Empty = Empty
moved position (Full e) = Full (record e { position = position })

-- nothing happened but what became of the disk
pub record Wrote (how : How) (old new : State) : Type 0 where
  pub passed : Passed [] how old new
  pub told : IsTold old.disk → IsTold new.disk

-- an area that the disk may hold, which stands for what this one stands for
pub record StandsAs (disk : Option Disk) (area : List ℕ) : Type 0 where
  pub before : List ℕ
  pub held : MayHold disk before
  pub same : stood area ≡ stood before

-- each area that new may hold stands for what one stands for that old may hold, or for this entry
abbrev pub Turns : Entry → Option Disk → Option Disk → Type 0
Turns e old new = (area : List ℕ) → MayHold new area → StandsAs old area ⊎ (stood area ≡ Ok (Full e))

-- the disk stands for this entry, synced; this slot is picked and has its record, and this cell of it is picked
pub record Holds (e : Entry) (picked cell : ℕ) (disk : Disk) : Type 0 where
  pub slot : IsPicked picked disk
  pub record_there : HasRecord (Full e) cell disk.area
  pub stands : stood disk.area ≡ Ok (Full e)

-- this slot is picked, and this cell of it
pub record IsCellPicked (picked cell : ℕ) (disk : Disk) : Type 0 where
  pub slot : IsPicked picked disk
  pub of_slot : cell_selector disk.area % 2 ≡ cell

-- where the slots begin
unfoldable pub slots_start : ℕ
slots_start = SLOT_0

-- the slots have the same bytes
abbrev pub SameSlots : List ℕ → List ℕ → Type 0
SameSlots old new = drop slots_start new ≡ drop slots_start old

-- the slots of the disk are those of this area, also after a loss
pub record KeepsSlots (old : List ℕ) (disk : Option Disk) : Type 0 where
  pub reads : IfSome (area_of disk) (SameSlots old)
  pub holds : (area : List ℕ) → MayHold disk area → SameSlots old area

-- the store is of the device, which stands for what it holds, synced
pub record IsPut (meant : Db) (store : Kept) (old new : State) : Type 0 where
  pub db : store.db ≡ meant
  pub stands : IfSome (area_of new.disk) (λ area. Stands area store.db)
  pub is_of : IsOf store new.disk
  pub is_at : IsAt store.db new.disk
  pub room : new.room ≡ old.room
  pub put : store.loaded ≡ false

-- what new may hold is what old may hold, with any bytes in this slot's first bytes and in its cells
abbrev pub IsStaged : ℕ → ℕ → Option Disk → Option Disk → Type 0
IsStaged slot count old new = (area : List ℕ) → MayHold new area
    → (before : List ℕ) × (between : List ℕ) × MayHold old before × IsRefilled (IsApart (slot_start slot) count) before between × IsRefilled (IsApart (cells_start slot) CELLS) between area

-- The bytes at a place were written, in part at least, and nothing else; or they were written and synced, and then the byte
-- that picks the place, in part at least.
abbrev pub Replaces : ℕ → List ℕ → ℕ → State → Option Disk → Type 0
Replaces at bytes selector old new = ChangesOnly at (length bytes) old.disk new
    ⊎ (ChangesOnly at (length bytes) old.disk (after_sync (after_write at bytes old)).disk × ChangesOnly selector 1 (after_sync (after_write at bytes old)).disk new)
