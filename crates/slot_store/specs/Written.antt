-- Which bytes a put writes, and what stands there once it is done.
use Rattle.std.specs.Prelude.{◌≡◌, ℕ, ◌+◌, ◌-◌, Bool, true, false, if◌then◌else◌, List, replicate, slice_index, take, drop, Option, IfSome, MatchBool}
use Rattle.flow_table.specs.declared.position.Position.{Position}
use Rattle.record_codec.specs.declared.entry.Entry.{Entry}
use Rattle.record_codec.specs.declared.entry.Db.{Db}
use Rattle.record_codec.specs.declared.entry.Db.TheVariants.{Empty, Full}
use Rattle.record_codec.specs.declared.entry.Version.TheVariants.{Second}
use Rattle.record_codec.specs.Spelling.{IfFull, record_of, record_length}
use Rattle.record_codec.specs.Cells.{cell_of}
use Rattle.device_model.specs.Disk.{Disk, MayHold, IsApart, area_of}
use Rattle.slot_store.specs.declared.layout.TheConstants.{CELL, CELLS}
use Rattle.slot_store.specs.Slots.{slot_start, cells_start, cell_offset}
use Rattle.slot_store.specs.Kept.{Kept}
use Rattle.slot_store.specs.Put.{moved}

-- how many bytes the record of a database's entry has
abbrev pub size_of : Db → ℕ
size_of Empty = 0
size_of (Full e) = record_length e

-- not byte 0, not a byte of this slot's cells, and none of so many bytes at its front
abbrev pub IsPastRecord : ℕ → ℕ → ℕ → Type 0
IsPastRecord slot count i = IsApart 0 1 i × IsApart (cells_start slot) CELLS i × IsApart (slot_start slot) count i

-- not the selector of this slot's cells, and no byte of this cell of it
abbrev pub IsPastCell : ℕ → ℕ → ℕ → Type 0
IsPastCell slot cell i = IsApart (cells_start slot) 1 i × IsApart (cells_start slot + cell_offset cell) CELL i

-- the offsets that a put of this store doesn't write
abbrev pub IsSpared : Kept → ℕ → Type 0
IsSpared store i = MatchBool store.loaded (IsPastRecord (1 - store.picked) (size_of store.db) i) (IsPastCell store.picked (1 - store.cell) i)

-- the areas have the same bytes at these offsets
abbrev pub SameAt : (ℕ → Type 0) → List ℕ → List ℕ → Type 0
SameAt kept old new = (i : ℕ) → kept i → slice_index new i ≡ slice_index old i

-- these bytes of the disk are those of this area, also after a loss
pub record Keeps (kept : ℕ → Type 0) (old : List ℕ) (disk : Option Disk) : Type 0 where
  pub reads : IfSome (area_of disk) (SameAt kept old)
  pub holds : (area : List ℕ) → MayHold disk area → SameAt kept old area

-- byte 0 is this slot's number, the slot begins with the entry's record, and its cells are zeros
pub record HasFresh (e : Entry) (slot : ℕ) (area : List ℕ) : Type 0 where
  pub selector : slice_index area 0 ≡ slot
  pub begins : take (record_length e) (drop (slot_start slot) area) ≡ record_of Second e
  pub cells : take CELLS (drop (cells_start slot) area) ≡ replicate CELLS 0

-- the selector of this slot's cells is this cell's number, and the cell is that of the position
pub record HasCell (p : Position) (slot number : ℕ) (area : List ℕ) : Type 0 where
  pub selector : slice_index area (cells_start slot) ≡ number
  pub is_cell : take CELL (drop (cells_start slot + cell_offset number) area) ≡ cell_of p

-- what a store keeps once it was put: another slot with its cell 0, or the other cell of the same slot
abbrev pub put_first : Kept → Kept
put_first store = record { picked = 1 - store.picked; cell = 0; loaded = false; db = store.db }

abbrev pub put_further : Kept → Kept
put_further store = record store { cell = 1 - store.cell }

abbrev pub put_to : Position → Kept → Kept
put_to p store = if store.loaded then put_first (record store { db = moved p store.db }) else put_further (record store { db = moved p store.db })

-- what a put wrote of what the store holds: its entry where that was loaded before, and else the entry's position
abbrev pub HasPut : Bool → Kept → List ℕ → Type 0
HasPut loaded store area = IfFull (λ e. MatchBool loaded (HasFresh e store.picked area) (HasCell e.position store.picked store.cell area)) store.db

-- an entry was written again as a first put writes it, and nothing else
pub record IsMigrated (store : Kept) (old new : Option Disk) : Type 0 where
  pub written : IfSome new (λ d. HasPut true store d.area)
  pub spares : IfSome old (λ d. Keeps (IsPastRecord store.picked (size_of store.db)) d.area new)
