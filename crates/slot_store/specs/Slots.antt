-- The two slots of an area and their cells, and which database it stands for.
use Rattle.std.specs.Prelude.{◌≡◌, ◌⊎◌, ℕ, ◌+◌, ◌%◌, ◌==◌, if◌then◌else◌, List, slice_index, take, drop, Option, Some, None, Result, Ok, Err}
use Rattle.flow_table.specs.declared.position.Position.{Position}
use Rattle.record_codec.specs.declared.entry.Db.{Db}
use Rattle.record_codec.specs.declared.entry.Db.TheVariants.{Empty, Full}
use Rattle.upd_text.specs.Results.{◌>>=◌}
use Rattle.record_codec.specs.Reading.{database}
use Rattle.record_codec.specs.Cells.{cell}
use Rattle.slot_store.specs.declared.layout.TheConstants.{SLOT, SLOT_0, SLOT_1, CELLS_0, CELLS_1, CELL, CELL_0, CELL_1}
use Rattle.device_model.specs.Disk.{Disk, MayHold, IsTold}

-- of two places the one that a selector picks: the first for an even byte, the second for an odd one
abbrev pub of_parity : ℕ → ℕ → ℕ → ℕ
of_parity selector even odd = if selector % 2 == 0 then even else odd

-- where the slot begins that a selector picks
unfoldable pub slot_start : ℕ → ℕ
slot_start selector = of_parity selector SLOT_0 SLOT_1

-- how many bytes a slot has
unfoldable pub slot_size : ℕ
slot_size = SLOT

-- where the cell selector of that slot stands
unfoldable pub cells_start : ℕ → ℕ
cells_start selector = of_parity selector CELLS_0 CELLS_1

-- how far behind it the cell begins that it picks
unfoldable pub cell_offset : ℕ → ℕ
cell_offset selector = of_parity selector CELL_0 CELL_1

-- how many bytes a cell has
unfoldable pub cell_size : ℕ
cell_size = CELL

-- the slot that the selector, byte 0 of the area, picks
unfoldable pub picked_slot : List ℕ → List ℕ
picked_slot area = take slot_size (drop (slot_start (slice_index area 0)) area)

-- the selector of that slot's cells
unfoldable pub cell_selector : List ℕ → ℕ
cell_selector area = slice_index area (cells_start (slice_index area 0))

-- the cell of that slot that it picks
unfoldable pub picked_cell : List ℕ → List ℕ
picked_cell area = take cell_size (drop (cells_start (slice_index area 0) + cell_offset (cell_selector area)) area)

-- an entry is at the position of its cell, where that says one
abbrev pub placed : Db → Result (Option Position) ℕ → Result Db ℕ
placed Empty said = Ok Empty
placed (Full e) (Ok None) = Ok (Full e)
placed (Full e) (Ok (Some p)) = Ok (Full (record e { position = p }))
placed (Full e) (Err offset) = Err (200000 + offset)

-- what a slot and a cell say: the database, or what is wrong first
abbrev pub said : List ℕ → List ℕ → Result Db ℕ
said slot bytes = database slot >>= λ db. placed db (cell bytes)

-- what the picked slot and its picked cell say: the database, or the offset of the first wrong field of the record, or
-- 200,000 and the offset of the first wrong byte of the cell
abbrev pub stood : List ℕ → Result Db ℕ
stood area = said (picked_slot area) (picked_cell area)

-- the area stands for this database
abbrev pub Stands : List ℕ → Db → Type 0
Stands area db = stood area ≡ Ok db

-- an area that the disk may hold stands for this
pub record May (disk : Option Disk) (db : Db) : Type 0 where
  pub area : List ℕ
  pub held : MayHold disk area
  pub stands : Stands area db

-- each area that the disk may hold stands for some database
abbrev pub Sound : Option Disk → Type 0
Sound disk = (area : List ℕ) → MayHold disk area → (db : Db) × Stands area db

-- a disk that is told stands for this database, and for no other
pub record IsAt (db : Db) (disk : Option Disk) : Type 0 where
  pub stands : IsTold disk → May disk db
  pub alone : IsTold disk → (d : Db) → May disk d → d ≡ db

-- what new may stand for is what old may stand for, or this
abbrev pub OldOrNew : Db → Option Disk → Option Disk → Type 0
OldOrNew db old new = (d : Db) → May new d → May old d ⊎ (d ≡ db)
