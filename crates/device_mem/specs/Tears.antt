-- What a loss of power leaves of a disk in memory.
use Rattle.std.specs.Prelude.{ℕ, Bool, true, false, List, ◌∷◌}
use Rattle.device_model.specs.Disk.{Disk, unmarked}
use Rattle.device_mem.specs.declared.script.Tear.{Tear}
use Rattle.device_mem.specs.declared.script.Tear.TheVariants.{Old, New, Byte}

-- a byte that is synced stays; one that isn't becomes the one of the last sync, stays as it is, or becomes this byte
abbrev pub torn_byte : Tear → Bool → ℕ → ℕ → ℕ
torn_byte tear false before now = now
torn_byte Old true before now = before
torn_byte New true before now = now
torn_byte (Byte byte) true before now = byte

-- byte by byte
abbrev pub torn_area : Tear → List Bool → List ℕ → List ℕ → List ℕ
torn_area tear (flag ∷ unsynced) (was ∷ before) (is ∷ area) = torn_byte tear flag was is ∷ torn_area tear unsynced before area
torn_area tear unsynced before area = area

-- before is the area as it was at the last sync
abbrev pub torn : Tear → List ℕ → Disk → Disk
torn tear before disk = record { area = torn_area tear disk.unsynced before disk.area; unsynced = unmarked disk.unsynced }
