-- The disk of a device: its area, which of its bytes may be lost, and what may stand after a loss.
use Rattle.std.specs.Prelude.{◌≡◌, ◌⊎◌, ℕ, ◌+◌, ◌<◌, ◌≤◌, Bool, true, false, List, ◌++◌, length, slice_index, slice_index_or, take, drop, replicate, All, Option, Some, None, option_map, ⊤}

abbrev pub IsByte : ℕ → Type 0
IsByte x = x < 256

-- an offset lies apart from a range of bytes
abbrev pub IsApart : ℕ → ℕ → ℕ → Type 0
IsApart at count i = (i < at) ⊎ (at + count ≤ i)

-- new is old with the same bytes at the offsets that are kept, and any bytes elsewhere
pub record IsRefilled (kept : ℕ → Type 0) (old new : List ℕ) : Type 0 where
  pub same_length : length new ≡ length old
  pub bytes : All IsByte new
  pub outside : (i : ℕ) → kept i → slice_index new i ≡ slice_index old i

-- a disk that is told: its bytes as a read gives them, and of each whether it may be lost
pub record Disk : Type 0 where
  pub area : List ℕ
  pub unsynced : List Bool

abbrev pub IsSynced : List Bool → ℕ → Type 0
IsSynced unsynced i = slice_index_or unsynced i false ≡ false

-- nothing is unsynced
abbrev pub unmarked : List Bool → List Bool
unmarked unsynced = replicate (length unsynced) false

abbrev pub synced : Disk → Disk
synced disk = record disk { unsynced = unmarked disk.unsynced }

-- these elements at this offset, over what is there
abbrev pub overwritten : {A : Type 0} → ℕ → List A → List A → List A
overwritten at xs all = take at all ++ xs ++ drop (at + length xs) all

-- a range is unsynced too
abbrev pub marked : ℕ → ℕ → List Bool → List Bool
marked at count unsynced = overwritten at (replicate count true) unsynced

-- a write that was done
abbrev pub written : ℕ → List ℕ → Disk → Disk
written at bytes disk = record { area = overwritten at bytes disk.area; unsynced = marked at (length bytes) disk.unsynced }

-- a write in this range was not done: it holds any bytes, and is unsynced
pub record IsSpoiled (at count : ℕ) (old new : Disk) : Type 0 where
  pub area : IsRefilled (IsApart at count) old.area new.area
  pub unsynced : new.unsynced ≡ marked at count old.unsynced

-- power was lost: this range and all that was unsynced holds any bytes, and that is what stands now
pub record IsTorn (at count : ℕ) (old new : Disk) : Type 0 where
  pub area : IsRefilled (λ i. IsSynced old.unsynced i × IsApart at count i) old.area new.area
  pub unsynced : new.unsynced ≡ unmarked old.unsynced

-- ---- a disk that may not be told

-- the relation where both are told, and no word where neither is; a call doesn't change whether it is
abbrev pub WhereTold : {T : Type 0} → (T → T → Type 0) → Option T → Option T → Type 0
WhereTold R (Some old) (Some new) = R old new
WhereTold R None None = ⊤
WhereTold R (Some old) None = ⊥
WhereTold R None (Some new) = ⊥

abbrev pub IsTold : Option Disk → Type 0
IsTold None = ⊥
IsTold (Some disk) = ⊤

-- the area, where it is told
abbrev pub area_of : Option Disk → Option (List ℕ)
area_of disk = option_map (λ (d : Disk). d.area) disk

-- nothing is unsynced, where it is told
abbrev pub IsSettled : Option Disk → Type 0
IsSettled None = ⊤
IsSettled (Some disk) = disk.unsynced ≡ unmarked disk.unsynced

-- an area of so many bytes, with a flag for each
pub record IsDisk (count : ℕ) (disk : Disk) : Type 0 where
  pub size : length disk.area ≡ count
  pub bytes : All IsByte disk.area
  pub flags : length disk.unsynced ≡ count

abbrev pub IsWhole : ℕ → Option Disk → Type 0
IsWhole count None = ⊤
IsWhole count (Some disk) = IsDisk count disk

-- ---- what may stand

-- an area that a disk may hold: any bytes where it is unsynced, and the told ones elsewhere. Where it isn't told, any bytes at all
abbrev pub MayHold : Option Disk → List ℕ → Type 0
MayHold None area = All IsByte area
MayHold (Some disk) area = IsRefilled (IsSynced disk.unsynced) disk.area area

-- new may hold no area that old may not
abbrev pub AddsNothing : Option Disk → Option Disk → Type 0
AddsNothing old new = (area : List ℕ) → MayHold new area → MayHold old area

-- what new may hold is what old may hold, with any bytes in this range
abbrev pub ChangesOnly : ℕ → ℕ → Option Disk → Option Disk → Type 0
ChangesOnly at count old new = (area : List ℕ) → MayHold new area → (before : List ℕ) × MayHold old before × IsRefilled (IsApart at count) before area

-- a call that writes nothing: the disk may hold nothing new, and where nothing is unsynced it stays as it is
pub record KeepsDisk (old new : Option Disk) : Type 0 where
  pub adds : AddsNothing old new
  pub settled : IsSettled old → new ≡ old
