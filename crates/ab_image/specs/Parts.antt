-- What the steps of a call leave, by their answers.
use Rattle.std.specs.Prelude.{◌≡◌, ◌⊎◌, ℕ, false, List, length, slice_index_or, Option, IfSome, Result, Ok, Err, IfOk, OnOk, ⊤}
use Rattle.device_model.specs.declared.calls.Down.{Down}
use Rattle.device_model.specs.declared.calls.Down.TheVariants.{Off, Fault}
use Rattle.device_model.specs.Disk.{Disk, WhereTold, IsRefilled, MayHold, KeepsDisk, IsSettled, IsApart, IsSynced, overwritten, area_of}
use Rattle.device_model.specs.How.{how_of}
use Rattle.ab_image.specs.declared.settling.Named.{Named}
use Rattle.ab_image.specs.Layout.{chosen, origin, Agree, StaysOrNames, IsSane, choice_at, origin_at}
use Rattle.ab_image.specs.Blocks.{Medium, EndsAs}

-- what new may hold is what old may hold, with the same bytes at the offsets that are kept
abbrev pub Touches : (ℕ → Type 0) → Option Disk → Option Disk → Type 0
Touches kept old new = (area : List ℕ) → MayHold new area → (before : List ℕ) × MayHold old before × IsRefilled kept before area

-- both disks are told, or neither
abbrev pub BothTold : Option Disk → Option Disk → Type 0
BothTold old new = WhereTold (λ d e. ⊤) old new

-- a byte stays, unless power was lost while it was unsynced
abbrev pub KeepsByte : ℕ → Medium → Disk → Disk → Type 0
KeepsByte i new d e = (slice_index_or e.area i 0 ≡ slice_index_or d.area i 0) ⊎ ((new.on ≡ false) × (IsSynced d.unsynced i → ⊥))

-- only bytes that aren't kept were written
pub record Within (kept : ℕ → Type 0) (old new : Medium) : Type 0 where
  pub touches : Touches kept old.disk new.disk
  pub bytes : (i : ℕ) → kept i → WhereTold (KeepsByte i new) old.disk new.disk
  pub told : BothTold old.disk new.disk

-- the area reads as before, unless power was lost
abbrev pub ReadsAsBefore : {T : Type 0} → Result T Down → Medium → Medium → Type 0
ReadsAsBefore (Ok x) old new = area_of new.disk ≡ area_of old.disk
ReadsAsBefore (Err Fault) old new = area_of new.disk ≡ area_of old.disk
ReadsAsBefore (Err Off) old new = ⊤

-- nothing was written
pub record Calm {T : Type 0} (old : Medium) (result : Result T Down) (new : Medium) : Type 0 where
  pub ends : EndsAs (how_of result) old new
  pub keeps : KeepsDisk old.disk new.disk
  pub told : BothTold old.disk new.disk
  pub area : ReadsAsBefore result old new

-- nothing was written, and after it what is read stands
pub record Settles (old : Medium) (result : Result Named Down) (new : Medium) : Type 0 where
  pub calm : Calm old result new
  pub settled : OnOk result (IsSettled new.disk)
  pub choice : IfOk result (λ n. IfSome (area_of old.disk) (λ area. n.choice ≡ chosen area))
  pub origin : IfOk result (λ n. IfSome (area_of old.disk) (λ area. n.origin ≡ origin area))

-- these bytes were written at an offset, and stand
pub record Sets (at : ℕ) (bytes : List ℕ) (old : Medium) (result : Result (Unit {0}) Down) (new : Medium) : Type 0 where
  pub ends : EndsAs (how_of result) old new
  pub touches : Touches (IsApart at (length bytes)) old.disk new.disk
  pub told : BothTold old.disk new.disk
  pub settled : OnOk result (IsSettled new.disk)
  pub area : OnOk result (WhereTold (λ d e. e.area ≡ overwritten at bytes d.area) old.disk new.disk)

-- the choice or the origin was set to the other's partition, where they differ
pub record Aligns (at : ℕ) (goal : List ℕ → List ℕ → Type 0) (old : Medium) (result : Result (Unit {0}) Down) (new : Medium) : Type 0 where
  pub ends : EndsAs (how_of result) old new
  pub sane : IsSane old.disk → IsSane new.disk
  pub within : Within (IsApart at 1) old new
  pub settled : OnOk result (IsSettled new.disk)
  pub area : OnOk result (WhereTold (λ d e. goal d.area e.area) old.disk new.disk)
  pub named : OnOk result (WhereTold (λ d e. StaysOrNames at d.area e.area) old.disk new.disk)
  -- nothing is written where the parities agree
  pub calm : IfSome (area_of old.disk) (λ area. Agree area → Calm old result new)

abbrev pub Cleans : Medium → Result (Unit {0}) Down → Medium → Type 0
Cleans old result new = Aligns origin_at (λ before after. Agree after) old result new

abbrev pub RollsBack : Medium → Result (Unit {0}) Down → Medium → Type 0
RollsBack old result new = Aligns choice_at (λ before after. chosen after ≡ origin before) old result new
