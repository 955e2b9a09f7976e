-- How a layer over the device ended.
use Rattle.std.specs.Prelude.{◌≡◌, ℕ, ◌-◌, Bool, true, false, List, [], ◌∷◌, ◌++◌, length, Option, option_map, Result, Ok, Err}
use Rattle.upd_text.specs.Counts.{counted}
use Rattle.device_model.specs.declared.calls.Event.{Event}
use Rattle.device_model.specs.declared.calls.Event.TheVariants.{Start, Loss}
use Rattle.device_model.specs.declared.calls.Down.{Down}
use Rattle.device_model.specs.declared.calls.Down.TheVariants.{Off, Fault}
use Rattle.device_model.specs.Disk.{Disk, WhereTold, AddsNothing, IsTold, area_of}
use Rattle.device_model.specs.Work.{Work, work_lost, given_at_start}
use Rattle.device_model.specs.State.{State}

-- whether it went through, or what cut it off
pub data How : Type 0 where
  Through : How
  PowerLost : How
  DiskFailed : How

-- the same of a call of the disk
abbrev pub how_of : {T : Type 0} → Result T Down → How
how_of (Ok x) = Through
how_of (Err Off) = PowerLost
how_of (Err Fault) = DiskFailed

-- whether the device is on then, and its counts
pub record Counts (is_on : Bool) (lost failed : ℕ) (new : State) : Type 0 where
  pub on : new.on ≡ is_on
  pub losses : new.losses ≡ lost
  pub faults : new.faults ≡ failed

abbrev pub EndsAs : How → State → State → Type 0
EndsAs Through old new = Counts true old.losses old.faults new
EndsAs PowerLost old new = Counts false (counted old.losses) old.faults new
EndsAs DiskFailed old new = Counts true old.losses (counted old.faults) new

-- what stands at the journal's end of a device that is on, and of one that lost its power
abbrev pub loss_at : Bool → List Event
loss_at true = []
loss_at false = Loss ∷ []

-- a work folder that no call changed: a loss of power alone takes what wasn't synced
abbrev pub work_after : Bool → Option Work → Option Work
work_after true work = work
work_after false work = option_map work_lost work

-- whether a child was started
abbrev pub has_start : List Event → Bool
has_start [] = false
has_start (Start c ∷ events) = true
has_start (e ∷ events) = has_start events

-- where a child was started, what the first one since the last clear was given stays, or is the work folder as it stood
abbrev pub KeepsGiven : Work → Work → Type 0
KeepsGiven old new = new.given ≡ given_at_start old.folder old.given

-- by whether a child was started and whether the device is still on: where none was, the work folder changes by a loss alone
abbrev pub WorksOn : Bool → Bool → Option Work → Option Work → Type 0
WorksOn true on old new = WhereTold KeepsGiven old new
WorksOn false on old new = new ≡ work_after on old

-- Nothing but these events happened, whatever became of the disk.
pub record Passed (events : List Event) (how : How) (old new : State) : Type 0 where
  pub ends : EndsAs how old new
  pub journal : new.journal ≡ old.journal ++ (events ++ loss_at new.on)
  pub room : new.room ≡ old.room - length (events ++ loss_at new.on)
  pub work : WorksOn (has_start events) new.on old.work new.work

-- nothing happened, and the disk may hold nothing that it couldn't before
pub record Waited (how : How) (old new : State) : Type 0 where
  pub passed : Passed [] how old new
  pub adds : AddsNothing old.disk new.disk
  pub told : IsTold old.disk → IsTold new.disk

-- the area reads as before
abbrev pub SameArea : State → State → Type 0
SameArea old new = area_of new.disk ≡ area_of old.disk
