-- What a device of real files means: it tells its journal and its counts, and nothing of what the files hold.
use Rattle.std.specs.Prelude.{◌≡◌, ℕ, ◌≤◌, List, [], true, None}
use Rattle.device_model.specs.declared.calls.Event.{Event}
use Rattle.device_model.specs.State.{State}
use Rattle.device_model.specs.declared.device.TheConstants.{ROOM}

-- a device that is on, with these events, room for so many more, and so many failed calls
abbrev pub host_state : List Event → ℕ → ℕ → State
host_state journal room failed = record { on = true; disk = None; work = None; journal = journal; room = room; faults = failed; losses = 0 }

-- a device at the begin of a boot: it is on, its journal is empty, and it takes all events of one command
pub record IsNew (state : State) : Type 0 where
  pub on : state.on ≡ true
  pub journal : state.journal ≡ []
  pub room : ROOM ≤ state.room
