-- What a device in memory means beyond what each device does, and what its calls leave of that.
use Rattle.std.specs.Prelude.{◌≡◌, ℕ, ◌+◌, ◌-◌, ◌^◌, ◌≤◌, min, true, false, List, [], ◌∷◌, length, Option, Some, None, option_map}
use Rattle.upd_text.specs.Counts.{counted}
use Rattle.device_model.specs.declared.calls.Answer.{Answer}
use Rattle.device_model.specs.declared.calls.Call.{Call}
use Rattle.device_model.specs.declared.calls.Event.{Event}
use Rattle.device_model.specs.declared.calls.Event.TheVariants.{Start, End, Loss}
use Rattle.device_model.specs.Disk.{Disk, marked}
use Rattle.device_model.specs.Work.{Work, work_lost, child_given}
use Rattle.device_model.specs.State.{State, after_sync, with_events}
use Rattle.device_mem.specs.declared.script.Plan.{Plan}
use Rattle.device_mem.specs.declared.script.Script.{Script}
use Rattle.device_mem.specs.declared.script.Tear.{Tear}
use Rattle.device_mem.specs.Fits.{Fits}
use Rattle.device_mem.specs.Folders.{left_by}
use Rattle.device_mem.specs.Losses.{count_losses}
use Rattle.device_mem.specs.Script.{taken_after}
use Rattle.device_mem.specs.Tears.{torn}

pub record MemState : Type 0 where
  pub device : State  -- what each device means
  pub synced : List ℕ  -- the area as it was at the last sync or loss
  pub calls : ℕ  -- that were made while it was on
  pub taken : ℕ  -- how many answers were taken
  pub started : ℕ  -- how many children were started
  pub starved : ℕ  -- how many calls found no memory
  pub plan : Plan

-- a new device: the area is that of the last sync, and nothing has happened yet
abbrev pub fresh : Disk → Work → ℕ → Script → MemState
fresh disk work room script = record {
  device = record { on = true; disk = Some disk; work = Some work; journal = []; room = room; faults = 0; losses = 0 };
  synced = disk.area;
  calls = 0;
  taken = 0;
  started = 0;
  starved = 0;
  plan = record { script = script; taken = 0; started = 0; losses = 0 };
}

-- Power came on: the journal is empty, with room for as many more events, and the plan is that of this boot.
abbrev pub powered : MemState → MemState
powered m = record m {
  device = record m.device { on = true; journal = []; room = m.device.room + length m.device.journal };
  plan = record { script = m.plan.script; taken = m.taken; started = m.started; losses = m.device.losses };
}

-- a call was made
abbrev pub called : MemState → MemState
called m = record m { calls = counted m.calls }

-- this is done to what each device means
abbrev pub with_device : (State → State) → MemState → MemState
with_device change m = record m { device = change m.device }

-- the bytes of the area
abbrev pub area_in : Option Disk → List ℕ
area_in None = []
area_in (Some disk) = disk.area

-- a sync
abbrev pub with_sync : MemState → MemState
with_sync m = record m { device = after_sync m.device; synced = area_in m.device.disk }

-- a write to this range that failed left its bytes as they were
abbrev pub after_spoil : ℕ → ℕ → State → State
after_spoil at count old = record old { disk = option_map (λ (d : Disk). record d { unsynced = marked at count d.unsynced }) old.disk }

-- a fault is counted
abbrev pub failing : MemState → MemState
failing m = record m { device = record m.device { faults = counted m.device.faults } }

-- and that there was no memory
abbrev pub starving : MemState → MemState
starving m = record (failing m) { starved = counted m.starved }

-- power was lost: these events stand at the journal's end
abbrev pub lost : List Event → Tear → MemState → MemState
lost events tear m = record m {
  device = record (with_events events m.device) {
    on = false;
    disk = option_map (torn tear m.synced) m.device.disk;
    work = option_map work_lost m.device.work;
    losses = counted m.device.losses;
  };
  synced = area_in (option_map (torn tear m.synced) m.device.disk);
}

-- a child was started, which left the work folder so
abbrev pub with_child : Call → MemState → MemState
with_child call m = record m {
  device = record m.device { work = option_map (λ (w : Work). left_by m.plan.script.meddle (child_given w)) m.device.work };
  taken = taken_after m.plan.script m.taken call;
  started = counted m.started;
}

-- and it ended
abbrev pub with_end : Call → Answer → MemState → MemState
with_end call answer m = with_device (with_events (Start call ∷ End answer ∷ [])) (with_child call m)

-- or power was lost
abbrev pub lost_child : Call → Tear → MemState → MemState
lost_child call tear m = lost (Start call ∷ Loss ∷ []) tear (with_child call m)

-- What happened since power came on is such as the plan gives.
pub record FollowsPlan (m : MemState) : Type 0 where
  pub fits : Fits m.plan.script m.plan.taken m.plan.started m.device.journal m.taken m.started
  pub losses : m.device.losses ≡ min (m.plan.losses + count_losses m.device.journal) (2 ^ 64 - 1)
  pub faults : m.plan.script.faults ≡ [] → m.device.faults ≡ m.starved
  pub taken : m.taken ≤ length m.plan.script.answers
