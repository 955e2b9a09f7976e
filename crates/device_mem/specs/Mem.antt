-- What a device in memory means.
use Rattle.std.specs.Prelude.{Some}
use Rattle.std.proofs.Common.{◌∙◌}
use Rattle.device_model.specs.Disk.{IsWhole}
use Rattle.device_model.specs.State.{State}
use Rattle.device_mem.specs.declared.device.MemDevice.{MemDevice}
use Rattle.device_mem.specs.declared.script.Plan.{Plan}
use Rattle.device_mem.specs.MemState.{MemState, FollowsPlan}
use Rattle.device_mem.specs.Parts.{disk_of, work_of}

-- what each device means
abbrev pub state_of : MemDevice → State
state_of m = record {
  on = m.on;
  disk = Some (disk_of m.disk);
  work = Some (work_of m.folder);
  journal = m.log.journal.events;
  room = m.log.journal.room;
  faults = m.faults;
  losses = m.log.losses;
}

-- its script, and how far it was taken when power came on last
abbrev pub plan_of : MemDevice → Plan
plan_of m = m.log.plan

-- its type keeps that its area is whole
pub is_whole : (m : MemDevice) → IsWhole 266240 (state_of m).disk
is_whole m = record { size = m.area_is; bytes = m.disk.bytes; flags = m.disk.unsynced_is ∙ m.area_is }

-- all that it means
abbrev pub mem_of : MemDevice → MemState
mem_of m = record {
  device = state_of m;
  synced = m.disk.before.items;
  calls = m.calls;
  taken = m.log.taken;
  started = m.log.started;
  starved = m.starved;
  plan = plan_of m;
}

-- its type keeps that
pub follows_plan : (m : MemDevice) → FollowsPlan (mem_of m)
follows_plan m = record { fits = m.log.fits; losses = m.log.losses_are; faults = m.faults_are; taken = m.log.taken_within }
