-- What a journal holds, and how far the script was taken.
use Rattle.std.specs.Prelude.{ℕ, ◌-◌, ◌++◌, List, length}
use Rattle.device_model.specs.declared.calls.Event.{Event}
use Rattle.device_mem.specs.declared.script.Plan.{Plan}
use Rattle.device_mem.specs.declared.log.MemLog.{MemLog}

pub record Log : Type 0 where
  pub journal : List Event
  pub room : ℕ
  pub losses : ℕ
  pub taken : ℕ
  pub started : ℕ
  pub plan : Plan

abbrev pub log_of : MemLog → Log
log_of l = record { journal = l.journal.events; room = l.journal.room; losses = l.losses; taken = l.taken; started = l.started; plan = l.plan }

abbrev pub noted : List Event → Log → Log
noted events log = record log { journal = log.journal ++ events; room = log.room - length events }
