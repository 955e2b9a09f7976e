-- What blocks in memory mean beyond what all blocks do, and what their calls leave of that.
use Rattle.std.specs.Prelude.{◌≡◌, ℕ, Bool, true, false, List, length, replicate, if◌then◌else◌, MatchBool, Result, IsOk, IsErrOf}
use Rattle.upd_text.specs.Counts.{counted}
use Rattle.device_model.specs.declared.calls.Down.{Down}
use Rattle.device_model.specs.declared.calls.Down.TheVariants.{Off, Fault}
use Rattle.device_model.specs.Disk.{Disk, overwritten, marked, written, synced}
use Rattle.device_mem.specs.declared.script.LossAt.{LossAt}
use Rattle.device_mem.specs.declared.script.Tear.{Tear}
use Rattle.device_mem.specs.declared.moment.Moment.{Moment}
use Rattle.device_mem.specs.declared.moment.Moment.TheVariants.{Fine, Fails, Loses}
use Rattle.device_mem.specs.Moment.{moment_at}
use Rattle.device_mem.specs.Parts.{fresh_disk}
use Rattle.device_mem.specs.Tears.{torn, torn_area}

pub record MemState : Type 0 where
  pub on : Bool
  pub disk : Disk
  pub before : List ℕ  -- the area as it was at the last sync or loss
  pub losing : List LossAt
  pub failing : List ℕ
  pub calls : ℕ  -- that were made while they were on
  pub losses : ℕ
  pub faults : ℕ

abbrev pub fresh : ℕ → List LossAt → List ℕ → MemState
fresh size losing failing = record { on = true; disk = fresh_disk (replicate size 0); before = replicate size 0; losing = losing; failing = failing; calls = 0; losses = 0; faults = 0 }

abbrev pub powered : MemState → MemState
powered m = record m { on = true }

-- bytes in the area, synced
abbrev pub with_bytes : ℕ → List ℕ → MemState → MemState
with_bytes at bytes m = record m {
  disk = record { area = overwritten at bytes m.disk.area; unsynced = overwritten at (replicate (length bytes) false) m.disk.unsynced };
  before = overwritten at bytes m.before;
}

abbrev pub called : MemState → MemState
called m = record m { calls = counted m.calls }

abbrev pub with_write : ℕ → List ℕ → MemState → MemState
with_write at bytes m = record m { disk = written at bytes m.disk }

-- a write that failed left its bytes as they were
abbrev pub with_spoil : ℕ → ℕ → MemState → MemState
with_spoil at count m = record m { disk = record m.disk { unsynced = marked at count m.disk.unsynced } }

abbrev pub with_sync : MemState → MemState
with_sync m = record m { disk = synced m.disk; before = m.disk.area }

abbrev pub failing : MemState → MemState
failing m = record m { faults = counted m.faults }

abbrev pub lost : Tear → MemState → MemState
lost tear m = record m { on = false; disk = torn tear m.before m.disk; before = torn_area tear m.disk.unsynced m.before m.disk.area; losses = counted m.losses }

-- what the next call meets
abbrev pub next_moment : MemState → Moment
next_moment m = moment_at m.losing m.failing m.calls

-- a call does its work, fails, or loses power before its work or after it
abbrev pub ActsAt : {T : Type 0} → Moment → (done failed : MemState → MemState) → MemState → Result T Down → MemState → Type 0
ActsAt Fine done failed m result new = IsOk result × (new ≡ done m)
ActsAt Fails done failed m result new = IsErrOf result Fault × (new ≡ failing (failed m))
ActsAt (Loses loss) done failed m result new = IsErrOf result Off × (new ≡ lost loss.tear (if loss.before then m else done m))

-- while they are on each call is counted, and meets what is planned for its number; those that are off stay as they are
abbrev pub ActsMem : {T : Type 0} → (done failed : MemState → MemState) → MemState → Result T Down → MemState → Type 0
ActsMem done failed old result new = MatchBool old.on (ActsAt (next_moment old) done failed (called old) result new) (IsErrOf result Off × (new ≡ old))
