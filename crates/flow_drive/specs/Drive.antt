-- How a deployment went on.
use Rattle.std.specs.Prelude.{◌≡◌, ◌⊎◌, Bool, List, [], Option, ⊤}
use Rattle.device_model.specs.declared.calls.Event.{Event}
use Rattle.device_model.specs.declared.calls.Down.{Down}
use Rattle.device_model.specs.declared.calls.Down.TheVariants as down
use Rattle.device_model.specs.Disk.{Disk, IsTold}
use Rattle.device_model.specs.State.{State}
use Rattle.device_model.specs.How.{How, Through, PowerLost, DiskFailed, Passed}
use Rattle.script_names.specs.declared.site.Site.{Site}
use Rattle.flow_table.specs.declared.position.Outcome.TheVariants.{Undecided}
use Rattle.flow_table.specs.declared.position.Position.{Position}
use Rattle.record_codec.specs.declared.entry.Entry.{Entry}
use Rattle.record_codec.specs.declared.entry.Db.{Db}
use Rattle.record_codec.specs.declared.entry.Db.TheVariants.{Full}
use Rattle.slot_store.specs.Slots.{May, Sound, IsAt}
use Rattle.slot_store.specs.Kept.{Kept, IsOf}
use Rattle.flow_words.specs.Words.{word_at}
use Rattle.flow_words.specs.Pieces.{End, Ended, Waits, RebootNeeded, Halted, Pieces}
use Rattle.flow_drive.specs.Calls.{callees}
use Rattle.flow_drive.specs.declared.flow.DriveEnd.{DriveEnd}
use Rattle.flow_drive.specs.declared.flow.DriveEnd.TheVariants as drive_end

-- ---- where a deployment leads

-- the entry at a position
abbrev pub at : Entry → Position → Db
at e p = Full (record e { position = p })

-- From a position the states of a deployment lead with these events to this end, at the last position.
abbrev pub Goes : Site → Entry → Bool → Position → List Event → End → Position → Type 0
Goes site e stop = Pieces (word_at (callees site e)) stop

-- From the position p the deployment e leads with these events to this end, and then the database d stands.
pub record Leads (site : Site) (e : Entry) (stop : Bool) (p : Position) (events : List Event) (end : End) (d : Db) : Type 0 where
  pub last : Position
  pub goes : Goes site e stop p events end last
  pub stands : d ≡ at e last

-- ---- the answers

abbrev pub drive_how : DriveEnd → How
drive_how (drive_end.Ended o) = Through
drive_how drive_end.Waits = Through
drive_how drive_end.RebootNeeded = Through
drive_how drive_end.Off = PowerLost
drive_how drive_end.DiskFault = DiskFailed

abbrev pub end_of : DriveEnd → End
end_of (drive_end.Ended o) = Ended o
end_of drive_end.Waits = Waits
end_of drive_end.RebootNeeded = RebootNeeded
end_of drive_end.Off = Halted
end_of drive_end.DiskFault = Halted

-- what cut a put off
abbrev pub cut_off : Down → DriveEnd
cut_off down.Off = drive_end.Off
cut_off down.Fault = drive_end.DiskFault

-- a deployment that ended has an outcome
abbrev pub IsDecided : DriveEnd → Type 0
IsDecided (drive_end.Ended Undecided) = ⊥
IsDecided _ = ⊤

-- ---- what was done

-- the device stands for this database, synced, and the store is of the device and has it
pub record Rests (meant : Db) (store : Kept) (disk : Option Disk) : Type 0 where
  pub db : store.db ≡ meant
  pub is_at : IsAt meant disk
  pub is_of : IsOf store disk

-- From the position p the deployment e went on to this end. What may stand then is where it leads, or, where it was cut off
-- before the first event, what could stand before. Where it wasn't cut off the last position stands.
pub record Drove (site : Site) (e : Entry) (stop : Bool) (p : Position) (end : DriveEnd) (store : Kept) (old new : State) : Type 0 where
  pub events : List Event
  pub passed : Passed events (drive_how end) old new
  pub last : Position
  pub goes : Goes site e stop p events (end_of end) last
  pub each : IsTold old.disk → (d : Db) → May new.disk d → Leads site e stop p events (end_of end) d ⊎ ((end_of end ≡ Halted) × (events ≡ []) × May old.disk d)
  pub told : IsTold old.disk → IsTold new.disk
  pub sound : Sound old.disk → Sound new.disk
  pub rests : drive_how end ≡ Through → Rests (at e last) store new.disk
