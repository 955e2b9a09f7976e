-- The answer after a deployment went on.
use Rattle.std.proofs.Common.{◌≡◌, ℕ, List, refl}
use Rattle.std.specs.Prelude.{Bool, true, false, ◌&&◌, not, Option, Some, IsTrue}
use Rattle.device_model.specs.How.{Through}
use Rattle.flow_table.specs.declared.position.Outcome.TheVariants as outcome
use Rattle.flow_drive.specs.declared.flow.DriveEnd.{DriveEnd}
use Rattle.flow_drive.specs.declared.flow.DriveEnd.TheVariants as drive_end
use Rattle.flow_drive.specs.Drive.{drive_how, end_of as drive_end_of, IsDecided}
use Rattle.client_top.specs.Answers.{Words, row_of, end_of, how_of, deploys, rolls_back, reads, is_synced, source_count, Due}
use Rattle.client_top.specs.Finds.{Request}
use Rattle.client_top.specs.Steps.{status_after}
use Rattle.record_codec.specs.declared.entry.Db.{Db}

pub after-ends : (end : DriveEnd) (back : Bool) → end_of (status_after end back) ≡ Some (drive_end_of end)
after-ends (drive_end.Ended outcome.Committed) back = refl
after-ends (drive_end.Ended outcome.RolledBack) true = refl
after-ends (drive_end.Ended outcome.RolledBack) false = refl
after-ends (drive_end.Ended outcome.Inconsistent) back = refl
after-ends (drive_end.Ended outcome.Kept) back = refl
after-ends (drive_end.Ended outcome.Undecided) back = refl
after-ends drive_end.Waits back = refl
after-ends drive_end.RebootNeeded back = refl
after-ends drive_end.Off back = refl
after-ends drive_end.DiskFault back = refl

pub after-how : (end : DriveEnd) (back : Bool) → how_of (status_after end back) ≡ drive_how end
after-how (drive_end.Ended outcome.Committed) back = refl
after-how (drive_end.Ended outcome.RolledBack) true = refl
after-how (drive_end.Ended outcome.RolledBack) false = refl
after-how (drive_end.Ended outcome.Inconsistent) back = refl
after-how (drive_end.Ended outcome.Kept) back = refl
after-how (drive_end.Ended outcome.Undecided) back = refl
after-how drive_end.Waits back = refl
after-how drive_end.RebootNeeded back = refl
after-how drive_end.Off back = refl
after-how drive_end.DiskFault back = refl

pub after-count : (end : DriveEnd) (back : Bool) (faults : ℕ) → source_count (row_of (status_after end back)).basis faults ≡ faults
after-count (drive_end.Ended outcome.Committed) back faults = refl
after-count (drive_end.Ended outcome.RolledBack) true faults = refl
after-count (drive_end.Ended outcome.RolledBack) false faults = refl
after-count (drive_end.Ended outcome.Inconsistent) back faults = refl
after-count (drive_end.Ended outcome.Kept) back faults = refl
after-count (drive_end.Ended outcome.Undecided) back faults = refl
after-count drive_end.Waits back faults = refl
after-count drive_end.RebootNeeded back faults = refl
after-count drive_end.Off back faults = refl
after-count drive_end.DiskFault back faults = refl

pub after-synced : (end : DriveEnd) (back : Bool) → is_synced (row_of (status_after end back)).basis ≡ true → drive_how end ≡ Through
after-synced (drive_end.Ended o) back h = refl
after-synced drive_end.Waits back h = refl
after-synced drive_end.RebootNeeded back h = refl
after-synced drive_end.Off back h = absurd cc
after-synced drive_end.DiskFault back h = absurd cc

-- these words deploy, and take a deployment back exactly where this says so
pub record Orders (w : Words) (back : Bool) : Type 0 where
  pub deploys : IsTrue (deploys w)
  pub reads : IsTrue (reads w)
  pub rolls : rolls_back w ≡ back

both : (a b : Bool) → IsTrue a → b ≡ false → IsTrue (a && not b)
both true true a b = cc
both true false a b = refl
both false b a h = absurd cc

-- it is an answer of these words, and rests on the course of the deployment
pub after-due : (asked : Request) (c : Db) (area : Option (List ℕ)) (end : DriveEnd) (back : Bool) → IsDecided end → Orders asked.command back → Due asked (Some c) area (status_after end back)
after-due asked c area (drive_end.Ended outcome.Committed) back is w = record { whose = w.deploys; rests = tt }
after-due asked c area (drive_end.Ended outcome.RolledBack) true is w = record { whose = w.rolls; rests = tt }
after-due asked c area (drive_end.Ended outcome.RolledBack) false is w = record { whose = both (deploys asked.command) (rolls_back asked.command) w.deploys w.rolls; rests = tt }
after-due asked c area (drive_end.Ended outcome.Inconsistent) back is w = record { whose = w.deploys; rests = tt }
after-due asked c area (drive_end.Ended outcome.Kept) back is w = record { whose = w.deploys; rests = tt }
after-due asked c area (drive_end.Ended outcome.Undecided) back is w = absurd is
after-due asked c area drive_end.Waits back is w = record { whose = w.deploys; rests = tt }
after-due asked c area drive_end.RebootNeeded back is w = record { whose = w.deploys; rests = tt }
after-due asked c area drive_end.Off back is w = record { whose = w.reads; rests = tt }
after-due asked c area drive_end.DiskFault back is w = record { whose = w.reads; rests = tt }
