-- What follows from a deployment that went on, for the proofs of crates above.
use Rattle.std.proofs.Common.{◌≡◌, Bool, true, refl, ◌∙◌, ap, subst}
use Rattle.std.specs.Prelude.{Option, Some, None, IfSome}
use Rattle.device_model.specs.Disk.{WhereTold, IsSettled}
use Rattle.device_model.specs.Work.{Folder, Work, given_at_start}
use Rattle.device_model.specs.State.{State}
use Rattle.device_model.specs.How.{Through, has_start, KeepsGiven, WorksOn}
use Rattle.script_names.specs.declared.site.Site.{Site}
use Rattle.flow_table.specs.declared.position.Position.{Position}
use Rattle.record_codec.specs.declared.entry.Entry.{Entry}
use Rattle.record_codec.specs.declared.entry.Db.{Db}
use Rattle.slot_store.specs.Kept.{Kept}
use Rattle.slot_store.proofs.Puts.{of-settled}
use Rattle.flow_drive.specs.Drive.{at, Leads, Drove, drive_how, end_of}
use Rattle.flow_drive.specs.declared.flow.DriveEnd.{DriveEnd}

given-by : (b on : Bool) (old new : Option Work) (w : Work) → b ≡ true → old ≡ Some w → w.given ≡ None → WorksOn b on old new → IfSome new (λ v. v.given ≡ Some w.folder)
given-by b on old None w started is none h = tt
given-by b on old (Some v) w started is none h =
    let here : WhereTold KeepsGiven old (Some v) = subst (λ (x : Bool). WorksOn x on old (Some v)) started h in
    let kept : KeepsGiven w v = subst (λ (x : Option Work). WhereTold KeepsGiven x (Some v)) is here in
    kept ∙ ap (λ (g : Option Folder). given_at_start w.folder g) none

module _ {site : Site} {e : Entry} {stop : Bool} {p : Position} {end : DriveEnd} {store : Kept} {old new : State} (d : Drove site e stop p end store old new) where
  -- the events lead to a database, on every device
  pub drove-leads : (db : Db) × Leads site e stop p d.events (end_of end) db
  drove-leads = (at e d.last, record { last = d.last; goes = d.goes; stands = refl })

  -- where it wasn't cut off, nothing is unsynced
  pub drove-settled : drive_how end ≡ Through → IsSettled new.disk
  drove-settled through = of-settled store new.disk (d.rests through).is_of

  -- the first child since the folder was cleared was given the folder as it stood at the call
  pub drove-given : (w : Work) → old.work ≡ Some w → w.given ≡ None → has_start d.events ≡ true → IfSome new.work (λ v. v.given ≡ Some w.folder)
  drove-given w is none started = given-by (has_start d.events) new.on old.work new.work w started is none d.passed.work
