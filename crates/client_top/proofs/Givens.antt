-- What the first child was given.
use Rattle.std.proofs.Common.{◌≡◌, ap, ◌∙◌, subst}
use Rattle.std.specs.Prelude.{Option, Some, None, Bool, true, IfSome}
use Rattle.device_model.specs.Disk.{WhereTold}
use Rattle.device_model.specs.Work.{Work, Folder, given_at_start}
use Rattle.device_model.specs.How.{WorksOn, KeepsGiven}
use Rattle.record_codec.specs.declared.entry.Db.{Db}
use Rattle.record_codec.specs.Held.{held}
use Rattle.admit.specs.declared.admitted.Admitted.{Admitted}
use Rattle.work_folder.specs.Folder as folder
use Rattle.work_folder.specs.Rows.{rows_of}
use Rattle.client_top.specs.Finds.{Request}
use Rattle.client_top.specs.Promises.{IsGiven}

given-by : (asked : Request) (c : Db) (plan : Admitted) (ready new : Option Work) → IfSome ready (λ work. folder.Stands asked.content (rows_of asked.site (held c) plan) work) → WhereTold KeepsGiven ready new → IfSome new (IsGiven asked c plan)
given-by asked c plan None None files kept = tt
given-by asked c plan None (Some n) files kept = absurd kept
given-by asked c plan (Some w) None files kept = tt
given-by asked c plan (Some w) (Some n) files kept = record {
  files = files.files;
  are = files.are;
  given = kept ∙ ap (λ (g : Option Folder). given_at_start w.folder g) files.given ∙ ap Some files.folder;
}

pub given : (asked : Request) (c : Db) (plan : Admitted) (started on : Bool) (ready new : Option Work) → IfSome ready (λ work. folder.Stands asked.content (rows_of asked.site (held c) plan) work) → started ≡ true → WorksOn started on ready new → IfSome new (IsGiven asked c plan)
given asked c plan started on ready new files is works = given-by asked c plan ready new files (subst (λ (b : Bool). WorksOn b on ready new) is works)
