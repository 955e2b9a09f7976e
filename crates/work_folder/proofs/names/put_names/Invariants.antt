use Rattle.std.proofs.Common.{◌≡◌}
use Rattle.std.specs.Prelude.{codes}
use Rattle.upd_text.specs.Order.{is_below}
use Rattle.device_model.specs.declared.calls.Part.TheVariants.{Tree}
use Rattle.device_model.specs.How.{Through}
use Rattle.work_folder.specs.Rows.{payload_names}
use Rattle.work_folder.specs.Prepare.{IsReady, Touches}
use Rattle.work_folder.proofs.Above.{count}
use Rattle.work_folder.proofs.Listing.{Listed}
use Rattle.work_folder.proofs.names.put_names.Given as goal

abbrev pub invariant-names : goal.invariant-names
invariant-names g l =
    let means = g.D.Device.means in
    record {
      listed : Listed (payload_names l.k l.lines) l.last (Tree l.k) (codes "header/files") (means l.fn.device) (means l.device);
      touches : Touches Through (means l.fn.device) (means l.device);
      ready : IsReady (means l.device);
      plan : g.D.Device.plan l.device ≡ g.D.Device.plan l.fn.device;
      path : l.path ≡ codes "header/files";
    }

abbrev pub decreases-names : goal.decreases-names
decreases-names g l = count (λ n. is_below l.last n) (payload_names l.k l.lines)
