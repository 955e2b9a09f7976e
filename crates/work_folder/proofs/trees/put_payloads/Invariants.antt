use Rattle.std.proofs.Common.{◌≡◌, ◌≤◌, length, take}
use Rattle.device_model.specs.How.{Through}
use Rattle.admit.specs.IsOf.{IsOf}
use Rattle.admit.specs.Differing.{listed_of}
use Rattle.work_folder.specs.Rows.{payloads_rows, headers_lines}
use Rattle.work_folder.specs.Prepare.{IsReady, Touches, CopiesAll}
use Rattle.work_folder.specs.Adding.{Adds}
use Rattle.work_folder.proofs.trees.put_payloads.Given as goal

abbrev pub invariant-loop-k : goal.invariant-loop-k
invariant-loop-k g l =
    let means = g.D.Device.means in
    record {
      so_far : Adds (g.S.Source.content l.fn.source) (payloads_rows l.site l.current l.admitted 0 (take l.k l.admitted.header.kinds)) (means l.fn.device) (means l.device);
      copied : CopiesAll (g.S.Source.content l.fn.source) (headers_lines 0 l.k (listed_of l.admitted)) (g.S.Source.given l.fn.source) (g.S.Source.given l.source);
      within : l.k ≤ length l.admitted.header.kinds;
      touches : Touches Through (means l.fn.device) (means l.device);
      ready : IsReady (means l.device);
      buffer : length l.buffer ≡ length l.fn.buffer;
      of_source : IsOf (g.S.Source.content l.source) l.admitted;
      plan : g.D.Device.plan l.device ≡ g.D.Device.plan l.fn.device;
      source_plan : g.S.Source.plan l.source ≡ g.S.Source.plan l.fn.source;
      same : g.S.Source.content l.source ≡ g.S.Source.content l.fn.source;
      faults : g.S.Source.faults l.source ≡ g.S.Source.faults l.fn.source;
    }
