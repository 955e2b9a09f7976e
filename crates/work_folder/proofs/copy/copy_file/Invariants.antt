use Rattle.std.proofs.Common.{◌≡◌, ◌-◌, ◌≤◌, ◌<◌, ◌^◌, length}
use Rattle.device_model.specs.How.{Through}
use Rattle.std.specs.Prelude.{option_map}
use Rattle.io_model.specs.Source.{IsLength, gave, HasNumber}
use Rattle.work_folder.specs.Prepare.{IsReady, Touches}
use Rattle.work_folder.proofs.Copying.{SoFar}
use Rattle.work_folder.proofs.copy.copy_file.Given as goal

abbrev pub invariant-pieces : goal.invariant-pieces
invariant-pieces g l =
    let means = g.D.Device.means in
    record {
      so_far : SoFar l.part l.path (g.S.Source.content l.fn.source) l.i l.at (means l.fn.device) (means l.device) l.summing;
      size : IsLength (g.S.Source.content l.fn.source) l.i l.size;
      given : g.S.Source.given l.source ≡ option_map (gave l.i l.at) (g.S.Source.given l.fn.source);
      numbered : HasNumber l.i (g.S.Source.given l.fn.source);
      within : l.at ≤ l.size;
      short : l.size < 2 ^ 60;
      buffer : length l.buffer ≡ length l.fn.buffer;
      touches : Touches Through (means l.fn.device) (means l.device);
      ready : IsReady (means l.device);
      plan : g.D.Device.plan l.device ≡ g.D.Device.plan l.fn.device;
      source_plan : g.S.Source.plan l.source ≡ g.S.Source.plan l.fn.source;
      same : g.S.Source.content l.source ≡ g.S.Source.content l.fn.source;
      faults : g.S.Source.faults l.source ≡ g.S.Source.faults l.fn.source;
    }

abbrev pub decreases-pieces : goal.decreases-pieces
decreases-pieces g l = l.size - l.at
