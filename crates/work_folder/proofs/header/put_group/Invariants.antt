use Rattle.std.proofs.Common.{◌≡◌, length, take}
use Rattle.std.specs.List.{filter_map, zip}
use Rattle.device_model.specs.How.{Through}
use Rattle.work_folder.specs.Rows.{row_in, group_lines}
use Rattle.work_folder.specs.Prepare.{IsReady, Touches, CopiesAll}
use Rattle.work_folder.specs.Adding.{Adds}
use Rattle.work_folder.proofs.header.put_group.Given as goal

abbrev pub invariant-loop-i : goal.invariant-loop-i
invariant-loop-i g l =
    let means = g.D.Device.means in
    record {
      so_far : Adds (g.S.Source.content l.fn.source) (filter_map (row_in l.group) (take l.i (zip l.lines l.numbers))) (means l.fn.device) (means l.device);
      copied : CopiesAll (g.S.Source.content l.fn.source) (group_lines l.group (take l.i (zip l.lines l.numbers))) (g.S.Source.given l.fn.source) (g.S.Source.given l.source);
      touches : Touches Through (means l.fn.device) (means l.device);
      ready : IsReady (means l.device);
      buffer : length l.buffer ≡ length l.fn.buffer;
      plan : g.D.Device.plan l.device ≡ g.D.Device.plan l.fn.device;
      source_plan : g.S.Source.plan l.source ≡ g.S.Source.plan l.fn.source;
      same : g.S.Source.content l.source ≡ g.S.Source.content l.fn.source;
      faults : g.S.Source.faults l.source ≡ g.S.Source.faults l.fn.source;
    }
