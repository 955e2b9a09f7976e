use Rattle.std.proofs.Common.{◌≡◌, ◌≤◌, ◌-◌, length, take}
use Rattle.io_model.specs.Source.{When, bytes_at}
use Rattle.manifest_sums.specs.Message.{Has}
use Rattle.device_model.specs.Disk.{IsApart}
use Rattle.ab_image.specs.declared.report.AbAct.TheVariants.{Done}
use Rattle.ab_image.specs.Taking.{Spares, HasFront}
use Rattle.ab_image.proofs.copying.copy_image.Given as goal

abbrev pub invariant-loop-at : goal.invariant-loop-at
invariant-loop-at g l = record {
  same : g.S.Source.content l.source ≡ g.S.Source.content l.fn.source;
  plan : g.S.Source.plan l.source ≡ g.S.Source.plan l.fn.source;
  faults : g.S.Source.faults l.source ≡ g.S.Source.faults l.fn.source;
  spares : Spares (IsApart l.start l.size) Done (g.B.Blocks.means l.fn.blocks) (g.B.Blocks.means l.blocks);
  within : l.at ≤ l.size;
  room : length l.buffer ≡ length l.fn.buffer;
  summed : When (g.S.Source.content l.fn.source) (λ t. Has l.summing (take l.at (bytes_at t l.image)));
  front : When (g.S.Source.content l.fn.source) (λ t. HasFront (g.B.Blocks.means l.blocks).disk l.start l.at (bytes_at t l.image));
}

abbrev pub decreases-loop-at : goal.decreases-loop-at
decreases-loop-at g l = l.size - l.at
