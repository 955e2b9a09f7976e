use Rattle.std.proofs.Common.{◌≡◌, ◌-◌, ◌≤◌, length, take, drop}
use Rattle.std.specs.Prelude.{IfSome}
use Rattle.manifest_sums.specs.Message.{Has}
use Rattle.device_model.specs.Disk.{area_of}
use Rattle.ab_image.proofs.readiness.sum_front.Given as goal

abbrev pub invariant-loop-at : goal.invariant-loop-at
invariant-loop-at g l = record {
  same : g.B.Blocks.means l.blocks ≡ g.B.Blocks.means l.fn.blocks;
  size : l.size ≡ l.fn.size;
  within : l.at ≤ l.size;
  room : length l.buffer ≡ length l.fn.buffer;
  front : IfSome (area_of (g.B.Blocks.means l.fn.blocks).disk) (λ area. Has l.summing (take l.at (drop l.start area)));
}

abbrev pub decreases-loop-at : goal.decreases-loop-at
decreases-loop-at g l = l.size - l.at
