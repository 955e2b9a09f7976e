use Rattle.std.proofs.Common.{◌≡◌, ◌≤◌, take}
use Rattle.io_model.specs.Source.{When}
use Rattle.ab_image.specs.Finding.{AreBelow, IsFound}
use Rattle.ab_image.proofs.artifact.find_files.Given as goal

abbrev pub invariant-loop-i : goal.invariant-loop-i
invariant-loop-i g l = record {
  same : g.S.Source.content l.source ≡ g.S.Source.content l.fn.source;
  plan : g.S.Source.plan l.source ≡ g.S.Source.plan l.fn.source;
  faults : g.S.Source.faults l.source ≡ g.S.Source.faults l.fn.source;
  few : l.found.images ≤ l.i;
  below : AreBelow l.i l.found;
  found : When (g.S.Source.content l.fn.source) (λ tree. IsFound (take l.i tree) l.found);
}
