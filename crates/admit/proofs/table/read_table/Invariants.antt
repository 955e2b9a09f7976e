use Rattle.std.proofs.Common.{◌≡◌, length, take}
use Rattle.io_model.specs.Source.{When}
use Rattle.admit.specs.Table.{heads_of}
use Rattle.admit.proofs.table.read_table.Given as goal

abbrev pub invariant-loop-i : goal.invariant-loop-i
invariant-loop-i g l = record {
  same : g.S.Source.content l.source ≡ g.S.Source.content l.initial.source;
  plan : g.S.Source.plan l.source ≡ g.S.Source.plan l.initial.source;
  faults : g.S.Source.faults l.source ≡ g.S.Source.faults l.initial.source;
  given : g.S.Source.given l.source ≡ g.S.Source.given l.initial.source;
  count : length l.heads ≡ l.i;
  heads : When (g.S.Source.content l.initial.source) (λ t. l.heads ≡ take l.i (heads_of t));
}
