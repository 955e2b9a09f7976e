use Rattle.std.proofs.Common.{◌≡◌, ◌≤◌, ◌-◌, length, take}
use Rattle.std.specs.Prelude.{option_map}
use Rattle.io_model.specs.Source.{bytes_at, gave, HasNumber, When}
use Rattle.manifest_sums.specs.Message.{Has}
use Rattle.admit.proofs.reading.sum_file.Given as goal

abbrev pub invariant-loop-at : goal.invariant-loop-at
invariant-loop-at g l = record {
  same : g.S.Source.content l.source ≡ g.S.Source.content l.fn.source;
  plan : g.S.Source.plan l.source ≡ g.S.Source.plan l.fn.source;
  faults : g.S.Source.faults l.source ≡ g.S.Source.faults l.fn.source;
  given : g.S.Source.given l.source ≡ option_map (gave l.i l.at) (g.S.Source.given l.fn.source);
  numbered : HasNumber l.i (g.S.Source.given l.fn.source);
  within : l.at ≤ l.size;
  room : length l.buffer ≡ length l.fn.buffer;
  front : When (g.S.Source.content l.fn.source) (λ t. Has l.summing (take l.at (bytes_at t l.i)));
}

abbrev pub decreases-loop-at : goal.decreases-loop-at
decreases-loop-at g l = l.size - l.at
