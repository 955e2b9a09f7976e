use Rattle.std.proofs.Common.{◌≡◌, ◌<◌, ◌++◌, drop, length}
use Rattle.std.specs.List.{All, filter_map}
use Rattle.admit.specs.Admit.{number_of}
use Rattle.admit.proofs.lines.numbers_of.Given as goal

abbrev pub invariant-loop-line : goal.invariant-loop-line
invariant-loop-line l = record {
  same : l.numbers ++ filter_map (number_of l.heads) (drop l.line-index l.lines) ≡ filter_map (number_of l.heads) l.lines;
  bound : All (λ n. n < length l.heads) l.numbers;
}
