use Rattle.std.proofs.Common.{◌≡◌, length}
use Rattle.provides_map.proofs.Rows.{Moved}
use Rattle.provides_map.proofs.row.Row.byte.Given as goal

abbrev pub invariant-loop-j : goal.invariant-loop-j
invariant-loop-j l = record {
  size : length l.self.words ≡ 129;
  places : l.self.places ≡ l.fn.self.places;
  moved : Moved l.fn.self.words l.self.words l.same l.any l.j;
}
