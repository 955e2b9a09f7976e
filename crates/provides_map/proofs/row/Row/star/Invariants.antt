use Rattle.std.proofs.Common.{◌≡◌, length}
use Rattle.provides_map.proofs.Rows.{Spread}
use Rattle.provides_map.proofs.row.Row.star.Given as goal

abbrev pub invariant-loop-j : goal.invariant-loop-j
invariant-loop-j l = record {
  size : length l.self.words ≡ 129;
  places : l.self.places ≡ l.fn.self.places;
  spread : Spread l.fn.self.words l.self.words l.any l.j l.fn.self.places;
}
