use Rattle.provides_map.proofs.Rows.{Gathered}
use Rattle.provides_map.proofs.row.Row.any_from.Given as goal

abbrev pub invariant-loop-j : goal.invariant-loop-j
invariant-loop-j l = Gathered l.self l.start l.any l.j
