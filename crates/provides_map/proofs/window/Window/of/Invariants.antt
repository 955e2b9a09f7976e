use Rattle.provides_map.proofs.Fills.{Filled}
use Rattle.provides_map.proofs.window.Window.of.Given as goal

abbrev pub invariant-loop-k : goal.invariant-loop-k
invariant-loop-k l = Filled l.held l.start l.window l.k
