use Rattle.std.proofs.Common.{◌≤◌, ◌-◌, length}
use Rattle.provides_map.proofs.Windows.{Front}
use Rattle.provides_map.proofs.window.Window.matched.Given as goal

abbrev pub invariant-loop-i : goal.invariant-loop-i
invariant-loop-i l = record {
  within : l.i ≤ length l.pattern;
  front : Front l.self l.pattern l.among l.front l.i;
}

abbrev pub decreases-loop-i : goal.decreases-loop-i
decreases-loop-i l = length l.pattern - l.i
