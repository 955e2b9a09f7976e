use Rattle.std.proofs.Common.{◌≤◌, ℕ, length, drop}
use Rattle.provides_map.specs.Pairs.{Pairs}
use Rattle.provides_map.specs.Match.{is_match}
use Rattle.provides_map.specs.Window.{TellsKeys, TellsRow}
use Rattle.provides_map.proofs.window.Window.row_of.Given as goal

abbrev pub invariant-loop-i : goal.invariant-loop-i
invariant-loop-i l = record {
  within : l.i ≤ length l.pattern;
  places : l.row.places ≤ 129;
  told : (held : Pairs) (start : ℕ) → TellsKeys held start l.self → TellsRow held start l.row (is_match (drop l.i l.pattern));
}

abbrev pub decreases-loop-i : goal.decreases-loop-i
decreases-loop-i l = l.i
