use Rattle.std.proofs.Common.{◌≡◌, ◌≤◌, ◌-◌, [], length, drop}
use Rattle.provides_map.specs.Match.{is_match}
use Rattle.provides_map.proofs.pattern.only_stars.Given as goal

abbrev pub invariant-loop-i : goal.invariant-loop-i
invariant-loop-i l = record {
  within : l.i ≤ length l.pattern;
  same : is_match (drop l.i l.pattern) [] ≡ is_match l.pattern [];
}

abbrev pub decreases-loop-i : goal.decreases-loop-i
decreases-loop-i l = length l.pattern - l.i
