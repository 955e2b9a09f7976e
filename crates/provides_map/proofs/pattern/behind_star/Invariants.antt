use Rattle.std.proofs.Common.{◌≡◌, ◌≤◌, length, take}
use Rattle.provides_map.specs.Match.{is_match, some_suffix}
use Rattle.provides_map.proofs.pattern.behind_star.Given as goal

abbrev pub invariant-loop-i : goal.invariant-loop-i
invariant-loop-i l = record {
  within : l.i ≤ length l.pattern;
  in_key : l.j ≤ length l.key;
  same : some_suffix (is_match (take l.i l.pattern)) (take l.j l.key) ≡ some_suffix (is_match l.pattern) l.key;
}

abbrev pub decreases-loop-i : goal.decreases-loop-i
decreases-loop-i l = l.i
