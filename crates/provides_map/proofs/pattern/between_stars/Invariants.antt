use Rattle.std.proofs.Common.{◌≤◌, ◌+◌, ◌-◌, ◌*◌, length}
use Rattle.provides_map.specs.Match.{is_match, some_suffix}
use Rattle.provides_map.proofs.Tries.{Tried}
use Rattle.provides_map.proofs.pattern.between_stars.Given as goal

abbrev pub invariant-loop-j : goal.invariant-loop-j
invariant-loop-j l = record {
  star : l.star ≤ length l.pattern;
  within : l.i ≤ length l.pattern;
  start : l.start ≤ l.j;
  in_key : l.j ≤ length l.key;
  tried : Tried (some_suffix (is_match l.pattern) l.key) l.pattern l.key l.star l.start l.i l.j;
}

abbrev pub decreases-loop-j : goal.decreases-loop-j
decreases-loop-j l = (length l.key - l.start) * (length l.pattern + 1) + (length l.pattern - l.i)
