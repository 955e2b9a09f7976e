use Rattle.std.proofs.Common.{◌≡◌, ◌≤◌, ◌-◌, length, drop}
use Rattle.std.specs.List.{filter}
use Rattle.provides_map.specs.After.{stays}
use Rattle.provides_map.specs.Marks.{AreMarks}
use Rattle.provides_map.proofs.merge.first_kept.Given as goal

abbrev pub invariant-loop-at : goal.invariant-loop-at
invariant-loop-at l = record {
  marked : AreMarks l.clears l.held l.marks;
  onward : l.start ≤ l.at;
  within : l.at ≤ length l.held;
  same : filter (stays l.clears) (drop l.at l.held) ≡ filter (stays l.clears) (drop l.start l.held);
}

abbrev pub decreases-loop-at : goal.decreases-loop-at
decreases-loop-at l = length l.held - l.at
