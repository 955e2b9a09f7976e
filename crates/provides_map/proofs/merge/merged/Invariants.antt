use Rattle.std.proofs.Common.{◌≡◌, ◌+◌, ◌-◌, ◌++◌, length}
use Rattle.std.specs.List.{filter}
use Rattle.provides_map.specs.Pairs.{put_all}
use Rattle.provides_map.specs.After.{stays}
use Rattle.provides_map.specs.Merge.{rest, AreWithin}
use Rattle.provides_map.specs.Marks.{AreMarks}
use Rattle.provides_map.proofs.merge.merged.Given as goal

abbrev pub invariant-loop-key : goal.invariant-loop-key
invariant-loop-key l = record {
  marked : AreMarks l.clears l.held l.marks;
  within : AreWithin l.held l.brought l.at;
  whole : l.new ++ rest l.clears l.held l.brought l.at ≡ put_all (filter (stays l.clears) l.held) l.brought;
}

abbrev pub decreases-loop-key : goal.decreases-loop-key
decreases-loop-key l = length l.held + length l.brought - (l.at.held + l.at.brought)
