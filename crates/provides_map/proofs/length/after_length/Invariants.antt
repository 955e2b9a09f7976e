use Rattle.std.proofs.Common.{◌≡◌, ◌≤◌, ◌+◌, ◌*◌, ◌-◌, ℕ, List, length}
use Rattle.std.specs.List.{sum_by, filter}
use Rattle.provides_map.specs.Pairs.{put_all}
use Rattle.provides_map.specs.After.{stays}
use Rattle.provides_map.specs.Merge.{rest, AreWithin, pair_length, if_not_own, own_sum}
use Rattle.provides_map.specs.Marks.{AreMarks}
use Rattle.provides_map.proofs.length.after_length.Given as goal

abbrev one : List ℕ × List ℕ → ℕ
one p = 1

abbrev pub invariant-loop-key : goal.invariant-loop-key
invariant-loop-key l = record {
  marked : AreMarks l.change.clears l.current l.marks;
  within : AreWithin l.current l.change.provides l.at;
  few : l.sum.pairs ≤ 2 + (l.at.held + l.at.brought);
  short : l.sum.bytes ≤ 1156 * l.sum.pairs;
  pairs : l.sum.pairs + sum_by (if_not_own l.change one) (rest l.change.clears l.current l.change.provides l.at)
      ≡ own_sum one l.change + sum_by (if_not_own l.change one) (put_all (filter (stays l.change.clears) l.current) l.change.provides);
  bytes : l.sum.bytes + sum_by (if_not_own l.change pair_length) (rest l.change.clears l.current l.change.provides l.at)
      ≡ own_sum pair_length l.change + sum_by (if_not_own l.change pair_length) (put_all (filter (stays l.change.clears) l.current) l.change.provides);
}

abbrev pub decreases-loop-key : goal.decreases-loop-key
decreases-loop-key l = length l.current + length l.change.provides - (l.at.held + l.at.brought)
