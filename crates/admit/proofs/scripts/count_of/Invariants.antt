use Rattle.std.proofs.Common.{◌≡◌, ◌+◌, ◌≤◌, drop, length}
use Rattle.admit.specs.Admit.{script_names}
use Rattle.admit.proofs.scripts.count_of.Given as goal

abbrev pub invariant-loop-head : goal.invariant-loop-head
invariant-loop-head l = record {
  same : l.count + length (script_names (drop l.head-index l.heads)) ≡ length (script_names l.heads);
  most : l.count ≤ l.head-index;
}
