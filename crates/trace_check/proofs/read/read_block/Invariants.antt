use Rattle.std.proofs.Common.{◌≡◌, ◌≤◌}
use Rattle.flow_words.specs.Scripts.{block}
use Rattle.trace_check.specs.Reading.{read}
use Rattle.trace_check.proofs.read.read_block.Given as goal

abbrev pub invariant-tries : goal.invariant-tries
invariant-tries l = record {
  few : l.left ≤ 30;
  so_far : read l.events (block l.name 30) l.fn.at ≡ read l.events (block l.name l.left) l.at;
}

abbrev pub decreases-tries : goal.decreases-tries
decreases-tries l = l.left
