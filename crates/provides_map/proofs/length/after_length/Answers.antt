use Rattle.std.proofs.Common.{ap, ◌+◌, arith}
use Rattle.std.specs.List.{sum_by, filter}
use Rattle.provides_map.specs.Pairs.{put_all}
use Rattle.provides_map.specs.After.{stays}
use Rattle.provides_map.specs.Merge.{rest, if_not_own, pair_length}
use Rattle.provides_map.specs.declared.length.MapLength.{MapLength}
use Rattle.provides_map.proofs.LengthLemmas.{sum_is}
use Rattle.provides_map.proofs.length.after_length.Goals as goal

pub loop-key-init : goal.loop-key-init
loop-key-init c = record {
  marked = c.of-marks.ensures.marks;
  within = record { held = omega arith; brought = omega arith };
  few = c.own_length-sum.ensures.few;
  short = c.own_length-sum.ensures.short;
  pairs = ap (λ (sum : MapLength). sum.pairs + sum_by (if_not_own c.args.change.now (λ p. 1)) (put_all (filter (stays c.args.change.now.clears) c.args.current.now) c.args.change.now.provides)) c.own_length-sum.ensures.exact;
  bytes = ap (λ (sum : MapLength). sum.bytes + sum_by (if_not_own c.args.change.now pair_length) (put_all (filter (stays c.args.change.now.clears) c.args.current.now) c.args.change.now.provides)) c.own_length-sum.ensures.exact;
}

pub returns-clause-exact : goal.returns-clause-exact
returns-clause-exact c = sum_is c.loop-key.sum c.args.current.now (rest c.args.change.now.clears c.args.current.now c.args.change.now.provides c.loop-key.at) c.args.change.now
    c.in_default.ensures.held c.in_default.ensures.pairs c.loop-key.invariant.pairs c.loop-key.invariant.bytes
