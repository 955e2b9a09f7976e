use Rattle.std.proofs.Common.{[], get_or, arith, sym, ◌∙◌}
use Rattle.std.proofs.lemmas.Option.{slice_get_within}
use Rattle.provides_map.specs.After.{stays}
use Rattle.provides_map.proofs.MergeLemmas.{filter_skip, get_within}
use Rattle.provides_map.proofs.merge.first_kept.Goals as goal

pub loop-at-preserved : goal.loop-at-preserved
loop-at-preserved c = record {
  marked = c.stays.ensures.marks;
  onward = omega arith;
  within = omega arith;
  same = filter_skip (stays c.args.clears.now) c.args.held.now c.loop-at.at (get_or c.args.held.now c.loop-at.at ([], [])) (get_within c.args.held.now c.loop-at.at (omega arith)) (sym c.stays.ensures.value ∙ c.if-stays.false) ∙ c.loop-at.invariant.same;
}

pub returns-clause-stays : goal.returns-clause-stays
returns-clause-stays c = λ p is. absurd (omega (arith, slice_get_within c.args.held.now c.loop-at.at p is))
