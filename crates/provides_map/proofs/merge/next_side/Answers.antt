use Rattle.std.proofs.Common.{ap, sym, Some, ◌∙◌}
use Rattle.provides_map.specs.declared.merge.Side.{Side}
use Rattle.provides_map.proofs.MergeLemmas.{side_at}
use Rattle.provides_map.proofs.merge.next_side.Goals as goal

pub returns-clause-side : goal.returns-clause-side
returns-clause-side c =
    ap (λ (s : Side). Some s) c.lesser.ensures
    ∙ sym (side_at c.args.held.now c.args.brought.now c.args.at.held c.args.at.brought (c.pair.result.0.now, c.pair.result.1.now) (c.pair-2.result.0.now, c.pair-2.result.1.now) c.pair.ensures c.pair-2.ensures)
