use Rattle.std.proofs.Common.{[], Some, drop, get_or, subst, sym, ap, ◌∙◌}
use Rattle.provides_map.specs.Pairs.{Pairs, put_all}
use Rattle.provides_map.specs.After.{stays}
use Rattle.provides_map.specs.Merge.{HasPair}
use Rattle.provides_map.specs.declared.merge.Places.{Places}
use Rattle.provides_map.specs.declared.merge.Side.{Side}
use Rattle.provides_map.specs.declared.merge.Side.TheVariants.{Both}
use Rattle.provides_map.proofs.MergeLemmas.{get_within, next_held, next_both, next_brought}
use Rattle.provides_map.proofs.merge.next_pair.Goals as goal

-- those passed over don't stay
pub returns-in-Held-clause-pairs : goal.returns-in-Held-clause-pairs
returns-in-Held-clause-pairs c =
    let qs : Pairs = drop c.args.at.now.brought c.args.brought.now in
    ap (λ (ps : Pairs). put_all ps qs) (sym c.first_kept-at.ensures.same)
    ∙ next_held (stays c.args.clears.now) c.args.held.now c.args.brought.now c.first_kept-at.result c.args.at.now.brought c.in_ok-next_side.ensures.brought
    (c.pair.result.0.now, c.pair.result.1.now) c.pair.ensures (c.first_kept-at.ensures.stays (c.pair.result.0.now, c.pair.result.1.now) c.pair.ensures)
    (sym c.in_ok-next_side.ensures.side ∙ ap (λ (s : Side). Some s) c.in-Held.is)

pub returns-in-Brought-clause-pairs : goal.returns-in-Brought-clause-pairs
returns-in-Brought-clause-pairs c =
    let qs : Pairs = drop c.args.at.now.brought c.args.brought.now in
    ap (λ (ps : Pairs). put_all ps qs) (sym c.first_kept-at.ensures.same)
    ∙ next_brought (stays c.args.clears.now) c.args.held.now c.args.brought.now c.first_kept-at.result c.args.at.now.brought c.in_ok-next_side.ensures.brought
    (c.pair-in-Brought.result.0.now, c.pair-in-Brought.result.1.now) c.pair-in-Brought.ensures c.first_kept-at.ensures.stays
    (sym c.in_ok-next_side.ensures.side ∙ ap (λ (s : Side). Some s) c.in-Brought.is)

pub returns-in-Both-clause-pairs : goal.returns-in-Both-clause-pairs
returns-in-Both-clause-pairs c =
    let at : Places = record { held = c.first_kept-at.result; brought = c.args.at.now.brought } in
    let both : HasPair c.args.held.now c.args.brought.now at Both = subst (HasPair c.args.held.now c.args.brought.now at) c.in-Both.is c.in_ok-next_side.ensures.pair in
    let p = get_or c.args.held.now at.held ([], []) in
    let there = get_within c.args.held.now at.held both.0.within in
    let qs : Pairs = drop at.brought c.args.brought.now in
    ap (λ (ps : Pairs). put_all ps qs) (sym c.first_kept-at.ensures.same)
    ∙ next_both (stays c.args.clears.now) c.args.held.now c.args.brought.now at.held at.brought c.in_ok-next_side.ensures.brought
    p (c.pair-in-Both.result.0.now, c.pair-in-Both.result.1.now) there c.pair-in-Both.ensures (c.first_kept-at.ensures.stays p there)
    (sym c.in_ok-next_side.ensures.side ∙ ap (λ (s : Side). Some s) c.in-Both.is)
