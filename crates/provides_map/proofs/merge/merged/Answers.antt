use Rattle.std.proofs.Common.{◌≡◌, ◌++◌, ◌∷◌, ℕ, List, sym, ap, ◌∙◌}
use Rattle.std.specs.List.{filter}
use Rattle.upd_text.specs.Order.{is_below}
use Rattle.provides_map.specs.Pairs.{Pairs, put_all}
use Rattle.provides_map.specs.Last.{last_key}
use Rattle.provides_map.specs.After.{stays}
use Rattle.provides_map.specs.Merge.{rest}
use Rattle.provides_map.proofs.MergeLemmas.{next_is_last}
use Rattle.provides_map.proofs.merge.merged.Goals as goal

pub push_last-requires : goal.push_last-requires
push_last-requires c =
    let p : List ℕ × List ℕ = (c.in-Some.key.now, c.in-Some.value.now) in
    let left : Pairs = rest c.args.clears.now c.args.held.now c.args.brought.now c.next_pair.new.at in
    let whole : c.loop-key.new ++ p ∷ left ≡ put_all (filter (stays c.args.clears.now) c.args.held.now) c.args.brought.now =
    ap (λ (l : Pairs). c.loop-key.new ++ l) (sym c.in-Some.ensures.pairs) ∙ c.loop-key.invariant.whole in
    ap (λ (key : List ℕ). is_below (last_key c.loop-key.new) key) c.twin.ensures
    ∙ next_is_last (stays c.args.clears.now) c.args.held.now c.args.brought.now c.loop-key.new left p c.in-Some.ensures.held whole c.bytes-key.ensures.some
