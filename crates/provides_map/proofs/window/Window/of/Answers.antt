use Rattle.std.proofs.Common.{◌≡◌, ◌≤◌, ℕ, List, [], length, sym, ap, ◌∙◌, arith}
use Rattle.std.specs.Prelude.{◌+◌}
use Rattle.std.proofs.lemmas.Option.{get_or_from_slice_get}
use Rattle.provides_map.specs.Place.{key_at}
use Rattle.provides_map.proofs.Fills.{filled_begins, filled_step, filled_ends}
use Rattle.provides_map.proofs.window.Window.of.Goals as goal

pub loop-k-init : goal.loop-k-init
loop-k-init c = filled_begins c.args.held.now c.args.start

pub loop-k-preserved : goal.loop-k-preserved
loop-k-preserved c =
    let held = c.args.held.now in
    let key = c.bytes.result.now in
    let key-is : key ≡ key_at held (c.args.start + c.loop-k.k) = c.bytes.ensures.bytes ∙ ap (λ (p : List ℕ × List ℕ). p.0) (sym (get_or_from_slice_get held (c.args.start + c.loop-k.k) (c.pair.result.0.now, c.pair.result.1.now) ([], []) c.pair.ensures)) in
    let most : length key ≤ 128 = omega (arith, c.bytes.ensures.short, ap length c.bytes.ensures.bytes) in
    filled_step held c.args.start c.loop-k.window c.add.new.self c.loop-k.k key key-is most c.add.ensures.same c.add.ensures.ends c.add.ensures.longest c.loop-k.invariant

pub returns : goal.returns
returns c = filled_ends c.args.held.now c.args.start c.loop-k.window c.loop-k.k (λ i room within. omega arith) c.loop-k.invariant
