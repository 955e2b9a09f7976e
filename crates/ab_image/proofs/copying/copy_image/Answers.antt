use Rattle.std.proofs.Common.{◌≡◌, ◌+◌, ◌-◌, ◌≤◌, ℕ, length, take, ◌∙◌, ap, subst, arith, rules}
use Rattle.io_model.specs.Source.{When, bytes_at}
use Rattle.manifest_sums.specs.Message.{Has}
use Rattle.ab_image.specs.declared.report.AbAct.TheVariants.{Done}
use Rattle.device_model.specs.Disk.{IsApart, IsWhole}
use Rattle.ab_image.specs.Layout.{partition_at}
use Rattle.ab_image.specs.Taking.{Spares}
use Rattle.ab_image.proofs.Filling.{range-then, front-then, when-next, when-map, length-told}
use Rattle.ab_image.proofs.copying.copy_image.Goals as goal

pub loop-at-preserved : goal.loop-at-preserved
loop-at-preserved g c =
    let content = g.S.Source.content c.args.source.now in
    let old = g.B.Blocks.means c.args.blocks.now in
    let mid = g.B.Blocks.means c.loop-at.blocks in
    let new = g.B.Blocks.means c.copy_piece.new.blocks in
    let start = c.partition_at-start.result in
    let at = c.loop-at.at in
    let n = c.in-Ok.n in
    let inv = c.loop-at.invariant in
    let whole : IsWhole old.size mid.disk = subst (λ (k : ℕ). IsWhole k mid.disk) inv.spares.ends.size (g.met.B.Blocks.whole c.loop-at.blocks).disk in
    let inside : When content (λ t. at + n ≤ length (bytes_at t c.args.image)) = when-map content (λ t. c.args.size ≡ length (bytes_at t c.args.image)) _ (λ t size. omega (arith, c.in-Ok.ensures.most)) (length-told content c.args.image c.args.size c.requires.size) in
    record {
      same = c.in-Ok.ensures.same ∙ inv.same;
      plan = c.in-Ok.ensures.plan ∙ inv.plan;
      faults = search (rules, c.in-Ok.ensures.source);
      spares = range-then start c.args.size (start + at) (c.args.size - at) Done old mid new (omega arith) (omega arith) inv.spares c.in-Ok.ensures.spares;
      within = omega (arith, c.in-Ok.ensures.most);
      room = omega arith;
      summed = when-next content (λ t. Has c.loop-at.summing (take at (bytes_at t c.args.image))) (λ t. Has c.copy_piece.new.summing (take (at + n) (bytes_at t c.args.image))) (search (rules, c.in-Ok.ensures.summed, inv.same)) inv.summed;
      front = front-then content c.args.image start at n old.size mid.disk new.disk whole (omega (arith, c.in-Ok.ensures.most, c.partition_at-start.ensures.fits)) inside inv.front (search (rules, c.in-Ok.ensures.written, inv.same));
    }

pub returns-in-Err-clause-spares : goal.returns-in-Err-clause-spares
returns-in-Err-clause-spares g c =
    let old = g.B.Blocks.means c.args.blocks.now in
    let mid = g.B.Blocks.means c.loop-at.blocks in
    let new = g.B.Blocks.means c.copy_piece.new.blocks in
    let start = c.partition_at-start.result in
    let at = c.loop-at.at in
    subst (λ (k : ℕ). Spares (IsApart k c.args.size) c.in-Err.stop old new) (c.partition_at-start.ensures.start ∙ ap (λ (k : ℕ). partition_at k c.args.partition) c.size.ensures)
    (range-then start c.args.size (start + at) (c.args.size - at) c.in-Err.stop old mid new (omega arith) (omega arith) c.loop-at.invariant.spares c.in-Err.ensures.spares)
