use Rattle.std.proofs.Common.{sym, subst}
use Rattle.ab_image.specs.declared.report.AbAct.{AbAct}
use Rattle.ab_image.specs.Taking.{Stores}
use Rattle.ab_image.proofs.Storing.{stores-then, stores-stopped, agree-then, whole-then}
use Rattle.ab_image.proofs.downloading.store.Goals as goal

pub returns-in-Ok-clause-stores : goal.returns-in-Ok-clause-stores
returns-in-Ok-clause-stores g c =
    stores-then c.in-Ok.target c.put_image.result (g.B.Blocks.means c.args.blocks.now) (g.B.Blocks.means c.free_other.new.blocks) (g.B.Blocks.means c.put_image.new.blocks) (g.met.B.Blocks.whole c.free_other.new.blocks) (g.met.B.Blocks.whole c.put_image.new.blocks) c.in-Ok.ensures.frees c.put_image.ensures.spares

pub returns-in-Err-clause-stores : goal.returns-in-Err-clause-stores
returns-in-Err-clause-stores g c =
    let old = g.B.Blocks.means c.args.blocks.now in
    let new = g.B.Blocks.means c.free_other.new.blocks in
    subst (λ (stop : AbAct). Stores stop old new) (sym c.stopped.ensures) (stores-stopped c.in-Err.down old new (g.met.B.Blocks.whole c.free_other.new.blocks) c.in-Err.ensures.frees)

pub returns-in-Ok-clause-agree : goal.returns-in-Ok-clause-agree
returns-in-Ok-clause-agree g c =
    λ e. agree-then c.in-Ok.target c.put_image.result (g.B.Blocks.means c.args.blocks.now) (g.B.Blocks.means c.free_other.new.blocks) (g.B.Blocks.means c.put_image.new.blocks) (g.met.B.Blocks.whole c.free_other.new.blocks) (g.met.B.Blocks.whole c.put_image.new.blocks) c.in-Ok.ensures.frees c.put_image.ensures.spares

pub returns-in-Ok-clause-whole : goal.returns-in-Ok-clause-whole
returns-in-Ok-clause-whole g c =
    λ e. whole-then c.in-Ok.target c.put_image.result (g.B.Blocks.means c.args.blocks.now) (g.B.Blocks.means c.free_other.new.blocks) (g.B.Blocks.means c.put_image.new.blocks) (g.met.B.Blocks.whole c.free_other.new.blocks) (g.met.B.Blocks.whole c.put_image.new.blocks) c.in-Ok.ensures.frees c.put_image.ensures.spares (g.S.Source.content c.args.source.now) c.args.image.now.file (c.put_image.ensures.whole e)
