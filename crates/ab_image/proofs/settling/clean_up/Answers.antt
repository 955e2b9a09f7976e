use Rattle.std.proofs.Common.{arith, rules}
use Rattle.std.proofs.lemmas.Result.{err_from_is_err_and}
use Rattle.ab_image.specs.Layout.{origin_at, Agree}
use Rattle.ab_image.proofs.Areas.{origin-apart}
use Rattle.ab_image.proofs.Aligning.{aligns-set, aligns-failed, origin-reach}
use Rattle.ab_image.proofs.settling.clean_up.Goals as goal

pub returns : goal.returns
returns g c =
    let old = g.B.Blocks.means c.args.blocks.now in
    let mid = g.B.Blocks.means c.settle.new.blocks in
    let new = g.B.Blocks.means c.set.new.blocks in
    let named = c.in_ok-named.named in
    record {
      cleans = aligns-set origin_at (λ before after. Agree after) named.choice origin-apart old mid named c.set.result new (omega arith) (g.met.B.Blocks.whole c.args.blocks.now) (g.met.B.Blocks.whole c.set.new.blocks) c.in_ok-named.ensures.settles
          (λ same. search (rules, c.is.ensures, same)) c.set.ensures.sets (origin-reach old named (g.met.B.Blocks.whole c.args.blocks.now) c.in_ok-named.ensures.settles.choice);
    }

pub returns-in_err-named : goal.returns-in_err-named
returns-in_err-named g c =
    let p = err_from_is_err_and c.from_residual.result c.from_residual.ensures.1 in
    rw (p.1, p.2) (record { cleans = aligns-failed origin_at (λ before after. Agree after) (g.B.Blocks.means c.args.blocks.now) _ (g.B.Blocks.means c.settle.new.blocks) (g.met.B.Blocks.whole c.settle.new.blocks) c.in_err-named.ensures.settles })
