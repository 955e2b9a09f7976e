use Rattle.std.proofs.Common.{◌≡◌, arith, rules}
use Rattle.std.proofs.lemmas.Result.{err_from_is_err_and}
use Rattle.ab_image.specs.Layout.{choice_at, chosen, origin}
use Rattle.ab_image.proofs.Areas.{choice-apart}
use Rattle.ab_image.proofs.Aligning.{aligns-set, aligns-failed, choice-reach}
use Rattle.ab_image.proofs.settling.roll_back.Goals as goal

pub returns : goal.returns
returns g c =
    let old = g.B.Blocks.means c.args.blocks.now in
    let mid = g.B.Blocks.means c.settle.new.blocks in
    let new = g.B.Blocks.means c.set.new.blocks in
    let named = c.in_ok-named.named in
    record {
      rolls = aligns-set choice_at (λ before after. chosen after ≡ origin before) named.origin choice-apart old mid named c.set.result new (omega arith) (g.met.B.Blocks.whole c.args.blocks.now) (g.met.B.Blocks.whole c.set.new.blocks) c.in_ok-named.ensures.settles
          (λ same. search (rules, c.is.ensures, same)) c.set.ensures.sets (choice-reach old named (g.met.B.Blocks.whole c.args.blocks.now) c.in_ok-named.ensures.settles.origin);
    }

pub returns-in_err-named : goal.returns-in_err-named
returns-in_err-named g c =
    let p = err_from_is_err_and c.from_residual.result c.from_residual.ensures.1 in
    rw (p.1, p.2) (record { rolls = aligns-failed choice_at (λ before after. chosen after ≡ origin before) (g.B.Blocks.means c.args.blocks.now) _ (g.B.Blocks.means c.settle.new.blocks) (g.met.B.Blocks.whole c.settle.new.blocks) c.in_err-named.ensures.settles })
