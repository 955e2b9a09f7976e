use Rattle.std.proofs.lemmas.Result.{err_from_is_err_and}
use Rattle.ab_image.proofs.Storing.{frees-failed}
use Rattle.ab_image.proofs.downloading.free_other.Goals as goal

pub returns-in_err-named : goal.returns-in_err-named
returns-in_err-named g c =
    let p = err_from_is_err_and c.from_residual-in_err-named.result c.from_residual-in_err-named.ensures.1 in
    rw (p.1, p.2) (record {
      frees = frees-failed _ (g.B.Blocks.means c.args.blocks.now) (g.B.Blocks.means c.clean_up.new.blocks) _ (g.B.Blocks.means c.settle.new.blocks) c.in_ok-clean_up.ensures.cleans c.in_err-named.ensures.settles;
    })
