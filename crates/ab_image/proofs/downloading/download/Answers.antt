use Rattle.std.proofs.Common.{◌≡◌, ◌≤◌, ℕ, ◌∙◌, ap, subst}
use Rattle.std.specs.Prelude.{IfSome}
use Rattle.io_model.specs.Source.{Content, When, bytes_at}
use Rattle.ab_image.specs.Layout.{partition_size, other, chosen, Whole}
use Rattle.ab_image.specs.Finding.{NoImage}
use Rattle.ab_image.specs.Taking.{Judges}
use Rattle.ab_image.proofs.Unfound.{unfound-acts}
use Rattle.ab_image.proofs.Taken.{taken-acts}
use Rattle.ab_image.proofs.downloading.download.Goals as goal

pub returns-in-Err-clause-acts : goal.returns-in-Err-clause-acts
returns-in-Err-clause-acts g c = λ sink.
    let content = g.S.Source.content c.args.source.now in
    let blocks = g.B.Blocks.means c.args.blocks.now in
    let most : c.partition_size.result ≡ partition_size blocks.size = c.partition_size.ensures ∙ ap partition_size c.size.ensures in
    unfound-acts content (g.S.Source.faults c.args.source.now) (g.S.Source.faults c.find_image.new.source) blocks sink c.in-Err.stop c.requires.on (subst (λ (n : ℕ). NoImage content n c.in-Err.stop) most c.in-Err.ensures.none) c.in-Err.ensures.stops

pub returns-in-Ok-clause-acts : goal.returns-in-Ok-clause-acts
returns-in-Ok-clause-acts g c = λ sink.
    let content = g.S.Source.content c.args.source.now in
    let old = g.B.Blocks.means c.args.blocks.now in
    let new = g.B.Blocks.means c.store.new.blocks in
    let image = c.in-Ok.image in
    let most : c.partition_size.result ≡ partition_size old.size = c.partition_size.ensures ∙ ap partition_size c.size.ensures in
    let judges = subst (λ (k : Content). Judges k image.file image.listed c.store.result) c.in-Ok.ensures.same c.store.ensures.judges in
    taken-acts content image (g.S.Source.faults c.args.source.now) (g.S.Source.faults c.find_image.new.source) (g.S.Source.faults c.store.new.source) old new sink c.store.result
    c.in-Ok.ensures.image c.in-Ok.ensures.size (subst (λ (n : ℕ). image.size ≤ n) most c.in-Ok.ensures.fits) c.in-Ok.ensures.stops c.store.ensures.source judges c.store.ensures.stores
    (λ e. record {
      settled = c.store.ensures.settled e;
      agree = c.store.ensures.agree e;
      whole = subst (λ (k : Content). When k (λ t. IfSome new.disk (λ d. Whole d.area (other (chosen d.area)) (bytes_at t image.file)))) c.in-Ok.ensures.same (c.store.ensures.whole e);
    })
