use Rattle.std.proofs.Common.{◌∙◌, ◌<◌, arith}
use Rattle.io_model.specs.Source.{IsPath, count_of}
use Rattle.ab_image.proofs.Paths.{few-after, below-after, found-after, found-all}
use Rattle.ab_image.proofs.artifact.find_files.Goals as goal

pub loop-i-preserved : goal.loop-i-preserved
loop-i-preserved g c =
    let content = g.S.Source.content in
    let inv = c.loop-i.invariant in
    let told = c.in_ok-path.ensures in
    let old = c.loop-i.found in
    let new = c.with-found.result in
    let start = content c.args.source.now in
    let lt : c.loop-i.i < count_of start = omega (arith, c.loop-i-test.true, c.files-i-end.ensures.number) in
    let path : IsPath start c.loop-i.i c.in_ok-path.path = rw inv.same at told.value in
    record {
      same = told.same ∙ inv.same;
      plan = told.plan ∙ inv.plan;
      faults = told.counts ∙ inv.faults;
      few = few-after c.loop-i.i c.in_ok-path.path old new c.with-found.ensures inv.few;
      below = below-after c.loop-i.i c.in_ok-path.path old new c.with-found.ensures inv.below;
      found = found-after start c.loop-i.i c.in_ok-path.path old new lt path c.with-found.ensures inv.below inv.found;
    }

pub returns-clause-found : goal.returns-clause-found
returns-clause-found g c = found-all (g.S.Source.content c.args.source.now) c.loop-i.i c.loop-i.found (omega (arith, c.loop-i-test.false, c.files-i-end.ensures.number)) c.loop-i.invariant.found
