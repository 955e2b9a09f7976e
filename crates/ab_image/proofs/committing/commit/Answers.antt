use Rattle.std.proofs.Common.{◌≡◌, ◌∙◌, ℕ, Some, None, sym, ap, subst}
use Rattle.io_model.specs.Source.{Content, When}
use Rattle.ab_image.specs.declared.report.AbAct.{AbAct}
use Rattle.ab_image.specs.Answers.{source_after}
use Rattle.ab_image.specs.Act.{ActsFor, scene}
use Rattle.ab_image.specs.Finding.{NoSum, listed_at}
use Rattle.ab_image.proofs.Commits.{committed, lists, faulted-acts, unlisted-acts, chooses-acts}
use Rattle.ab_image.proofs.committing.commit.Goals as goal

pub returns-in-Err-clause-acts : goal.returns-in-Err-clause-acts
returns-in-Err-clause-acts g c = λ sink.
    faulted-acts (g.S.Source.content c.args.source.now) (g.S.Source.faults c.args.source.now) (g.S.Source.faults c.find_files.new.source) (g.B.Blocks.means c.args.blocks.now) sink c.requires.on c.in-Err.ensures.counts

pub returns-in-Err-listed_sum-clause-acts : goal.returns-in-Err-listed_sum-clause-acts
returns-in-Err-listed_sum-clause-acts g c = λ sink.
    let content = g.S.Source.content c.args.source.now in
    let faults = g.S.Source.faults c.args.source.now in
    let stop = c.in-Err-listed_sum.stop in
    let found = c.in-Ok.found in
    let none = subst (λ (t : Content). NoSum t found.type_info stop) c.in-Ok.ensures.same c.in-Err-listed_sum.ensures.none in
    unlisted-acts content faults (g.S.Source.faults c.listed_sum.new.source) (g.B.Blocks.means c.args.blocks.now) sink found.type_info stop c.requires.on
    (c.in-Err-listed_sum.ensures.stops ∙ ap (λ (n : ℕ). source_after stop n) c.in-Ok.ensures.counts) none (lists content found None c.in-Ok.ensures.found)

pub returns-clause-acts : goal.returns-clause-acts
returns-clause-acts g c = λ sink.
    let content = g.S.Source.content c.args.source.now in
    let faults = g.S.Source.faults c.args.source.now in
    let old = g.B.Blocks.means c.args.blocks.now in
    let new = g.B.Blocks.means c.choose.new.blocks in
    let found = c.in-Ok.found in
    let sum = c.in-Ok-listed_sum.listed in
    let told = subst (λ (t : Content). When t (λ tree. listed_at tree found.type_info ≡ Some sum)) c.in-Ok.ensures.same c.in-Ok-listed_sum.ensures.listed in
    subst (λ (n : ℕ). ActsFor committed content (scene faults old sink) (scene n new sink) c.answered.result) (sym (c.in-Ok-listed_sum.ensures.stops ∙ c.in-Ok.ensures.counts))
    (subst (λ (a : AbAct). ActsFor committed content (scene faults old sink) (scene faults new sink) a) (sym c.answered.ensures)
    (chooses-acts content faults sum old new sink c.choose.result (lists content found (Some sum) c.in-Ok.ensures.found told) c.choose.ensures.chooses))
