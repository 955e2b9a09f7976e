use Rattle.std.proofs.Common.{◌≡◌, ◌∙◌, ◌+◌, ◌<◌, ◌++◌, ◌∷◌, [], List, Some, None, sym, subst, arith}
use Rattle.io_model.specs.Source.{count_of, When}
use Rattle.admit.specs.Kept.{IsInfoAt}
use Rattle.admit.specs.declared.reading.InfoText.{InfoText}
use Rattle.admit.proofs.Infos.{TextsUpTo, FilesAre, none_more, one_more, file_more, read_then}
use Rattle.admit.proofs.reading.read_infos.Goals as goal
use Rattle.admit.proofs.reading.read_infos.Goals.{in-Some+in_ok-push, in_default}

pub loop-i-preserved : goal.loop-i-preserved
loop-i-preserved g c =
    let content = g.S.Source.content in
    let given = g.S.Source.given in
    let inv = c.loop-i.invariant in
    let told = c.in_ok-info.ensures in
    let heads = c.args.heads.now in
    let start = content c.args.source.now in
    let i = c.loop-i.i in
    let infos = c.loop-i.infos in
    let lt : i < count_of start = omega (arith, c.loop-i-test.true, c.requires.count) in
    let read = read_then heads (given c.args.source.now) (given c.loop-i.source) (given c.read_info.new.source) inv.given told.given in
    elim c.match-branch-2.branch [
      | in-Some+in_ok-push w ↦ (
          let info = w.in-Some.info in
          let at : When start (λ t. IsInfoAt t i (Some info)) = rw (w.in-Some.is, inv.same) at told.text in
          let more : c.match-branch-2.infos ≡ infos ++ info ∷ [] = w.infos-is ∙ w.in_ok-push.ensures.ok in
          record {
            same = told.same ∙ inv.same;
            plan = told.plan ∙ inv.plan;
            faults = told.stops ∙ inv.faults;
            given = read;
            texts = subst (λ (l : List InfoText). TextsUpTo start (i + 1) l) (sym more) (one_more start i infos info lt at inv.texts);
            files = subst (λ (l : List InfoText). FilesAre start l) (sym more) (file_more start i infos info at inv.files);
          })
      | in_default w ↦ (
          let at : When start (λ t. IsInfoAt t i None) = rw (w.in_default.is, inv.same) at told.text in
          record {
            same = told.same ∙ inv.same;
            plan = told.plan ∙ inv.plan;
            faults = told.stops ∙ inv.faults;
            given = read;
            texts = subst (λ (l : List InfoText). TextsUpTo start (i + 1) l) (sym w.infos-is) (none_more start i infos lt at inv.texts);
            files = subst (λ (l : List InfoText). FilesAre start l) (sym w.infos-is) inv.files;
          })
    ]
