use Rattle.std.proofs.Common.{refl, sym, ap, ◌∙◌, subst}
use Rattle.std.specs.Prelude.{Some}
use Rattle.io_model.specs.Source.{Content, When}
use Rattle.admit.specs.Given.{SparesPayloads}
use Rattle.record_codec.specs.declared.entry.Db.{Db}
use Rattle.script_names.specs.declared.site.Site.{Site}
use Rattle.trace_check.specs.declared.note.Deed.{Deed}
use Rattle.client_top.specs.Did.{Shelf}
use Rattle.client_top.specs.Looks.{Looks, PlansNote}
use Rattle.client_top.specs.Traced.{head_held}
use Rattle.client_top.proofs.Heads.{planned-looks, held-looks, held-fails}
use Rattle.client_top.proofs.trace.found_by.Goals as goal

pub returns-in-Install-clause-looks : goal.returns-in-Install-clause-looks
returns-in-Install-clause-looks g c = λ asked old mid noted site content mounted.
    let before : Shelf = record { faults = g.S.Source.faults c.args.source.now; given = g.S.Source.given c.args.source.now } in
    let behind : Shelf = record { faults = g.S.Source.faults c.look_into.new.source; given = g.S.Source.given c.look_into.new.source } in
    let install = c.in-Install.is in
    let result = c.look_into.result in
    let plans = subst (λ (d : Db). PlansNote c.args.site.now (g.S.Source.content c.args.source.now) d result) c.db.ensures.value c.look_into.ensures.plans in
    let of_site = subst (λ (s : Site). PlansNote s (g.S.Source.content c.args.source.now) c.args.store.now.db result) (sym site) plans in
    let of_content = subst (λ (x : Content). PlansNote asked.site x c.args.store.now.db result) (sym content) of_site in
    let spares = subst (λ (x : Content). When x (λ t. SparesPayloads t before.given behind.given)) (sym content) c.look_into.ensures.payloads in
    subst (λ (d : Deed). Looks d asked old mid before behind result) (sym install)
    (planned-looks asked (noted ∙ ap Some install) c.args.store.now old mid mounted c.db.ensures.right before behind spares result of_content c.look_into.ensures.counts)

pub returns-in-Ok : goal.returns-in-Ok
returns-in-Ok g c = record {
  tree = refl;
  source = refl;
  looks = λ asked old mid noted site content mounted.
      let shelf : Shelf = record { faults = g.S.Source.faults c.args.source.now; given = g.S.Source.given c.args.source.now } in
      let held = c.in-Ok.ensures ∙ ap (λ (d : Db). head_held c.args.deed c.args.site.now d) c.db-in_default.ensures.value ∙ ap (λ (s : Site). head_held c.args.deed s c.args.store.now.db) (sym site) in
      held-looks asked c.args.deed noted c.args.store.now old mid mounted c.db-in_default.ensures.right shelf c.in_default.not-Install c.in-Ok.head held;
}

pub returns-in-Err : goal.returns-in-Err
returns-in-Err g c = record {
  tree = refl;
  source = refl;
  looks = λ asked old mid noted site content mounted.
      let shelf : Shelf = record { faults = g.S.Source.faults c.args.source.now; given = g.S.Source.given c.args.source.now } in
      held-fails asked c.args.deed noted c.args.store.now old mid mounted c.db-in_default.ensures.right shelf;
}
