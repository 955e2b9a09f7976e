use Rattle.std.proofs.Common.{◌≡◌, sym, subst}
use Rattle.std.specs.Prelude.{Ok, true}
use Rattle.provides_map.specs.Pairs.{Pairs}
use Rattle.io_model.specs.Source.{When}
use Rattle.admit.specs.Admit.{plan_of}
use Rattle.client_top.specs.declared.status.Status.{Status}
use Rattle.client_top.specs.Finds.{begun, check_found}
use Rattle.client_top.specs.Steps.{WeighsTree}
use Rattle.client_top.proofs.Mounts.{reads-nothing}
use Rattle.client_top.proofs.Trees.{check-planned}
use Rattle.client_top.proofs.check.weigh.Goals as goal

pub returns-in_default-clause-payloads : goal.returns-in_default-clause-payloads
returns-in_default-clause-payloads g c = reads-nothing true (g.S.Source.content c.args.source.now) (g.S.Source.given c.args.source.now)

pub returns-in-Ok-begun_length-clause-weighs : goal.returns-in-Ok-begun_length-clause-weighs
returns-in-Ok-begun_length-clause-weighs g c =
    let site = c.args.site.now in
    let content = g.S.Source.content c.args.source.now in
    let db = c.args.db.now in
    let plan = c.in-Ok-admit.plan in
    let told = subst (λ (b : Pairs). When content (λ t. plan_of t site.device_type b ≡ Ok plan)) c.in-Ok.ensures c.in-Ok-admit.ensures.told in
    subst (λ (s : Status). WeighsTree (check_found site content db) site content db s)
    (sym (c.fitting.ensures (begun db plan) (c.in-Ok-begun_length.ensures db c.in-Ok.ensures)))
    (check-planned site content db plan told c.in-Ok-admit.ensures.of_source)
