use Rattle.std.proofs.Common.{subst}
use Rattle.record_codec.specs.declared.entry.Db.{Db}
use Rattle.client_top.specs.Did.{Shelf}
use Rattle.client_top.specs.Finds.{check_found}
use Rattle.client_top.specs.Steps.{WeighsTree}
use Rattle.client_top.proofs.Checks.{check-did}
use Rattle.client_top.proofs.check.check.Goals as goal

pub returns-clause-did : goal.returns-clause-did
returns-clause-did g c = λ before now mounted.
    let site = c.args.site.now in
    let content = g.S.Source.content c.args.source.now in
    let old : Shelf = record { faults = g.S.Source.faults c.args.source.now; given = g.S.Source.given c.args.source.now } in
    let new : Shelf = record { faults = g.S.Source.faults c.weigh.new.source; given = g.S.Source.given c.weigh.new.source } in
    check-did site content c.args.store.now before now mounted c.db.ensures.right old new c.weigh.ensures.payloads c.weigh.result c.weigh.ensures.counts
    (subst (λ (d : Db). WeighsTree (check_found site content d) site content d c.weigh.result) c.db.ensures.value c.weigh.ensures.weighs)
