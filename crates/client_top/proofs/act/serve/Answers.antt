use Rattle.std.proofs.Common.{refl, sym, ap, subst}
use Rattle.std.specs.Prelude.{Ok, IsTrue}
use Rattle.client_words.specs.declared.command.Command.{Command}
use Rattle.client_top.specs.Answers.{shows}
use Rattle.client_top.specs.Finds.{Request}
use Rattle.client_top.specs.Did.{Shelf}
use Rattle.client_top.proofs.Says.{tells, shown-did}
use Rattle.client_top.proofs.act.serve.Goals as goal

pub returns-in-Resume-clause-served : goal.returns-in-Resume-clause-served
returns-in-Resume-clause-served g c = λ before mounted.
    let asked : Request = record { command = Ok c.args.command; site = c.args.site.now; content = g.S.Source.content c.args.source.now } in
    let shelf : Shelf = record { faults = g.S.Source.faults c.args.source.now; given = g.S.Source.given c.args.source.now } in
    tells asked c.args.store.db c.go_on.result before (g.D.Device.means c.go_on.new.device) shelf shelf (ap (λ (x : Command). shows (Ok x)) c.in-Resume.is)
    (c.go_on.ensures.did asked before shelf (ap (λ (x : Command). Ok x) c.in-Resume.is) refl mounted)

pub returns-in-ResumeStop-clause-served : goal.returns-in-ResumeStop-clause-served
returns-in-ResumeStop-clause-served g c = λ before mounted.
    let asked : Request = record { command = Ok c.args.command; site = c.args.site.now; content = g.S.Source.content c.args.source.now } in
    let shelf : Shelf = record { faults = g.S.Source.faults c.args.source.now; given = g.S.Source.given c.args.source.now } in
    tells asked c.args.store.db c.go_on-in-ResumeStop.result before (g.D.Device.means c.go_on-in-ResumeStop.new.device) shelf shelf (ap (λ (x : Command). shows (Ok x)) c.in-ResumeStop.is)
    (c.go_on-in-ResumeStop.ensures.did asked before shelf (ap (λ (x : Command). Ok x) c.in-ResumeStop.is) refl mounted)

pub returns-in-Commit-clause-served : goal.returns-in-Commit-clause-served
returns-in-Commit-clause-served g c = λ before mounted.
    let asked : Request = record { command = Ok c.args.command; site = c.args.site.now; content = g.S.Source.content c.args.source.now } in
    let shelf : Shelf = record { faults = g.S.Source.faults c.args.source.now; given = g.S.Source.given c.args.source.now } in
    tells asked c.args.store.db c.go_on-in-Commit.result before (g.D.Device.means c.go_on-in-Commit.new.device) shelf shelf (ap (λ (x : Command). shows (Ok x)) c.in-Commit.is)
    (c.go_on-in-Commit.ensures.did asked before shelf (ap (λ (x : Command). Ok x) c.in-Commit.is) refl mounted)

pub returns-in-Rollback-clause-served : goal.returns-in-Rollback-clause-served
returns-in-Rollback-clause-served g c = λ before mounted.
    let asked : Request = record { command = Ok c.args.command; site = c.args.site.now; content = g.S.Source.content c.args.source.now } in
    let shelf : Shelf = record { faults = g.S.Source.faults c.args.source.now; given = g.S.Source.given c.args.source.now } in
    tells asked c.args.store.db c.go_on-in-Rollback.result before (g.D.Device.means c.go_on-in-Rollback.new.device) shelf shelf (ap (λ (x : Command). shows (Ok x)) c.in-Rollback.is)
    (c.go_on-in-Rollback.ensures.did asked before shelf (ap (λ (x : Command). Ok x) c.in-Rollback.is) refl mounted)

pub returns-in-ShowProvides-clause-served : goal.returns-in-ShowProvides-clause-served
returns-in-ShowProvides-clause-served g c =
    let content = g.S.Source.content c.args.source.now in
    let shelf : Shelf = record { faults = g.S.Source.faults c.args.source.now; given = g.S.Source.given c.args.source.now } in
    rw c.shown.ensures.is (λ before mounted.
    shown-did c.args.command c.args.site.now content c.args.store before (g.D.Device.means c.args.device.now) shelf (subst (λ (x : Command). IsTrue (shows (Ok x))) (sym c.in-ShowProvides.is) refl) mounted c.shown.ensures.right)

pub returns-in-ShowArtifact-clause-served : goal.returns-in-ShowArtifact-clause-served
returns-in-ShowArtifact-clause-served g c =
    let content = g.S.Source.content c.args.source.now in
    let shelf : Shelf = record { faults = g.S.Source.faults c.args.source.now; given = g.S.Source.given c.args.source.now } in
    rw c.shown-in-ShowArtifact.ensures.is (λ before mounted.
    shown-did c.args.command c.args.site.now content c.args.store before (g.D.Device.means c.args.device.now) shelf (subst (λ (x : Command). IsTrue (shows (Ok x))) (sym c.in-ShowArtifact.is) refl) mounted c.shown-in-ShowArtifact.ensures.right)

pub returns-in-ShowDeployment-clause-served : goal.returns-in-ShowDeployment-clause-served
returns-in-ShowDeployment-clause-served g c =
    let content = g.S.Source.content c.args.source.now in
    let shelf : Shelf = record { faults = g.S.Source.faults c.args.source.now; given = g.S.Source.given c.args.source.now } in
    rw c.shown-in-ShowDeployment.ensures.is (λ before mounted.
    shown-did c.args.command c.args.site.now content c.args.store before (g.D.Device.means c.args.device.now) shelf (subst (λ (x : Command). IsTrue (shows (Ok x))) (sym c.in-ShowDeployment.is) refl) mounted c.shown-in-ShowDeployment.ensures.right)
