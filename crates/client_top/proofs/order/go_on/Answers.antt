use Rattle.std.proofs.Common.{subst}
use Rattle.record_codec.specs.declared.entry.Db.{Db}
use Rattle.client_top.specs.Steps.{Enters, Rests}
use Rattle.client_top.proofs.Orders.{enters-valid, rested-did, went-did}
use Rattle.client_top.proofs.order.go_on.Goals as goal

pub drive-end-requires-clause-valid : goal.drive-end-requires-clause-valid
drive-end-requires-clause-valid g c =
    enters-valid c.args.order c.args.store.db c.in-Ok.position c.db.ensures.right (subst (λ (d : Db). Enters c.args.order d c.in-Ok.position) c.db.ensures.value c.in-Ok.ensures)

pub returns-in-Ok-clause-did : goal.returns-in-Ok-clause-did
returns-in-Ok-clause-did g c = λ asked before shelf is site mounted.
    went-did c.args.order asked c.args.store before (g.D.Device.means c.args.device.now) shelf is mounted c.db.ensures.right
    c.args.site.now c.stops.result c.takes_back.result c.in-Ok.position c.drive-end.result c.status_after.result c.drive-end.new.store (g.D.Device.means c.drive-end.new.device)
    site c.stops.ensures c.takes_back.ensures c.status_after.ensures
    (subst (λ (d : Db). Enters c.args.order d c.in-Ok.position) c.db.ensures.value c.in-Ok.ensures) c.drive-end.ensures.decided c.drive-end.ensures.drove

pub returns-clause-did : goal.returns-clause-did
returns-clause-did g c = λ asked before shelf is site mounted.
    rested-did c.args.order asked c.args.store before (g.D.Device.means c.args.device.now) shelf is mounted c.db.ensures.right c.in-Err.status
    (subst (λ (d : Db). Rests c.args.order d c.in-Err.status) c.db.ensures.value c.in-Err.ensures)
