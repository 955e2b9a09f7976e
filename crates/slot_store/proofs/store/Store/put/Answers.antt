use Rattle.std.proofs.Common.{◌≡◌, ◌∙◌, ◌-◌, true, sym, ap, subst}
use Rattle.std.specs.Prelude.{IfSome}
use Rattle.slot_store.specs.Kept.{Kept}
use Rattle.slot_store.specs.Written.{Keeps, IsPastRecord, size_of}
use Rattle.slot_store.proofs.Spared.{spared-loaded}
use Rattle.slot_store.proofs.store.Store.put.Goals as goal

pub returns-then-self-clause-spares : goal.returns-then-self-clause-spares
returns-then-self-clause-spares g c =
    let old = (g.D.Device.means c.args.device.now).disk in
    let new = (g.D.Device.means c.put_record.new.device).disk in
    let loaded : c.args.self.now.loaded ≡ true = sym (ap (λ (k : Kept). k.loaded) c.take_to.ensures) ∙ sym (ap (λ (k : Kept). k.loaded) c.self.view_is) ∙ c.if-self.true in
    spared-loaded c.args.position.now c.args.self.now old new loaded
    (subst (λ (k : Kept). IfSome old (λ d. Keeps (IsPastRecord (1 - k.picked) (size_of k.db)) d.area new)) c.take_to.ensures c.put_record.ensures.spares)
