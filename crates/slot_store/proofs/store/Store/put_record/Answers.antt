use Rattle.std.proofs.Common.{◌-◌, false, refl, sym, subst, ap}
use Rattle.std.specs.Prelude.{IfSome}
use Rattle.record_codec.specs.declared.entry.Db.{Db}
use Rattle.record_codec.specs.Spelling.{IfFull}
use Rattle.slot_store.specs.Written.{Keeps, IsPastRecord, HasFresh, size_of}
use Rattle.slot_store.specs.Kept.{Kept}
use Rattle.slot_store.proofs.Puts.{put-sound, put-done}
use Rattle.slot_store.proofs.store.Store.put_record.Goals as goal

pub returns-in-Err-clause-sound : goal.returns-in-Err-clause-sound
returns-in-Err-clause-sound g c = put-sound c.in-Full.entry c.self.inside.db c.in-Full.is (g.D.Device.means c.args.device.now).disk (g.D.Device.means c.write_record.new.device).disk c.write_record.ensures.turns

pub returns-clause-sound : goal.returns-clause-sound
returns-clause-sound g c = put-sound c.in-Full.entry c.self.inside.db c.in-Full.is (g.D.Device.means c.args.device.now).disk (g.D.Device.means c.write_record.new.device).disk c.write_record.ensures.turns

pub returns-clause-ok : goal.returns-clause-ok
returns-clause-ok g c =
    let after : Kept = record { picked = 1 - c.self.inside.picked; cell = 0; loaded = false; db = c.self.inside.db } in
    let db = ap (λ (k : Kept). k.db) c.self.view_is in
    rw (← c.self.view_is) (put-done c.in-Full.entry c.self.inside.db after (g.D.Device.means c.args.device.now) (g.D.Device.means c.write_record.new.device) c.in-Full.is refl refl c.in-Ok.ensures.wrote (g.met.D.Device.whole c.write_record.new.device) c.in-Ok.ensures.ok)

pub returns-in-Err-clause-spares : goal.returns-in-Err-clause-spares
returns-in-Err-clause-spares g c =
    let old = (g.D.Device.means c.args.device.now).disk in
    let new = (g.D.Device.means c.write_record.new.device).disk in
    subst (λ (k : Kept). IfSome old (λ d. Keeps (IsPastRecord (1 - k.picked) (size_of k.db)) d.area new)) c.self.view_is
    (subst (λ (x : Db). IfSome old (λ d. Keeps (IsPastRecord (1 - c.self.inside.picked) (size_of x)) d.area new)) (sym c.in-Full.is) c.write_record.ensures.spares)

pub returns-clause-spares : goal.returns-clause-spares
returns-clause-spares g c =
    let old = (g.D.Device.means c.args.device.now).disk in
    let new = (g.D.Device.means c.write_record.new.device).disk in
    subst (λ (k : Kept). IfSome old (λ d. Keeps (IsPastRecord (1 - k.picked) (size_of k.db)) d.area new)) c.self.view_is
    (subst (λ (x : Db). IfSome old (λ d. Keeps (IsPastRecord (1 - c.self.inside.picked) (size_of x)) d.area new)) (sym c.in-Full.is) c.write_record.ensures.spares)

pub returns-clause-written : goal.returns-clause-written
returns-clause-written g c =
    subst (λ (x : Db). IfSome (g.D.Device.means c.write_record.new.device).disk (λ d. IfFull (λ e. HasFresh e (1 - c.self.inside.picked) d.area) x)) (sym c.in-Full.is) c.in-Ok.ensures.fresh
