use Rattle.std.proofs.Common.{◌≡◌, ◌∙◌, ◌-◌, false, sym, ap, subst}
use Rattle.slot_store.specs.Kept.{Kept, IsOf}
use Rattle.std.specs.Prelude.{IfSome}
use Rattle.record_codec.specs.declared.entry.Db.{Db}
use Rattle.record_codec.specs.Spelling.{IfFull}
use Rattle.slot_store.specs.Written.{Keeps, IsPastCell, HasCell}
use Rattle.slot_store.proofs.Puts.{of-record, put-any, put-sound, put-done}
use Rattle.slot_store.proofs.store.Store.put_cell.Goals as goal

pub returns-in-Err-clause-any : goal.returns-in-Err-clause-any
returns-in-Err-clause-any g c =
    let old = (g.D.Device.means c.args.device.now).disk in
    let store : Kept = record { picked = c.self.inside.picked; cell = c.self.inside.cell; loaded = c.self.inside.loaded; db = c.self.inside.db } in
    let put : store.loaded ≡ false = ap (λ (k : Kept). k.loaded) c.self.view_is ∙ c.requires.put in
    let of : IsOf store old = subst (λ (k : Kept). IsOf k old) (sym c.self.view_is) c.requires.of in
    let turns = c.write_cell.ensures.turns c.in-Full.entry (of-record c.in-Full.entry store old c.in-Full.is put of) in
    put-any c.in-Full.entry c.args.self.now.db (sym (ap (λ (k : Kept). k.db) c.self.view_is) ∙ c.in-Full.is) old (g.D.Device.means c.write_cell.new.device).disk turns

pub returns-in-Err-clause-sound : goal.returns-in-Err-clause-sound
returns-in-Err-clause-sound g c =
    let old = (g.D.Device.means c.args.device.now).disk in
    let store : Kept = record { picked = c.self.inside.picked; cell = c.self.inside.cell; loaded = c.self.inside.loaded; db = c.self.inside.db } in
    let put : store.loaded ≡ false = ap (λ (k : Kept). k.loaded) c.self.view_is ∙ c.requires.put in
    let of : IsOf store old = subst (λ (k : Kept). IsOf k old) (sym c.self.view_is) c.requires.of in
    let turns = c.write_cell.ensures.turns c.in-Full.entry (of-record c.in-Full.entry store old c.in-Full.is put of) in
    put-sound c.in-Full.entry c.args.self.now.db (sym (ap (λ (k : Kept). k.db) c.self.view_is) ∙ c.in-Full.is) old (g.D.Device.means c.write_cell.new.device).disk turns

pub returns-clause-any : goal.returns-clause-any
returns-clause-any g c =
    let old = (g.D.Device.means c.args.device.now).disk in
    let store : Kept = record { picked = c.self.inside.picked; cell = c.self.inside.cell; loaded = c.self.inside.loaded; db = c.self.inside.db } in
    let put : store.loaded ≡ false = ap (λ (k : Kept). k.loaded) c.self.view_is ∙ c.requires.put in
    let of : IsOf store old = subst (λ (k : Kept). IsOf k old) (sym c.self.view_is) c.requires.of in
    let turns = c.write_cell.ensures.turns c.in-Full.entry (of-record c.in-Full.entry store old c.in-Full.is put of) in
    put-any c.in-Full.entry c.args.self.now.db (sym (ap (λ (k : Kept). k.db) c.self.view_is) ∙ c.in-Full.is) old (g.D.Device.means c.write_cell.new.device).disk turns

pub returns-clause-sound : goal.returns-clause-sound
returns-clause-sound g c =
    let old = (g.D.Device.means c.args.device.now).disk in
    let store : Kept = record { picked = c.self.inside.picked; cell = c.self.inside.cell; loaded = c.self.inside.loaded; db = c.self.inside.db } in
    let put : store.loaded ≡ false = ap (λ (k : Kept). k.loaded) c.self.view_is ∙ c.requires.put in
    let of : IsOf store old = subst (λ (k : Kept). IsOf k old) (sym c.self.view_is) c.requires.of in
    let turns = c.write_cell.ensures.turns c.in-Full.entry (of-record c.in-Full.entry store old c.in-Full.is put of) in
    put-sound c.in-Full.entry c.args.self.now.db (sym (ap (λ (k : Kept). k.db) c.self.view_is) ∙ c.in-Full.is) old (g.D.Device.means c.write_cell.new.device).disk turns

pub returns-clause-ok : goal.returns-clause-ok
returns-clause-ok g c =
    let old = g.D.Device.means c.args.device.now in
    let new = g.D.Device.means c.write_cell.new.device in
    let store : Kept = record { picked = c.self.inside.picked; cell = c.self.inside.cell; loaded = c.self.inside.loaded; db = c.self.inside.db } in
    let put : store.loaded ≡ false = ap (λ (k : Kept). k.loaded) c.self.view_is ∙ c.requires.put in
    let of : IsOf store old.disk = subst (λ (k : Kept). IsOf k old.disk) (sym c.self.view_is) c.requires.of in
    let holds = c.in-Ok.ensures.ok c.in-Full.entry (of-record c.in-Full.entry store old.disk c.in-Full.is put of) in
    let after : Kept = record { picked = c.self.inside.picked; cell = 1 - c.self.inside.cell; loaded = c.self.inside.loaded; db = c.self.inside.db } in
    put-done c.in-Full.entry c.args.self.now.db after old new (sym (ap (λ (k : Kept). k.db) c.self.view_is) ∙ c.in-Full.is) (ap (λ (k : Kept). k.db) c.self.view_is) put c.in-Ok.ensures.wrote (g.met.D.Device.whole c.write_cell.new.device) holds

pub returns-in-Err-clause-spares : goal.returns-in-Err-clause-spares
returns-in-Err-clause-spares g c =
    subst (λ (k : Kept). IfSome (g.D.Device.means c.args.device.now).disk (λ d. Keeps (IsPastCell k.picked (1 - k.cell)) d.area (g.D.Device.means c.write_cell.new.device).disk)) c.self.view_is c.write_cell.ensures.spares

pub returns-clause-spares : goal.returns-clause-spares
returns-clause-spares g c =
    subst (λ (k : Kept). IfSome (g.D.Device.means c.args.device.now).disk (λ d. Keeps (IsPastCell k.picked (1 - k.cell)) d.area (g.D.Device.means c.write_cell.new.device).disk)) c.self.view_is c.write_cell.ensures.spares

pub returns-clause-written : goal.returns-clause-written
returns-clause-written g c =
    subst (λ (x : Db). IfSome (g.D.Device.means c.write_cell.new.device).disk (λ d. IfFull (λ e. HasCell e.position c.self.inside.picked (1 - c.self.inside.cell) d.area) x)) (sym c.in-Full.is) c.in-Ok.ensures.written
