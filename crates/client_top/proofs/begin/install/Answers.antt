use Rattle.std.proofs.Common.{◌≡◌, sym, ap, ◌∙◌, subst}
use Rattle.std.specs.Prelude.{Some, Err, false, true}
use Rattle.upd_text.specs.Told.{WhereTold}
use Rattle.io_model.specs.Source.{Content, When}
use Rattle.provides_map.specs.Pairs.{Pairs}
use Rattle.flow_table.specs.declared.position.Position.{Position}
use Rattle.flow_table.specs.declared.position.State.TheVariants as at
use Rattle.flow_drive.specs.Drive.{Drove}
use Rattle.record_codec.specs.declared.entry.Db.{Db}
use Rattle.record_codec.specs.declared.entry.Db.TheVariants.{Full}
use Rattle.record_codec.specs.Held.{position_of}
use Rattle.admit.specs.Given.{ReadsPayloads}
use Rattle.work_folder.specs.Prepare.{CopiesAll, CopiesSome}
use Rattle.work_folder.specs.Rows.{rows_of, copied_of}
use Rattle.work_folder.specs.Folder as folder
use Rattle.slot_store.specs.Kept.{Kept}
use Rattle.client_top.specs.declared.status.Status.{Status}
use Rattle.client_top.specs.Did.{Did, Shelf}
use Rattle.client_top.specs.Finds.{begun}
use Rattle.client_top.specs.Steps.{Planned, Begins}
use Rattle.client_top.proofs.Begun.{Heads, request, busy-did, weighed-did, memory-did, unprepared-by, begun-by}
use Rattle.client_top.proofs.begin.install.Goals as goal

pub returns-in-Some-clause-did : goal.returns-in-Some-clause-did
returns-in-Some-clause-did g c = λ before mounted.
    let content = g.S.Source.content c.args.source.now in
    let shelf : Shelf = record { faults = g.S.Source.faults c.args.source.now; given = g.S.Source.given c.args.source.now } in
    let there = c.db.ensures.value in
    busy-did c.args.site.now content c.args.store before (g.D.Device.means c.args.device.now) mounted c.db.ensures.right shelf
    c.in-Some.state (c.in-Some.ensures.0 ∙ ap (λ (d : Db). (position_of d).state) there) c.in-Some.ensures.1

pub returns-in-Err-clause-did : goal.returns-in-Err-clause-did
returns-in-Err-clause-did g c = λ before mounted.
    let content = g.S.Source.content c.args.source.now in
    let shelf : Shelf = record { faults = g.S.Source.faults c.args.source.now; given = g.S.Source.given c.args.source.now } in
    let idle : (position_of c.args.store.db).state ≡ at.Idle = subst (λ (d : Db). (position_of d).state ≡ at.Idle) c.db.ensures.value c.in_default.ensures in
    let now : Shelf = record { faults = g.S.Source.faults c.planned.new.source; given = g.S.Source.given c.planned.new.source } in
    weighed-did c.args.site.now content c.args.store before (g.D.Device.means c.args.device.now) mounted c.db.ensures.right shelf idle now c.in-Err.ensures.payloads c.in-Err.status c.in-Err.ensures.counts
    (subst (λ (d : Db). Planned c.args.site.now content d (Err c.in-Err.status)) c.db-2.ensures.value c.in-Err.ensures.planned)

pub returns-in-Err-zeros-clause-did : goal.returns-in-Err-zeros-clause-did
returns-in-Err-zeros-clause-did g c = λ before mounted.
    let content = g.S.Source.content c.args.source.now in
    let shelf : Shelf = record { faults = g.S.Source.faults c.args.source.now; given = g.S.Source.given c.args.source.now } in
    let idle : (position_of c.args.store.db).state ≡ at.Idle = subst (λ (d : Db). (position_of d).state ≡ at.Idle) c.db.ensures.value c.in_default.ensures in
    let now : Shelf = record { faults = g.S.Source.faults c.planned.new.source; given = g.S.Source.given c.planned.new.source } in
    subst (λ (s : Status). Did (request c.args.site.now content) (Some c.args.store.db) s before (g.D.Device.means c.args.device.now) shelf now) (sym c.in-Err-zeros.ensures.err)
    (memory-did c.args.site.now content c.args.store before (g.D.Device.means c.args.device.now) mounted c.db.ensures.right shelf idle now c.in-Ok.ensures.payloads c.in-Ok.ensures.counts)

pub returns-in-Err-prepare-clause-did : goal.returns-in-Err-prepare-clause-did
returns-in-Err-prepare-clause-did g c = λ before mounted.
    let content = g.S.Source.content c.args.source.now in
    let shelf : Shelf = record { faults = g.S.Source.faults c.args.source.now; given = g.S.Source.given c.args.source.now } in
    let idle : (position_of c.args.store.db).state ≡ at.Idle = subst (λ (d : Db). (position_of d).state ≡ at.Idle) c.db.ensures.value c.in_default.ensures in
    let mid : Shelf = record { faults = g.S.Source.faults c.planned.new.source; given = g.S.Source.given c.planned.new.source } in
    let last : Shelf = record { faults = g.S.Source.faults c.prepare.new.source; given = g.S.Source.given c.prepare.new.source } in
    let site = c.args.site.now in
    let plan = c.in-Ok.begun.plan in
    let begins = subst (λ (d : Db). Begins site content d c.in-Ok.begun) c.db-2.ensures.value c.in-Ok.ensures.planned in
    let heads : Heads site content c.args.store.db plan = record { head = begins.head; is_of = begins.is_of; small = begins.small } in
    let same = c.in-Ok.ensures.tree in
    subst (λ (s : Status). Did (request site content) (Some c.args.store.db) s before (g.D.Device.means c.prepare.new.device) shelf last) (sym c.unprepared.ensures)
    (unprepared-by site content c.args.store before (g.D.Device.means c.args.device.now) mounted c.db.ensures.right shelf idle plan heads (g.D.Device.means c.prepare.new.device) mid last c.in-Ok.ensures.counts c.in-Ok.ensures.payloads
    (subst (λ (x : Content). When x (λ t. ReadsPayloads false t mid.given last.given)) same c.in-Err-prepare.ensures.payloads_in_part)
    c.in-Err-prepare.fault c.in-Err-prepare.ensures.touches c.in-Err-prepare.ensures.counts
    (subst (λ (x : Content). CopiesSome x (copied_of plan) c.in-Err-prepare.fault mid.given last.given) same c.in-Err-prepare.ensures.stopped))

pub returns-clause-did : goal.returns-clause-did
returns-clause-did g c = λ before mounted.
    let content = g.S.Source.content c.args.source.now in
    let shelf : Shelf = record { faults = g.S.Source.faults c.args.source.now; given = g.S.Source.given c.args.source.now } in
    let idle : (position_of c.args.store.db).state ≡ at.Idle = subst (λ (d : Db). (position_of d).state ≡ at.Idle) c.db.ensures.value c.in_default.ensures in
    let mid : Shelf = record { faults = g.S.Source.faults c.planned.new.source; given = g.S.Source.given c.planned.new.source } in
    let last : Shelf = record { faults = g.S.Source.faults c.prepare.new.source; given = g.S.Source.given c.prepare.new.source } in
    let site = c.args.site.now in
    let plan = c.in-Ok.begun.plan in
    let begins = subst (λ (d : Db). Begins site content d c.in-Ok.begun) c.db-2.ensures.value c.in-Ok.ensures.planned in
    let heads : Heads site content c.args.store.db plan = record { head = begins.head; is_of = begins.is_of; small = begins.small } in
    let same = c.in-Ok.ensures.tree in
    let ready = g.D.Device.means c.prepare.new.device in
    let new = g.D.Device.means c.drive-end.new.device in
    let loaded = ap (λ (s : Kept). s.db) c.load.ensures.takes ∙ ap Full (c.entry.ensures ∙ begins.entry) in
    let drove = subst (λ (p : Position). Drove site (begun c.args.store.db plan) false p c.drive-end.result c.drive-end.new.store ready new) c.fresh.ensures (c.drive-end.ensures.drove (begun c.args.store.db plan) loaded) in
    let filled = subst (λ (x : Content). WhereTold (λ old now. folder.Stands x (rows_of site c.in-Ok.begun.before plan) now) (g.D.Device.means c.args.device.now).work ready.work) same c.in-Ok-prepare.ensures.folder in
    subst (λ (s : Status). Did (request site content) (Some c.args.store.db) s before new shelf last) (sym c.status_after.ensures)
    (begun-by site content c.args.store before (g.D.Device.means c.args.device.now) mounted c.db.ensures.right shelf idle plan heads ready mid last c.in-Ok.ensures.counts c.in-Ok.ensures.payloads
    c.drive-end.new.store new c.drive-end.result
    (subst (λ (x : Content). When x (λ t. ReadsPayloads true t mid.given last.given)) same c.in-Ok-prepare.ensures.payloads)
    c.in-Ok-prepare.ensures.touches c.in-Ok-prepare.ensures.counts
    (subst (λ (x : Content). CopiesAll x (copied_of plan) mid.given last.given) same c.in-Ok-prepare.ensures.copied)
    (subst (λ (b : Pairs). WhereTold (λ old now. folder.Stands content (rows_of site b plan) now) (g.D.Device.means c.args.device.now).work ready.work) begins.before filled)
    c.drive-end.ensures.decided drove)
