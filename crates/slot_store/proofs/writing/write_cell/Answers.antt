use Rattle.std.proofs.Common.{◌≡◌, ⊎_elim, ◌+◌, ◌-◌, [], ◌∷◌, length, refl}
use Rattle.std.specs.Prelude.{IfSome}
use Rattle.device_model.specs.Disk.{ChangesOnly}
use Rattle.device_model.specs.State.{State, after_write, after_sync}
use Rattle.slot_store.specs.Put.{Holds}
use Rattle.slot_store.specs.Written.{HasCell}
use Rattle.slot_store.proofs.Disks.{on-ok}
use Rattle.slot_store.proofs.Cells.{cell-cut, cell-turns, cell-holds, cut-slots, all-slots, cut-spares, all-spares, has-cell}
use Rattle.slot_store.proofs.writing.write_cell.Goals as goal

pub returns-clause-turns : goal.returns-clause-turns
returns-clause-turns g c = λ e has.
    let old = g.D.Device.means c.args.device.now in
    let new = (g.D.Device.means c.write_and_pick.new.device).disk in
    let at = c.cells_of-start.result + c.offset_of.result in
    let mid : State = after_sync (after_write at c.encode_cell.result old) in
    ⊎_elim
    (λ (k : ChangesOnly at (length c.encode_cell.result) old.disk new). cell-cut c.args.picked c.args.cell c.requires.picked c.requires.cell c.args.position.now c.requires.valid c.encode_cell.result c.encode_cell.ensures c.cells_of-start.result c.offset_of.result c.cells_of-start.ensures.start c.offset_of.ensures.offset (record e { position = c.args.position.now }) old.disk new c.requires.is_picked k)
    (λ (k : ChangesOnly at (length c.encode_cell.result) old.disk mid.disk × ChangesOnly c.cells_of-start.result 1 mid.disk new). cell-turns c.args.picked c.args.cell c.requires.picked c.requires.cell c.args.position.now c.requires.valid c.encode_cell.result c.encode_cell.ensures c.cells_of-start.result c.offset_of.result c.cells_of-start.ensures.start c.offset_of.ensures.offset e old mid new (g.met.D.Device.whole c.args.device.now) c.requires.is_picked has refl k.1)
    c.write_and_pick.ensures.leaves

pub returns-clause-slots : goal.returns-clause-slots
returns-clause-slots g c =
    let old = g.D.Device.means c.args.device.now in
    let new = (g.D.Device.means c.write_and_pick.new.device).disk in
    let at = c.cells_of-start.result + c.offset_of.result in
    let mid : State = after_sync (after_write at c.encode_cell.result old) in
    ⊎_elim
    (λ (k : ChangesOnly at (length c.encode_cell.result) old.disk new). cut-slots c.args.picked c.args.cell c.requires.picked c.requires.cell c.args.position.now c.requires.valid c.encode_cell.result c.encode_cell.ensures c.cells_of-start.result c.offset_of.result c.cells_of-start.ensures.start c.offset_of.ensures.offset old.disk new c.requires.is_picked c.write_and_pick.ensures.wrote.told (g.met.D.Device.whole c.write_and_pick.new.device) k)
    (λ (k : ChangesOnly at (length c.encode_cell.result) old.disk mid.disk × ChangesOnly c.cells_of-start.result 1 mid.disk new). all-slots c.args.picked c.args.cell c.requires.picked c.requires.cell c.args.position.now c.requires.valid c.encode_cell.result c.encode_cell.ensures c.cells_of-start.result c.offset_of.result c.cells_of-start.ensures.start c.offset_of.ensures.offset old.disk mid.disk new c.requires.is_picked c.write_and_pick.ensures.wrote.told (g.met.D.Device.whole c.write_and_pick.new.device) k.0 k.1)
    c.write_and_pick.ensures.leaves

pub returns-clause-spares : goal.returns-clause-spares
returns-clause-spares g c =
    let old = g.D.Device.means c.args.device.now in
    let new = (g.D.Device.means c.write_and_pick.new.device).disk in
    let at = c.cells_of-start.result + c.offset_of.result in
    let mid : State = after_sync (after_write at c.encode_cell.result old) in
    ⊎_elim
    (λ (k : ChangesOnly at (length c.encode_cell.result) old.disk new). cut-spares c.args.picked c.args.cell c.requires.picked c.requires.cell c.args.position.now c.requires.valid c.encode_cell.result c.encode_cell.ensures c.cells_of-start.result c.offset_of.result c.cells_of-start.ensures.start c.offset_of.ensures.offset old.disk new c.requires.is_picked c.write_and_pick.ensures.wrote.told (g.met.D.Device.whole c.write_and_pick.new.device) k)
    (λ (k : ChangesOnly at (length c.encode_cell.result) old.disk mid.disk × ChangesOnly c.cells_of-start.result 1 mid.disk new). all-spares c.args.picked c.args.cell c.requires.picked c.requires.cell c.args.position.now c.requires.valid c.encode_cell.result c.encode_cell.ensures c.cells_of-start.result c.offset_of.result c.cells_of-start.ensures.start c.offset_of.ensures.offset old.disk mid.disk new c.requires.is_picked c.write_and_pick.ensures.wrote.told (g.met.D.Device.whole c.write_and_pick.new.device) k.0 k.1)
    c.write_and_pick.ensures.leaves

pub returns-clause-ok : goal.returns-clause-ok
returns-clause-ok g c = λ e has.
    let old = g.D.Device.means c.args.device.now in
    let new = g.D.Device.means c.write_and_pick.new.device in
    let mid : State = after_sync (after_write (c.cells_of-start.result + c.offset_of.result) c.encode_cell.result old) in
    on-ok c.write_and_pick.result (new ≡ after_sync (after_write c.cells_of-start.result ((1 - c.args.cell) ∷ []) mid)) (IfSome new.disk (Holds (record e { position = c.args.position.now }) c.args.picked (1 - c.args.cell)))
    (cell-holds c.args.picked c.args.cell c.requires.picked c.requires.cell c.args.position.now c.requires.valid c.encode_cell.result c.encode_cell.ensures c.cells_of-start.result c.offset_of.result c.cells_of-start.ensures.start c.offset_of.ensures.offset e old mid new (g.met.D.Device.whole c.args.device.now) c.requires.is_picked has refl)
    c.write_and_pick.ensures.ok

pub returns-clause-written : goal.returns-clause-written
returns-clause-written g c =
    let old = g.D.Device.means c.args.device.now in
    let new = g.D.Device.means c.write_and_pick.new.device in
    let mid : State = after_sync (after_write (c.cells_of-start.result + c.offset_of.result) c.encode_cell.result old) in
    on-ok c.write_and_pick.result (new ≡ after_sync (after_write c.cells_of-start.result ((1 - c.args.cell) ∷ []) mid)) (IfSome new.disk (λ d. HasCell c.args.position.now c.args.picked (1 - c.args.cell) d.area))
    (has-cell c.args.picked c.args.cell c.requires.picked c.requires.cell c.args.position.now c.requires.valid c.encode_cell.result c.encode_cell.ensures c.cells_of-start.result c.offset_of.result c.cells_of-start.ensures.start c.offset_of.ensures.offset old mid new (g.met.D.Device.whole c.args.device.now) refl)
    c.write_and_pick.ensures.ok
