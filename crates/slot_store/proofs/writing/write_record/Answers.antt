use Rattle.std.proofs.Common.{◌≡◌, ⊎_elim, ℕ, ◌-◌, [], ◌∷◌, length, take, replicate, refl}
use Rattle.std.specs.Prelude.{IfSome, IsFalse}
use Rattle.std.proofs.lemmas.List.{length-replicate}
use Rattle.device_model.specs.Disk.{ChangesOnly, IsTold}
use Rattle.device_model.specs.State.{State, after_write, after_sync}
use Rattle.slot_store.specs.Slots.{picked_slot, slot_start, cells_start}
use Rattle.slot_store.specs.Mount.{is_old}
use Rattle.slot_store.specs.Put.{Holds}
use Rattle.slot_store.specs.Written.{HasFresh}
use Rattle.slot_store.proofs.Disks.{on-ok}
use Rattle.slot_store.proofs.Records.{staged-cut, staged-both, staged-is, record-cut, record-turns, record-holds, record-version, cut-spares, all-spares, has-fresh}
use Rattle.slot_store.proofs.writing.write_record.Goals as goal

pub returns-in-Err-clause-turns : goal.returns-in-Err-clause-turns
returns-in-Err-clause-turns g c =
    let old = g.D.Device.means c.args.device.now in
    let new = g.D.Device.means c.write_bytes.new.device in
    let bytes = take c.encode_into-size.result c.encode_into-size.new.into in
    record-cut c.args.picked c.requires.picked c.args.entry.now c.requires.storable c.encode_into-size.new.into _ c.encode_into-size.result c.encode_into-size.ensures.written c.encode_into-size.ensures.length old.disk new.disk c.requires.is_picked
    (staged-cut (1 - c.args.picked) c.start_of.result (length bytes) old.disk new.disk c.start_of.ensures.start c.write_bytes.ensures.leaves)

pub returns-in-Err-clause-spares : goal.returns-in-Err-clause-spares
returns-in-Err-clause-spares g c =
    let old = g.D.Device.means c.args.device.now in
    let new = g.D.Device.means c.write_bytes.new.device in
    let bytes = take c.encode_into-size.result c.encode_into-size.new.into in
    cut-spares c.args.picked c.requires.picked c.args.entry.now c.requires.storable c.encode_into-size.new.into _ c.encode_into-size.result c.encode_into-size.ensures.written c.encode_into-size.ensures.length old.disk new.disk c.requires.is_picked c.write_bytes.ensures.wrote.told (g.met.D.Device.whole c.write_bytes.new.device)
    (staged-cut (1 - c.args.picked) c.start_of.result (length bytes) old.disk new.disk c.start_of.ensures.start c.write_bytes.ensures.leaves)

pub returns-clause-turns : goal.returns-clause-turns
returns-clause-turns g c =
    let old = g.D.Device.means c.args.device.now in
    let first = g.D.Device.means c.write_bytes.new.device in
    let new = g.D.Device.means c.write_and_pick.new.device in
    let other = 1 - c.args.picked in
    let bytes = take c.encode_into-size.result c.encode_into-size.new.into in
    let mid : State = after_sync (after_write c.cells_of.result (replicate {A = ℕ} 192 0) first) in
    let is : mid ≡ after_sync (after_write (cells_start other) (replicate 192 0) (after_write (slot_start other) bytes old)) = staged-is other c.start_of.result c.cells_of.result bytes old first mid c.start_of.ensures.start c.cells_of.ensures.start c.in-Ok.ensures.ok refl in
    ⊎_elim
    (λ (k : ChangesOnly c.cells_of.result (length (replicate {A = ℕ} 192 0)) first.disk new.disk). record-cut c.args.picked c.requires.picked c.args.entry.now c.requires.storable c.encode_into-size.new.into _ c.encode_into-size.result c.encode_into-size.ensures.written c.encode_into-size.ensures.length old.disk new.disk c.requires.is_picked (staged-both other c.start_of.result c.cells_of.result (length bytes) (length (replicate {A = ℕ} 192 0)) old.disk first.disk new.disk c.start_of.ensures.start c.cells_of.ensures.start (length-replicate {A = ℕ} 192 0) c.write_bytes.ensures.leaves k))
    (λ (k : ChangesOnly c.cells_of.result (length (replicate {A = ℕ} 192 0)) first.disk mid.disk × ChangesOnly 0 1 mid.disk new.disk). record-turns c.args.picked c.requires.picked c.args.entry.now c.requires.storable c.encode_into-size.new.into _ c.encode_into-size.result c.encode_into-size.ensures.written c.encode_into-size.ensures.length old mid new.disk (g.met.D.Device.whole c.args.device.now) c.requires.is_picked is k.1)
    c.write_and_pick.ensures.leaves

pub returns-clause-spares : goal.returns-clause-spares
returns-clause-spares g c =
    let old = g.D.Device.means c.args.device.now in
    let first = g.D.Device.means c.write_bytes.new.device in
    let new = g.D.Device.means c.write_and_pick.new.device in
    let other = 1 - c.args.picked in
    let bytes = take c.encode_into-size.result c.encode_into-size.new.into in
    let mid : State = after_sync (after_write c.cells_of.result (replicate {A = ℕ} 192 0) first) in
    let told : IsTold old.disk → IsTold new.disk = λ t. c.write_and_pick.ensures.wrote.told (c.write_bytes.ensures.wrote.told t) in
    let whole = g.met.D.Device.whole c.write_and_pick.new.device in
    ⊎_elim
    (λ (k : ChangesOnly c.cells_of.result (length (replicate {A = ℕ} 192 0)) first.disk new.disk). cut-spares c.args.picked c.requires.picked c.args.entry.now c.requires.storable c.encode_into-size.new.into _ c.encode_into-size.result c.encode_into-size.ensures.written c.encode_into-size.ensures.length old.disk new.disk c.requires.is_picked told whole (staged-both other c.start_of.result c.cells_of.result (length bytes) (length (replicate {A = ℕ} 192 0)) old.disk first.disk new.disk c.start_of.ensures.start c.cells_of.ensures.start (length-replicate {A = ℕ} 192 0) c.write_bytes.ensures.leaves k))
    (λ (k : ChangesOnly c.cells_of.result (length (replicate {A = ℕ} 192 0)) first.disk mid.disk × ChangesOnly 0 1 mid.disk new.disk). all-spares c.args.picked c.requires.picked c.args.entry.now c.requires.storable c.encode_into-size.new.into _ c.encode_into-size.result c.encode_into-size.ensures.written c.encode_into-size.ensures.length old.disk mid.disk new.disk c.requires.is_picked told whole (staged-both other c.start_of.result c.cells_of.result (length bytes) (length (replicate {A = ℕ} 192 0)) old.disk first.disk mid.disk c.start_of.ensures.start c.cells_of.ensures.start (length-replicate {A = ℕ} 192 0) c.write_bytes.ensures.leaves k.0) k.1)
    c.write_and_pick.ensures.leaves

pub returns-clause-ok : goal.returns-clause-ok
returns-clause-ok g c =
    let old = g.D.Device.means c.args.device.now in
    let first = g.D.Device.means c.write_bytes.new.device in
    let new = g.D.Device.means c.write_and_pick.new.device in
    let other = 1 - c.args.picked in
    let bytes = take c.encode_into-size.result c.encode_into-size.new.into in
    let mid : State = after_sync (after_write c.cells_of.result (replicate {A = ℕ} 192 0) first) in
    let is : mid ≡ after_sync (after_write (cells_start other) (replicate 192 0) (after_write (slot_start other) bytes old)) = staged-is other c.start_of.result c.cells_of.result bytes old first mid c.start_of.ensures.start c.cells_of.ensures.start c.in-Ok.ensures.ok refl in
    on-ok c.write_and_pick.result (new ≡ after_sync (after_write 0 (other ∷ []) mid)) (IfSome new.disk (Holds c.args.entry.now other 0))
    (record-holds c.args.picked c.requires.picked c.args.entry.now c.requires.storable c.encode_into-size.new.into _ c.encode_into-size.result c.encode_into-size.ensures.written c.encode_into-size.ensures.length old mid new (g.met.D.Device.whole c.args.device.now) is)
    c.write_and_pick.ensures.ok

pub returns-clause-version : goal.returns-clause-version
returns-clause-version g c =
    let old = g.D.Device.means c.args.device.now in
    let first = g.D.Device.means c.write_bytes.new.device in
    let new = g.D.Device.means c.write_and_pick.new.device in
    let other = 1 - c.args.picked in
    let bytes = take c.encode_into-size.result c.encode_into-size.new.into in
    let mid : State = after_sync (after_write c.cells_of.result (replicate {A = ℕ} 192 0) first) in
    let is : mid ≡ after_sync (after_write (cells_start other) (replicate 192 0) (after_write (slot_start other) bytes old)) = staged-is other c.start_of.result c.cells_of.result bytes old first mid c.start_of.ensures.start c.cells_of.ensures.start c.in-Ok.ensures.ok refl in
    on-ok c.write_and_pick.result (new ≡ after_sync (after_write 0 (other ∷ []) mid)) (IfSome new.disk (λ d. IsFalse (is_old (picked_slot d.area))))
    (record-version c.args.picked c.requires.picked c.args.entry.now c.requires.storable c.encode_into-size.new.into _ c.encode_into-size.result c.encode_into-size.ensures.written c.encode_into-size.ensures.length old mid new (g.met.D.Device.whole c.args.device.now) is)
    c.write_and_pick.ensures.ok

pub returns-clause-fresh : goal.returns-clause-fresh
returns-clause-fresh g c =
    let old = g.D.Device.means c.args.device.now in
    let first = g.D.Device.means c.write_bytes.new.device in
    let new = g.D.Device.means c.write_and_pick.new.device in
    let other = 1 - c.args.picked in
    let bytes = take c.encode_into-size.result c.encode_into-size.new.into in
    let mid : State = after_sync (after_write c.cells_of.result (replicate {A = ℕ} 192 0) first) in
    let is : mid ≡ after_sync (after_write (cells_start other) (replicate 192 0) (after_write (slot_start other) bytes old)) = staged-is other c.start_of.result c.cells_of.result bytes old first mid c.start_of.ensures.start c.cells_of.ensures.start c.in-Ok.ensures.ok refl in
    on-ok c.write_and_pick.result (new ≡ after_sync (after_write 0 (other ∷ []) mid)) (IfSome new.disk (λ d. HasFresh c.args.entry.now other d.area))
    (has-fresh c.args.picked c.requires.picked c.args.entry.now c.requires.storable c.encode_into-size.new.into _ c.encode_into-size.result c.encode_into-size.ensures.written c.encode_into-size.ensures.length old mid new (g.met.D.Device.whole c.args.device.now) is)
    c.write_and_pick.ensures.ok
