use Rattle.device_model.proofs.Writes.{write-changes}
use Rattle.slot_store.proofs.writing.write_bytes.Goals as goal

pub returns-in-Ok-clause-leaves : goal.returns-in-Ok-clause-leaves
returns-in-Ok-clause-leaves g c =
    write-changes 266240 c.args.at c.args.bytes.now c.requires.range (g.D.Device.means c.args.device.now) c.disk_write.result (g.D.Device.means c.disk_write.new.self)
    (g.met.D.Device.whole c.args.device.now) c.requires.on c.disk_write.ensures.ends

pub returns-in-Err-clause-leaves : goal.returns-in-Err-clause-leaves
returns-in-Err-clause-leaves g c =
    write-changes 266240 c.args.at c.args.bytes.now c.requires.range (g.D.Device.means c.args.device.now) c.disk_write.result (g.D.Device.means c.disk_write.new.self)
    (g.met.D.Device.whole c.args.device.now) c.requires.on c.disk_write.ensures.ends
