use Rattle.slot_store.proofs.Mounts.{migrated}
use Rattle.slot_store.proofs.store.Store.mount.Goals as goal

pub returns-in-Ok-put_record-clause-adds : goal.returns-in-Ok-put_record-clause-adds
returns-in-Ok-put_record-clause-adds g c =
    migrated c.in-Ok.read.0 (g.D.Device.means c.args.device.now) (g.D.Device.means c.read.new.device) (g.D.Device.means c.put_record.new.device) c.in-Ok.ensures.waited c.in-Ok.ensures.ends.0 c.put_record.ensures.any c.put_record.ensures.sound

pub returns-in-Err-Off-clause-adds : goal.returns-in-Err-Off-clause-adds
returns-in-Err-Off-clause-adds g c =
    migrated c.in-Ok.read.0 (g.D.Device.means c.args.device.now) (g.D.Device.means c.read.new.device) (g.D.Device.means c.put_record.new.device) c.in-Ok.ensures.waited c.in-Ok.ensures.ends.0 c.put_record.ensures.any c.put_record.ensures.sound

pub returns-clause-adds : goal.returns-clause-adds
returns-clause-adds g c =
    migrated c.in-Ok.read.0 (g.D.Device.means c.args.device.now) (g.D.Device.means c.read.new.device) (g.D.Device.means c.put_record.new.device) c.in-Ok.ensures.waited c.in-Ok.ensures.ends.0 c.put_record.ensures.any c.put_record.ensures.sound
