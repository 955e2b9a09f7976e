use Rattle.std.proofs.Common.{Ok, Err}
use Rattle.device_model.specs.Work.{cleared}
use Rattle.device_model.specs.declared.calls.Down.TheVariants.{Off, Fault}
use Rattle.work_folder.proofs.Touched.{touches_call}
use Rattle.work_folder.proofs.append.clear.Goals as goal

pub returns-in-Ok-clause-touches : goal.returns-in-Ok-clause-touches
returns-in-Ok-clause-touches g c =
    let means = g.D.Device.means in
    touches_call {T = Unit {0}} cleared (means c.args.device.now) (Ok tt) (means c.work_clear.new.self) c.requires c.in-Ok.ensures.ends c.in-Ok.ensures.leaves

pub returns-in-Err-Off-clause-touches : goal.returns-in-Err-Off-clause-touches
returns-in-Err-Off-clause-touches g c =
    let means = g.D.Device.means in
    touches_call {T = Unit {0}} cleared (means c.args.device.now) (Err Off) (means c.work_clear.new.self) c.requires (rw c.in-Err-Off.field-0-is at c.in-Err-Off.ensures.ends) c.in-Err-Off.ensures.leaves

pub returns-in-Err-Fault-clause-touches : goal.returns-in-Err-Fault-clause-touches
returns-in-Err-Fault-clause-touches g c =
    let means = g.D.Device.means in
    touches_call {T = Unit {0}} cleared (means c.args.device.now) (Err Fault) (means c.work_clear.new.self) c.requires (rw c.in-Err-Fault.field-0-is at c.in-Err-Fault.ensures.ends) c.in-Err-Fault.ensures.leaves
