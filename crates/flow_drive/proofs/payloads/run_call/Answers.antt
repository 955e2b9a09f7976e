use Rattle.flow_words.proofs.Reach.{child-ran}
use Rattle.flow_drive.proofs.payloads.run_call.Goals as goal

pub returns-clause-ran : goal.returns-clause-ran
returns-clause-ran g c =
    child-ran c.args.call.now c.run_child.result (g.D.Device.means c.args.device.now) (g.D.Device.means c.run_child.new.self) c.requires.on c.run_child.ensures.ends c.run_child.ensures.leaves
