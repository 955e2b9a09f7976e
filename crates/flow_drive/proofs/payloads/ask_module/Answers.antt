use Rattle.device_model.specs.declared.calls.Call.TheVariants.{Ask}
use Rattle.flow_words.proofs.Reach.{child-asked}
use Rattle.flow_drive.proofs.payloads.ask_module.Goals as goal

pub returns-clause-ran : goal.returns-clause-ran
returns-clause-ran g c =
    child-asked (Ask c.args.payload c.args.kind.now c.args.query) c.ask_child.result (g.D.Device.means c.args.device.now) (g.D.Device.means c.ask_child.new.self) c.requires.on c.ask_child.ensures.ends c.ask_child.ensures.leaves
