use Rattle.std.proofs.Common.{ℕ, List, subst}
use Rattle.device_model.specs.declared.calls.Call.TheVariants.{Script}
use Rattle.device_model.specs.State.{EndsChild}
use Rattle.flow_words.proofs.Reach.{child-ran}
use Rattle.script_runs.proofs.run.try_script.Goals as goal

pub returns-clause-ran : goal.returns-clause-ran
returns-clause-ran g c =
    let old = g.D.Device.means c.args.device.now in
    let new = g.D.Device.means c.run_child.new.self in
    child-ran (Script c.args.name.now) c.run_child.result old new c.requires.on
    (subst (λ (n : List ℕ). EndsChild (Script n) old c.run_child.result new) c.twin.ensures c.run_child.ensures.ends) c.run_child.ensures.leaves
