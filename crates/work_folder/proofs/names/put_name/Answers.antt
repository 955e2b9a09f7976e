use Rattle.std.proofs.Common.{[], ◌∷◌}
use Rattle.device_model.specs.declared.calls.Part.TheVariants.{Tree}
use Rattle.device_model.proofs.Appends.{after_work-twice}
use Rattle.work_folder.proofs.names.put_name.Goals as goal

pub returns-clause-done : goal.returns-clause-done
returns-clause-done g c =
    let means = g.D.Device.means in
    after_work-twice (Tree c.args.k) c.args.path.now (10 ∷ []) c.args.name.now (means c.args.device.now) (means c.append.new.device) (means c.append-2.new.device) c.in_ok-append.ensures.done c.in_ok-append-2.ensures.done
