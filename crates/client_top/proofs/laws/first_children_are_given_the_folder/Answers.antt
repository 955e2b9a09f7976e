use Rattle.client_top.proofs.Givens.{given}
use Rattle.device_model.specs.How.{has_start}
use Rattle.client_top.proofs.laws.first_children_are_given_the_folder.Goals as goal

pub returns : goal.returns
returns c = λ asked from status old new source source_after did begins started.
    let g = did.device.given begins started in
    (g.plan, g.fits, given asked from g.plan (has_start did.events) new.on did.device.ready new.work g.files started did.device.passed.work)
