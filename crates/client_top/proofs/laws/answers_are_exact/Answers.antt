use Rattle.client_top.proofs.Boots.{exact}
use Rattle.device_model.specs.Disk.{area_of}
use Rattle.client_top.proofs.laws.answers_are_exact.Goals as goal

pub returns : goal.returns
returns c = λ asked from status due old new source source_after did is. exact asked from (area_of old.disk) did.events did.database.path.0 status due did.answer.due.rests did.database.path.1 is
