use Rattle.client_top.proofs.Boots.{follows}
use Rattle.device_model.specs.Disk.{area_of}
use Rattle.client_top.proofs.laws.boots_follow_one_another.Goals as goal

pub returns : goal.returns
returns c = λ asked from status old new source source_after did told d may. follows asked from (area_of old.disk) status did.events old.disk d did.answer.due.rests did.database.path (did.database.came told d may)
