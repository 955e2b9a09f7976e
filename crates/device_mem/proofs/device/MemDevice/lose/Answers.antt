use Rattle.device_model.proofs.Keeps.{torn}
use Rattle.device_mem.proofs.device.MemDevice.lose.Goals as goal

pub returns-clause-leaves : goal.returns-clause-leaves
returns-clause-leaves c = torn _ _ c.tear.ensures.told
