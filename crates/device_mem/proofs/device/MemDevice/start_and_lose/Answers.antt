use Rattle.std.proofs.Common.{rules}
use Rattle.std.specs.Prelude.{Some}
use Rattle.device_model.proofs.Keeps.{torn}
use Rattle.device_mem.specs.Parts.{work_of}
use Rattle.device_mem.proofs.device.MemDevice.start_and_lose.Goals as goal

pub returns-clause-ends : goal.returns-clause-ends
returns-clause-ends c = record { left = Some (work_of c.start.new.self); work = c.start.ensures.changes; rest = search rules; disk = c.tear.ensures.told }

pub returns-clause-leaves : goal.returns-clause-leaves
returns-clause-leaves c = torn _ _ c.tear.ensures.told
