use Rattle.std.proofs.Common.{◌≡◌, List, ℕ, subst}
use Rattle.std.specs.Prelude.{IfOk}
use Rattle.device_mem.specs.Mem.{mem_of}
use Rattle.device_mem.specs.MemState.{fresh}
use Rattle.device_mem.specs.Parts.{fresh_disk, fresh_work}
use Rattle.device_mem.specs.declared.device.MemDevice.{MemDevice}
use Rattle.lab.proofs.play.new_device.Goals as goal

pub returns : goal.returns
returns c = subst (λ (area : List ℕ). IfOk c.new.result (λ (m : MemDevice). mem_of m ≡ fresh (fresh_disk area) fresh_work 168001 c.args.script)) c.in_ok-zeros.ensures c.new.ensures
