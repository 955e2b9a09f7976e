use Rattle.std.proofs.Common.{rules}
use Rattle.device_model.proofs.Keeps.{loses}
use Rattle.device_mem.specs.Mem.{state_of}
use Rattle.device_mem.proofs.Losing.{lost_synced}
use Rattle.device_mem.proofs.device.MemDevice.sync_and_lose.Goals as goal

pub returns-clause-loss : goal.returns-clause-loss
returns-clause-loss c = lost_synced _ _ (search rules)

pub returns-clause-leaves : goal.returns-clause-leaves
returns-clause-leaves c = loses (state_of c.args.self.now) (state_of c.lose.new.self) (lost_synced _ _ (search rules))
