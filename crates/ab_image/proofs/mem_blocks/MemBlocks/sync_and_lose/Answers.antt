use Rattle.std.proofs.Common.{rules}
use Rattle.ab_image.specs.Mem.{mem_of, medium_of}
use Rattle.ab_image.proofs.Losing.{lost_synced}
use Rattle.ab_image.proofs.mem_blocks.MemBlocks.sync_and_lose.Goals as goal

pub returns-clause-loss : goal.returns-clause-loss
returns-clause-loss c = lost_synced (medium_of (mem_of c.args.self.now)) (medium_of (mem_of c.lose.new.self)) (search rules)
