use Rattle.std.proofs.Common.{rules}
use Rattle.ab_image.specs.Mem.{mem_of, medium_of}
use Rattle.ab_image.proofs.Losing.{loses}
use Rattle.ab_image.proofs.mem_blocks.MemBlocksBlocks.sync.Goals as goal

pub returns-then-loss-clause-leaves : goal.returns-then-loss-clause-leaves
returns-then-loss-clause-leaves c = loses (medium_of (mem_of c.args.self.now)) (medium_of (mem_of c.lose.new.self)) (search rules)

pub returns-else-loss-clause-leaves : goal.returns-else-loss-clause-leaves
returns-else-loss-clause-leaves c = loses (medium_of (mem_of c.args.self.now)) (medium_of (mem_of c.sync_and_lose.new.self)) (search rules)
