use Rattle.std.proofs.Common.{rules, refl}
use Rattle.ab_image.specs.Mem.{mem_of, medium_of}
use Rattle.ab_image.proofs.Losing.{lost_written}
use Rattle.ab_image.proofs.mem_blocks.MemBlocks.write_and_lose.Goals as goal

pub returns-clause-loss : goal.returns-clause-loss
returns-clause-loss c = let m = c.args.self.now in lost_written c.args.at c.args.bytes.now (medium_of (mem_of m)) (medium_of (mem_of c.lose.new.self)) c.requires.range (record { size = refl; bytes = m.disk.bytes; flags = m.disk.unsynced_is }) (search rules)
