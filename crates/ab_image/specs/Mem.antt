-- What blocks in memory mean.
use Rattle.std.specs.Prelude.{Some, length}
use Rattle.device_mem.specs.Parts.{disk_of}
use Rattle.ab_image.specs.declared.mem_blocks.MemBlocks.{MemBlocks}
use Rattle.ab_image.specs.Blocks.{Medium}
use Rattle.ab_image.specs.MemBlocks.{MemState}

abbrev pub mem_of : MemBlocks → MemState
mem_of m = record { on = m.on; disk = disk_of m.disk; before = m.disk.before.items; losing = m.losing; failing = m.failing; calls = m.calls; losses = m.losses; faults = m.faults }

-- what all blocks mean
abbrev pub medium_of : MemState → Medium
medium_of m = record { size = length m.disk.area; on = m.on; disk = Some m.disk; faults = m.faults; losses = m.losses }
