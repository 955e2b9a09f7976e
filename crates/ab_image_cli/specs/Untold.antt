-- What a disk of real bytes means: it is on, and tells nothing of its area.
use Rattle.std.specs.Prelude.{ℕ, true, None}
use Rattle.ab_image.specs.Blocks.{Medium}

-- how many bytes it has, and how many calls failed
abbrev pub untold : ℕ → ℕ → Medium
untold size failed = record { size = size; on = true; disk = None; faults = failed; losses = 0 }
