-- What a place of real files means: it is on, and tells nothing of its contents.
use Rattle.std.specs.Prelude.{ℕ, Bool, true, false, None}
use Rattle.file_module.specs.Contents.{Contents}

-- whether the fresh content is settled, and how many calls failed
abbrev pub untold : Bool → ℕ → Contents
untold settled failed = record { on = true; told = false; regular = true; target = None; saved = None; fresh = None; settled = settled; faults = failed; losses = 0 }
