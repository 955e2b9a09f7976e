-- Whom a deployment calls on a device, and how many scripts a state may start.
use Rattle.std.specs.Prelude.{ℕ, ◌+◌, length, Option, Some, None}
use Rattle.script_names.specs.declared.place.Stage.{Stage}
use Rattle.script_names.specs.declared.place.Action.{Action}
use Rattle.script_names.specs.declared.place.Action.TheVariants.{Enter, Leave, Error}
use Rattle.script_names.specs.declared.site.Site.{Site}
use Rattle.record_codec.specs.declared.entry.Entry.{Entry}
use Rattle.flow_words.specs.declared.rows.StageRun.{StageRun}
use Rattle.flow_words.specs.declared.rows.Row.{Row}
use Rattle.flow_words.specs.Words.{Callees, due_at}

-- whom a deployment calls on a device
abbrev pub callees : Site → Entry → Callees
callees site e = record { kinds = e.kinds; own = site.scripts; brought = e.scripts }

-- how many scripts are due in a step
abbrev pub runs_count : Callees → Action → Option StageRun → ℕ
runs_count who action None = 0
runs_count who action (Some r) = length (due_at who r.stage action)

abbrev pub errors_count : Callees → Option Stage → ℕ
errors_count who None = 0
errors_count who (Some stage) = length (due_at who stage Error)

-- how many scripts a state starts at the most
abbrev pub script_count : Callees → Row → ℕ
script_count who row = runs_count who Enter row.enter + runs_count who Leave row.leave + errors_count who row.error
