use Rattle.std.proofs.Common.{◌≡◌, take}
use Rattle.std.specs.List.{flat_map}
use Rattle.event_text.specs.Lines.{line}
use Rattle.event_text.proofs.line.spelled.Given as goal

abbrev pub invariant-loop-event : goal.invariant-loop-event
invariant-loop-event l = l.text.items ≡ flat_map line (take l.event-index l.event-items)
