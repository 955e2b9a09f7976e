use Rattle.std.proofs.Common.{◌≤◌, length, All}
use Rattle.flow_table.specs.declared.table.TheConstants.{MOST_KINDS}
use Rattle.trace_check.specs.declared.note.Note.{Note}
use Rattle.trace_check.proofs.tests.notes.Given as goal

abbrev pub invariant-loop-boot : goal.invariant-loop-boot
invariant-loop-boot l = All (λ (note : Note). length note.head.kinds ≤ MOST_KINDS) l.notes
