use Rattle.std.proofs.Common.{◌≤◌, length, All, sym, subst}
use Rattle.std.proofs.lemmas.List.Elements.{All-push}
use Rattle.flow_table.specs.declared.table.TheConstants.{MOST_KINDS}
use Rattle.trace_check.specs.declared.note.Note.{Note}
use Rattle.trace_check.proofs.tests.notes.Goals as goal

abbrev Few : Note → Type 0
Few note = length note.head.kinds ≤ MOST_KINDS

pub loop-boot-preserved : goal.loop-boot-preserved
loop-boot-preserved c =
    subst (All Few) (sym c.in_ok-push.ensures.ok)
    (All-push Few c.loop-boot.notes c.in_ok-note.field-0 c.loop-boot.invariant c.in_ok-note.ensures)
