use Rattle.std.proofs.Common.{◌≤◌, ◌+◌, length}
use Rattle.trace_check.proofs.Whole.{SoFar}
use Rattle.trace_check.proofs.notes.read_notes.Given as goal

abbrev pub invariant-lines : goal.invariant-lines
invariant-lines l = record {
  so_far : SoFar l.fn.text (l.stage, l.notes) l.rest l.number;
  few : l.number + length l.rest ≤ length l.fn.text + 1;
}

abbrev pub decreases-lines : goal.decreases-lines
decreases-lines l = length l.rest
