use Rattle.std.proofs.Common.{◌≡◌, ◌≤◌, ◌<◌, ◌+◌, length, List, []}
use Rattle.trace_check.specs.declared.note.Note.{Note}
use Rattle.trace_check.specs.Weighing.{Knows}
use Rattle.trace_check.proofs.Whole.{SoFar}
use Rattle.trace_check.proofs.weigh.weigh.Given as goal

abbrev pub invariant-lines : goal.invariant-lines
invariant-lines l = record {
  so_far : (notes : List Note) × SoFar l.fn.text (l.stage, notes) l.rest l.number × Knows notes l.front;
  few : l.number + length l.rest ≤ length l.fn.text + 1;
  count : l.front.count < l.number;
  none : l.ended ≡ [];
}

abbrev pub decreases-lines : goal.decreases-lines
decreases-lines l = length l.rest
