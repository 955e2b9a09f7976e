-- What is answered of a tree with a transcript, and its text.
use Rattle.std.specs.Prelude.{◌≡◌, ℕ, ◌<◌, ◌≤◌, List, length, IsTrue, Some, None, ⊤}
use Rattle.upd_text.specs.Counts.{counted}
use Rattle.io_model.specs.Source.{Tree, Content, When}
use Rattle.io_model.specs.Sink.{Written, Writes, WritesFront}
use Rattle.trace_check.specs.declared.note.Note.{Note}
use Rattle.trace_check.specs.declared.verdict.Verdict.TheVariants as verdict
use Rattle.trace_check.specs.declared.check.TheConstants.{LONGEST_TRACE}
use Rattle.trace_check.specs.declared.check.TraceStatus.{TraceStatus}
use Rattle.trace_check.specs.declared.check.TraceStatus.TheVariants.{Path, NoTrace, BadLine, Broken, TooLong, SourceFault, SinkFault, NoMemory}
use Rattle.trace_check.specs.Finding.{trace_of}
use Rattle.trace_check.specs.Statuses.{status_text, is_said}
use Rattle.trace_check.specs.Reads.{AreRead, IsBadLine}
use Rattle.trace_check.specs.Verdicts.{Judged}

-- What is answered of a tree that is told.
pub data Answers (tree : Tree) : TraceStatus → Type 0 where
  no_trace : trace_of tree ≡ None → Answers tree NoTrace
  too_long : (bytes : List ℕ) → trace_of tree ≡ Some bytes → LONGEST_TRACE < length bytes → Answers tree (TooLong (length bytes))
  bad_line : (bytes : List ℕ) (k : ℕ) → trace_of tree ≡ Some bytes → length bytes ≤ LONGEST_TRACE → IsBadLine bytes k → Answers tree (BadLine k)
  is_path : (bytes : List ℕ) (notes : List Note) → trace_of tree ≡ Some bytes → length bytes ≤ LONGEST_TRACE → AreRead bytes notes → Judged notes verdict.Path → Answers tree Path
  is_broken : (bytes : List ℕ) (notes : List Note) (note event : ℕ) → trace_of tree ≡ Some bytes → length bytes ≤ LONGEST_TRACE → AreRead bytes notes → Judged notes (verdict.Broken note event) → Answers tree (Broken note event)

-- What is answered of the bytes of a transcript.
abbrev pub Weighed : List ℕ → TraceStatus → Type 0
Weighed bytes Path = (notes : List Note) × AreRead bytes notes × Judged notes verdict.Path
Weighed bytes (BadLine k) = IsBadLine bytes k
Weighed bytes (Broken note event) = (notes : List Note) × AreRead bytes notes × Judged notes (verdict.Broken note event)
Weighed bytes NoMemory = ⊤
Weighed bytes status = ⊥

-- what is answered of a tree, but that the sink failed
abbrev pub Finds : Content → TraceStatus → Type 0
Finds content SourceFault = ⊤
Finds content NoMemory = ⊤
Finds content SinkFault = ⊥
Finds content status = When content (λ tree. Answers tree status)

-- What was answered and written: an answer about the transcript and its text, or a front of it where the sink failed; else nothing.
pub data CheckedTo (content : Content) (faults faults' : ℕ) (old new : Written) : TraceStatus → Type 0 where
  said : (status : TraceStatus) → IsTrue (is_said status) → faults' ≡ faults → When content (λ tree. Answers tree status) → Writes old (status_text status) new → CheckedTo content faults faults' old new status
  cut : (meant : TraceStatus) → IsTrue (is_said meant) → faults' ≡ faults → When content (λ tree. Answers tree meant) → WritesFront old (status_text meant) new → CheckedTo content faults faults' old new SinkFault
  failed : faults' ≡ counted faults → new ≡ old → CheckedTo content faults faults' old new SourceFault
  wanting : faults' ≡ faults → new ≡ old → CheckedTo content faults faults' old new NoMemory
