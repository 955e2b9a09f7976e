-- What is answered of a tree.
use Rattle.std.proofs.Common.{◌≡◌, ℕ, ◌≤◌, true, false, List, length, refl, sym, subst}
use Rattle.std.specs.Prelude.{Option, Some, None, Result, Ok, Err, IfErr}
use Rattle.io_model.specs.Source.{Content, When, bytes_at}
use Rattle.io_model.specs.Source.Content.{Told, Untold}
use Rattle.io_model.specs.Sink.{Written, Writes, WritesFront}
use Rattle.trace_check.specs.declared.check.TheConstants.{LONGEST_TRACE}
use Rattle.trace_check.specs.declared.check.TraceStatus.{TraceStatus}
use Rattle.trace_check.specs.declared.check.TraceStatus.TheVariants.{Path, NoTrace, BadLine, Broken, TooLong, SourceFault, SinkFault, NoMemory}
use Rattle.trace_check.specs.Finding.{trace_of, IsTrace, IsLong, faults_after}
use Rattle.trace_check.specs.Statuses.{status_text, is_said}
use Rattle.trace_check.specs.Checked.{Answers, no_trace, too_long, bad_line, is_path, is_broken, Weighed, Finds, CheckedTo, said, cut, failed, wanting}

pub none-finds : (content : Content) → When content (λ tree. IsTrace tree None) → Finds content NoTrace
none-finds (Told tree) none = no_trace none
none-finds (Untold n) none = tt

pub long-finds : (content : Content) (i : ℕ) (status : TraceStatus) → IsLong content i status → When content (λ tree. IsTrace tree (Some i)) → Finds content status
long-finds (Told tree) i (TooLong size) long found = subst (λ (n : ℕ). Answers tree (TooLong n)) (sym long.0) (too_long (bytes_at tree i) found long.1)
long-finds (Untold n) i (TooLong size) long found = tt
long-finds content i SourceFault long found = tt
long-finds content i NoMemory long found = tt
long-finds content i SinkFault long found = long
long-finds content i Path long found = absurd long
long-finds content i NoTrace long found = absurd long
long-finds content i (BadLine k) long found = absurd long
long-finds content i (Broken note event) long found = absurd long

-- the file that was found wasn't read
pub file-finds : {T : Type 0} (content mid : Content) (found : Option ℕ) (i : ℕ) (r : Result T TraceStatus) → mid ≡ content → found ≡ Some i → When content (λ tree. IsTrace tree found) → IfErr r (λ status. IsLong mid i status) → IfErr r (λ status. Finds content status)
file-finds content mid found i (Ok x) same is there long = tt
file-finds content mid found i (Err status) same is there long =
    long-finds content i status (subst (λ (c : Content). IsLong c i status) same long) (subst (λ (o : Option ℕ). When content (λ tree. IsTrace tree o)) is there)

pub weighed-finds : (content : Content) (bytes : List ℕ) (status : TraceStatus) → When content (λ tree. trace_of tree ≡ Some bytes) → length bytes ≤ LONGEST_TRACE → Weighed bytes status → Finds content status
weighed-finds (Told tree) bytes Path found few w = is_path bytes w.0 found few w.1 w.2
weighed-finds (Told tree) bytes (BadLine k) found few w = bad_line bytes k found few w
weighed-finds (Told tree) bytes (Broken note event) found few w = is_broken bytes w.0 note event found few w.1 w.2
weighed-finds (Untold n) bytes Path found few w = tt
weighed-finds (Untold n) bytes (BadLine k) found few w = tt
weighed-finds (Untold n) bytes (Broken note event) found few w = tt
weighed-finds content bytes NoMemory found few w = tt
weighed-finds content bytes NoTrace found few w = absurd w
weighed-finds content bytes (TooLong size) found few w = absurd w
weighed-finds content bytes SourceFault found few w = absurd w
weighed-finds content bytes SinkFault found few w = w

module _ (content : Content) (faults new_faults : ℕ) (old new : Written) where
  pub unsaid-checked : (status : TraceStatus) → is_said status ≡ false → Finds content status → new_faults ≡ faults_after faults status → CheckedTo content faults new_faults old old status
  unsaid-checked SourceFault is finds count = failed count refl
  unsaid-checked NoMemory is finds count = wanting count refl
  unsaid-checked SinkFault is finds count = absurd finds
  unsaid-checked Path is finds count = cc
  unsaid-checked NoTrace is finds count = cc
  unsaid-checked (BadLine k) is finds count = cc
  unsaid-checked (Broken note event) is finds count = cc
  unsaid-checked (TooLong size) is finds count = cc

  pub said-checked : (status : TraceStatus) → is_said status ≡ true → Finds content status → new_faults ≡ faults_after faults status → Writes old (status_text status) new → CheckedTo content faults new_faults old new status
  said-checked Path is finds count writes = said Path is count finds writes
  said-checked NoTrace is finds count writes = said NoTrace is count finds writes
  said-checked (BadLine k) is finds count writes = said (BadLine k) is count finds writes
  said-checked (Broken note event) is finds count writes = said (Broken note event) is count finds writes
  said-checked (TooLong size) is finds count writes = said (TooLong size) is count finds writes
  said-checked SourceFault is finds count writes = cc
  said-checked NoMemory is finds count writes = cc
  said-checked SinkFault is finds count writes = cc

  pub cut-checked : (status : TraceStatus) → is_said status ≡ true → Finds content status → new_faults ≡ faults_after faults status → WritesFront old (status_text status) new → CheckedTo content faults new_faults old new SinkFault
  cut-checked Path is finds count writes = cut Path is count finds writes
  cut-checked NoTrace is finds count writes = cut NoTrace is count finds writes
  cut-checked (BadLine k) is finds count writes = cut (BadLine k) is count finds writes
  cut-checked (Broken note event) is finds count writes = cut (Broken note event) is count finds writes
  cut-checked (TooLong size) is finds count writes = cut (TooLong size) is count finds writes
  cut-checked SourceFault is finds count writes = cc
  cut-checked NoMemory is finds count writes = cc
  cut-checked SinkFault is finds count writes = cc
