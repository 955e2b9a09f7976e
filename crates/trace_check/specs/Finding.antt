-- The transcript of a tree.
use Rattle.std.specs.Prelude.{◌≡◌, ℕ, ◌<◌, if◌then◌else◌, Bool, false, List, [], ◌∷◌, length, codes, Option, Some, None, Result, Ok, Err, ⊤}
use Rattle.std.specs.Str.{bytes_eq}
use Rattle.io_model.specs.Source.{Tree, Content, When, bytes_at}
use Rattle.upd_text.specs.Counts.{counted}
use Rattle.trace_check.specs.declared.check.TheConstants.{LONGEST_TRACE}
use Rattle.trace_check.specs.declared.check.TraceStatus.{TraceStatus}
use Rattle.trace_check.specs.declared.check.TraceStatus.TheVariants.{TooLong, SourceFault, NoMemory}

abbrev pub is_trace : Option (List ℕ) → Bool
is_trace None = false
is_trace (Some path) = bytes_eq path (codes "trace")

-- the bytes of the first file of that name
abbrev pub trace_of : Tree → Option (List ℕ)
trace_of [] = None
trace_of (file ∷ tree) = if is_trace file.0 then Some file.1 else trace_of tree

-- it is the file with this number, or there is none
abbrev pub IsTrace : Tree → Option ℕ → Type 0
IsTrace tree None = trace_of tree ≡ None
IsTrace tree (Some i) = trace_of tree ≡ Some (bytes_at tree i)

-- ---- what is answered where it isn't read

abbrev pub faults_after : ℕ → TraceStatus → ℕ
faults_after old SourceFault = counted old
faults_after old status = old

abbrev pub Stops : {T : Type 0} → ℕ → Result T TraceStatus → ℕ → Type 0
Stops old (Ok x) new = new ≡ old
Stops old (Err stop) new = new ≡ faults_after old stop

-- the file has more bytes than are read
abbrev pub IsLong : Content → ℕ → TraceStatus → Type 0
IsLong content i (TooLong size) = When content (λ tree. (size ≡ length (bytes_at tree i)) × (LONGEST_TRACE < length (bytes_at tree i)))
IsLong content i SourceFault = ⊤
IsLong content i NoMemory = ⊤
IsLong content i status = ⊥
