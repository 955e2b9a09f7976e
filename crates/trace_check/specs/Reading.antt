-- How far events go along a course.
use Rattle.std.specs.Prelude.{ℕ, ◌+◌, ◌==◌, ◌&&◌, Bool, true, false, if◌then◌else◌, List, Option, Some, None, Result, Ok, Err}
use Rattle.std.specs.List.{slice_get}
use Rattle.std.specs.Str.{bytes_eq}
use Rattle.device_model.specs.declared.calls.Answer.{Answer}
use Rattle.device_model.specs.declared.calls.Answer.TheVariants.{Exit, Reply, NotStarted}
use Rattle.device_model.specs.declared.calls.Call.{Call}
use Rattle.device_model.specs.declared.calls.Call.TheVariants.{Module, Ask, Script, SystemReboot}
use Rattle.device_model.specs.declared.calls.Event.{Event}
use Rattle.device_model.specs.declared.calls.Event.TheVariants.{Start, End, Pause, Loss}
use Rattle.device_model.specs.declared.calls.ModState.{ModState}
use Rattle.device_model.specs.declared.calls.ModState.TheVariants as mod_state
use Rattle.device_model.specs.declared.calls.Query.{Query}
use Rattle.device_model.specs.declared.calls.Query.TheVariants.{SupportsRollback, NeedsArtifactReboot}
use Rattle.flow_words.specs.Course.{Course, done, say, hear}
use Rattle.trace_check.specs.declared.read.Stop.{Stop}
use Rattle.trace_check.specs.declared.read.Stop.TheVariants.{Cut, Wrong}

-- ---- whether two events are the same

abbrev pub state_number : ModState → ℕ
state_number mod_state.Download = 0
state_number mod_state.ArtifactInstall = 1
state_number mod_state.ArtifactReboot = 2
state_number mod_state.ArtifactVerifyReboot = 3
state_number mod_state.ArtifactCommit = 4
state_number mod_state.ArtifactRollback = 5
state_number mod_state.ArtifactRollbackReboot = 6
state_number mod_state.ArtifactVerifyRollbackReboot = 7
state_number mod_state.ArtifactFailure = 8
state_number mod_state.Cleanup = 9

abbrev pub query_number : Query → ℕ
query_number SupportsRollback = 0
query_number NeedsArtifactReboot = 1

abbrev pub same_call : Call → Call → Bool
same_call (Module k kind s) (Module j other r) = (k == j) && (bytes_eq kind other && (state_number s == state_number r))
same_call (Ask k kind q) (Ask j other r) = (k == j) && (bytes_eq kind other && (query_number q == query_number r))
same_call (Script name) (Script other) = bytes_eq name other
same_call SystemReboot SystemReboot = true
same_call c d = false

abbrev pub same_answer : Answer → Answer → Bool
same_answer (Exit code) (Exit other) = code == other
same_answer (Reply code text) (Reply other told) = (code == other) && bytes_eq text told
same_answer NotStarted NotStarted = true
same_answer a b = false

abbrev pub same_event : Event → Event → Bool
same_event (Start c) (Start d) = same_call c d
same_event (End a) (End b) = same_answer a b
same_event (Pause n) (Pause m) = n == m
same_event Loss Loss = true
same_event d e = false

-- ---- reading

-- What comes of reading events along a course: its result and the index behind it, or why they aren't all of it.
abbrev pub Read : Type 0 → Type 0
Read A = Result (A × ℕ) Stop

-- the event that has to come is there, and the rest follows
abbrev pub said : {A : Type 0} → Event → ℕ → Option Event → Read A → Read A
said d at None rest = Err Cut
said d at (Some e) rest = if same_event d e then rest else Err (Wrong at)

-- an answer is there, and the rest by it
abbrev pub heard_at : {A : Type 0} → ℕ → Option Event → (Answer → Read A) → Read A
heard_at at None rest = Err Cut
heard_at at (Some (End a)) rest = rest a
heard_at at (Some (Start c)) rest = Err (Wrong at)
heard_at at (Some (Pause n)) rest = Err (Wrong at)
heard_at at (Some Loss) rest = Err (Wrong at)

-- the events from an index on, read along the course
abbrev pub read : {A : Type 0} → List Event → Course A → ℕ → Read A
read events (done r) at = Ok (r, at)
read events (say d t) at = said d at (slice_get events at) (read events t (at + 1))
read events (hear f) at = heard_at at (slice_get events at) (λ a. read events (f a) (at + 1))
