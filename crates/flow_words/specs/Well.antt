-- A deployment in which nothing fails.
use Rattle.std.specs.Prelude.{◌≡◌, Bool, false, List, ◌∷◌, ◌++◌, ⊤}
use Rattle.device_model.specs.declared.calls.Answer.{Answer}
use Rattle.device_model.specs.declared.calls.Answer.TheVariants.{Exit}
use Rattle.device_model.specs.declared.calls.Call.{Call}
use Rattle.device_model.specs.declared.calls.Call.TheVariants.{Module, Ask, Script, SystemReboot}
use Rattle.device_model.specs.declared.calls.Event.{Event}
use Rattle.device_model.specs.declared.calls.Event.TheVariants.{Start, End as Ends}
use Rattle.device_model.specs.declared.calls.Query.TheVariants.{SupportsRollback, NeedsArtifactReboot}
use Rattle.flow_table.specs.declared.table.Heard.TheVariants.{Undoable}
use Rattle.flow_table.specs.declared.position.Outcome.TheVariants.{Committed}
use Rattle.flow_words.specs.Words.{heard, is_failed}
use Rattle.flow_words.specs.Pieces.{End, Ended, Waits, RebootNeeded, Halted}

-- a child exited 0, or its reply can be read, and says this of a rollback
abbrev pub IsWell : Bool → Call → Answer → Type 0
IsWell can (Ask payload kind SupportsRollback) a = heard SupportsRollback a ≡ Undoable can
IsWell can (Ask payload kind NeedsArtifactReboot) a = is_failed (heard NeedsArtifactReboot a) ≡ false
IsWell can (Module payload kind state) a = a ≡ Exit 0
IsWell can (Script name) a = a ≡ Exit 0
IsWell can SystemReboot a = a ≡ Exit 0

-- so did each child that ended
abbrev pub GoesWell : Bool → List Event → Type 0
GoesWell can events = (before behind : List Event) (c : Call) (a : Answer) → events ≡ before ++ Start c ∷ Ends a ∷ behind → IsWell can c a

-- the deployment ended committed, waits for an order or for a reboot, or was cut off
abbrev pub IsGoodEnd : End → Type 0
IsGoodEnd (Ended Committed) = ⊤
IsGoodEnd (Ended _) = ⊥
IsGoodEnd Waits = ⊤
IsGoodEnd RebootNeeded = ⊤
IsGoodEnd Halted = ⊤
