-- Which notes have a text.
use Rattle.std.specs.Prelude.{◌≡◌, ℕ, ◌&&◌, ◌||◌, nat_le, Bool, true, false, List, [], ◌∷◌, length, Option, Some, None}
use Rattle.std.specs.List.{slice_get, list_all}
use Rattle.std.specs.Str.{bytes_eq}
use Rattle.device_model.specs.declared.calls.Call.{Call}
use Rattle.device_model.specs.declared.calls.Call.TheVariants.{Module, Ask, Script, SystemReboot}
use Rattle.device_model.specs.declared.calls.Event.{Event}
use Rattle.device_model.specs.declared.calls.Event.TheVariants.{Start, End, Pause, Loss}
use Rattle.flow_table.specs.declared.position.Position.{Position}
use Rattle.flow_table.specs.declared.position.State.TheVariants.{Idle}
use Rattle.flow_table.specs.declared.position.Outcome.TheVariants.{Undecided}
use Rattle.flow_table.specs.declared.position.Reboot.TheVariants.{No}
use Rattle.flow_table.specs.Valid.{is_valid}
use Rattle.trace_check.specs.declared.note.Note.{Note}
use Rattle.trace_check.specs.declared.note.NoteHead.{NoteHead}
use Rattle.trace_check.specs.declared.note.NoteEnd.{NoteEnd}
use Rattle.trace_check.specs.declared.note.NoteEnd.TheVariants.{Nothing, Ended, Waits, RebootNeeded, Halted}
use Rattle.flow_table.specs.declared.table.TheConstants.{MOST_KINDS}
use Rattle.trace_check.specs.Way.{same_position}

-- where the empty database stands
abbrev pub nowhere : Position
nowhere = record { state = Idle; outcome = Undecided; undoable = false; reboot = No; n = 0 }

abbrev pub is_place : Position → Bool
is_place p = is_valid p || same_position p nowhere

-- the payload's type is the one that is noted
abbrev pub is_kind : Option (List ℕ) → List ℕ → Bool
is_kind None kind = false
is_kind (Some noted) kind = bytes_eq noted kind

abbrev pub calls_noted : List (List ℕ) → Call → Bool
calls_noted kinds (Module payload kind state) = is_kind (slice_get kinds payload) kind
calls_noted kinds (Ask payload kind query) = is_kind (slice_get kinds payload) kind
calls_noted kinds (Script name) = true
calls_noted kinds SystemReboot = true

abbrev pub is_noted : List (List ℕ) → Event → Bool
is_noted kinds (Start call) = calls_noted kinds call
is_noted kinds (End answer) = true
is_noted kinds (Pause seconds) = true
is_noted kinds Loss = true

abbrev pub is_empty : {A : Type 0} → List A → Bool
is_empty [] = true
is_empty (x ∷ xs) = false

-- no lists where nothing was done, else 1 to 8 payload types
abbrev pub lists_fit : NoteHead → NoteEnd → Bool
lists_fit head Nothing = is_empty head.kinds && (is_empty head.scripts && is_empty head.site)
lists_fit head (Ended o) = nat_le 1 (length head.kinds) && nat_le (length head.kinds) MOST_KINDS
lists_fit head Waits = nat_le 1 (length head.kinds) && nat_le (length head.kinds) MOST_KINDS
lists_fit head RebootNeeded = nat_le 1 (length head.kinds) && nat_le (length head.kinds) MOST_KINDS
lists_fit head Halted = nat_le 1 (length head.kinds) && nat_le (length head.kinds) MOST_KINDS

abbrev pub has_text : NoteHead → List Event → NoteEnd → Bool
has_text head events e = is_place head.from && (lists_fit head e && list_all (is_noted head.kinds) events)

abbrev pub IsNote : Note → Type 0
IsNote note = has_text note.head note.events.events note.end ≡ true
