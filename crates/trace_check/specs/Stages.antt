-- Reading notes line by line.
use Rattle.std.specs.Prelude.{ℕ, ◌&&◌, ◌==◌, nat_lt, Bool, if◌then◌else◌, List, [], ◌∷◌, ◌++◌, ◌-◌, length, codes, Option, Some, None}
use Rattle.std.specs.Option.{option_and_then, option_map}
use Rattle.device_model.specs.declared.calls.Event.{Event}
use Rattle.device_model.specs.Events.{Recorded}
use Rattle.upd_text.specs.Order.{is_below}
use Rattle.script_names.specs.Scripts.{last_script}
use Rattle.flow_table.specs.declared.table.TheConstants.{MOST_KINDS}
use Rattle.trace_check.specs.declared.note.Note.{Note}
use Rattle.trace_check.specs.declared.note.NoteHead.{NoteHead}
use Rattle.trace_check.specs.declared.stage.Stage.{Stage}
use Rattle.trace_check.specs.declared.stage.Stage.TheVariants.{Between, Booted, Open}
use Rattle.trace_check.specs.Form.{lists_fit}
use Rattle.trace_check.specs.Lines.{tag, behind, deed_in, from_in, end_in, name_in, script_in, event_in}

-- the notes so far, and what was read since the last of them ended
abbrev pub Reading : Type 0
Reading = Stage × List Note

-- ---- the lists

abbrev pub is_none : {A : Type 0} → List A → Bool
is_none xs = length xs == 0

abbrev pub takes_kind : NoteHead → List Event → Bool
takes_kind head events = is_none events && (is_none head.scripts && (is_none head.site && nat_lt (length head.kinds) MOST_KINDS))

abbrev pub takes_script : NoteHead → List Event → List ℕ → Bool
takes_script head events name =
    is_none events && (is_none head.site && (nat_lt 0 (length head.kinds) && (nat_lt (length head.scripts) 64 && is_below (last_script head.scripts) name)))

abbrev pub takes_own : NoteHead → List Event → List ℕ → Bool
takes_own head events name =
    is_none events && (nat_lt 0 (length head.kinds) && (nat_lt (length head.site) 64 && is_below (last_script head.site) name))

-- ---- a line

unfoldable pub with_kind : NoteHead → Recorded → List ℕ → Option Stage
with_kind head events text =
    option_and_then (λ name. if takes_kind head events.events then Some (Open (record head { kinds = head.kinds ++ name ∷ [] }) events) else None) (name_in text)

unfoldable pub with_script : NoteHead → Recorded → List ℕ → Option Stage
with_script head events text =
    option_and_then (λ name. if takes_script head events.events name then Some (Open (record head { scripts = head.scripts ++ name ∷ [] }) events) else None) (script_in text)

unfoldable pub with_own : NoteHead → Recorded → List ℕ → Option Stage
with_own head events text =
    option_and_then (λ name. if takes_own head events.events name then Some (Open (record head { site = head.site ++ name ∷ [] }) events) else None) (script_in text)

abbrev pub added : Recorded → Event → Recorded
added events e = record { events = events.events ++ e ∷ []; room = events.room - 1 }

unfoldable pub with_event : NoteHead → Recorded → List ℕ → Option Stage
with_event head events text = option_map (λ e. Open head (added events e)) (event_in head.kinds text)

-- a line that doesn't end the note
unfoldable pub more_step : NoteHead → Recorded → List ℕ → Option Stage
more_step head events text =
    behind (tag (codes "kind ") text) (with_kind head events) (
    behind (tag (codes "script ") text) (with_script head events) (
    behind (tag (codes "site ") text) (with_own head events) (with_event head events text)))

unfoldable pub end_step : NoteHead → Recorded → List Note → List ℕ → Option Reading
end_step head events notes text =
    option_and_then (λ e. if lists_fit head e then Some (Between, notes ++ record { head = head; events = events; end = e } ∷ []) else None) (end_in text)

abbrev pub open_step : NoteHead → Recorded → List Note → List ℕ → Option Reading
open_step head events notes text = behind (tag (codes "end ") text) (end_step head events notes) (option_map (λ s. (s, notes)) (more_step head events text))

-- what a line leads to, without its newline; none where no note goes on with it
unfoldable pub step : Stage → List Note → List ℕ → Option Reading
step Between notes text = option_map (λ deed. (Booted deed, notes)) (deed_in text)
step (Booted deed) notes text =
    option_map (λ p. (Open (record { deed = deed; from = p; kinds = []; scripts = []; site = [] }) (record { events = []; room = 0 }), notes)) (from_in text)
step (Open head events) notes text = open_step head events notes text

-- line after line
abbrev pub run : Reading → List (List ℕ) → Option Reading
run r [] = Some r
run r (text ∷ texts) = option_and_then (λ s. run s texts) (step r.0 r.1 text)
