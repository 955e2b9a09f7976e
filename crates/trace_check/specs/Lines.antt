-- What the lines of a note's text say. What is read of a line is spelled again and compared, so no line has two spellings.
use Rattle.std.specs.Prelude.{ℕ, ◌+◌, ◌==◌, ◌&&◌, nat_le, nat_eq, not, Bool, if◌then◌else◌, List, [], ◌++◌, length, take, drop, codes, position, Option, Some, None}
use Rattle.std.specs.List.{find, list_all, slice_get, starts_with}
use Rattle.std.specs.Str.{bytes_eq}
use Rattle.std.specs.Option.{option_and_then, option_map, is_some}
use Rattle.std.specs.Result.{result_ok}
use Rattle.hex.specs.Hex.{decode_of}
use Rattle.upd_text.specs.Text.{name_of, decimal_of}
use Rattle.device_model.specs.declared.calls.Answer.TheVariants.{Exit, Reply, NotStarted}
use Rattle.device_model.specs.declared.calls.Call.TheVariants.{Module, Ask, Script, SystemReboot}
use Rattle.device_model.specs.declared.calls.Event.{Event}
use Rattle.device_model.specs.declared.calls.Event.TheVariants.{Start, End, Pause, Loss}
use Rattle.device_model.specs.declared.module_word.ModuleWord.{ModuleWord}
use Rattle.device_model.specs.declared.module_word.ModuleWord.TheVariants as asked
use Rattle.device_model.specs.Names.{module_named}
use Rattle.event_text.specs.Lines.{line}
use Rattle.flow_table.specs.declared.position.Position.{Position}
use Rattle.flow_table.specs.Names.{state_named, outcome_named, reboot_named}
use Rattle.script_names.specs.Scripts.{place_of}
use Rattle.trace_check.specs.declared.note.Deed.{Deed}
use Rattle.trace_check.specs.declared.note.NoteEnd.{NoteEnd}
use Rattle.trace_check.specs.declared.note.NoteEnd.TheVariants as ended
use Rattle.trace_check.specs.declared.words.TheConstants.{DEEDS}
use Rattle.trace_check.specs.Texts.{deed_name, from_line}
use Rattle.trace_check.specs.Form.{is_noted, is_place}

-- ---- parts of a line

-- what stands behind a word
abbrev pub tag : List ℕ → List ℕ → Option (List ℕ)
tag word text = if starts_with nat_eq text word then Some (drop (length word) text) else None

-- no byte of the text is the mark
abbrev pub lacks : ℕ → List ℕ → Bool
lacks mark text = list_all (λ b. not (b == mark)) text

-- the text up to the first space, and what stands behind it
unfoldable pub split : List ℕ → Option (List ℕ × List ℕ)
split text = option_map (λ i. (take i text, drop (i + 1) text)) (position (λ b. b == 32) text)

-- a number of at most this
abbrev pub at_most : ℕ → ℕ → Option ℕ
at_most most n = if nat_le n most then Some n else None

unfoldable pub number_in : ℕ → List ℕ → Option ℕ
number_in most digits = option_and_then (at_most most) (decimal_of digits)

-- the line with its newline is this text's
abbrev pub is_line : List ℕ → List ℕ → Bool
is_line told text = bytes_eq told (text ++ codes "\n")

-- what passes the test
abbrev pub only : {A : Type 0} → (A → Bool) → Option A → Option A
only test None = None
only test (Some x) = if test x then Some x else None

-- ---- names

abbrev pub deed_named : List ℕ → Option Deed
deed_named text = find (λ deed. bytes_eq text (deed_name deed)) DEEDS

unfoldable pub deed_in : List ℕ → Option Deed
deed_in text = option_and_then deed_named (tag (codes "boot ") text)

abbrev pub name_in : List ℕ → Option (List ℕ)
name_in text = result_ok (name_of text)

abbrev pub if_script : List ℕ → Option (List ℕ)
if_script name = if is_some (place_of name) then Some name else None

abbrev pub script_in : List ℕ → Option (List ℕ)
script_in text = option_and_then if_script (name_in text)

-- ---- the position

abbrev pub undoable_named : List ℕ → Option Bool
undoable_named text = if bytes_eq text (codes "0") then Some Bool.false else (if bytes_eq text (codes "1") then Some Bool.true else None)

unfoldable pub fields_in : List ℕ → List ℕ → List ℕ → List ℕ → List ℕ → Option Position
fields_in state outcome undoable reboot n =
    option_and_then (λ s. option_and_then (λ o. option_and_then (λ u. option_and_then (λ r. option_and_then (λ k. Some (record { state = s; outcome = o; undoable = u; reboot = r; n = k }))
    (number_in 255 n)) (reboot_named reboot)) (undoable_named undoable)) (outcome_named outcome)) (state_named state)

unfoldable pub position_in : List ℕ → Option Position
position_in text =
    option_and_then (λ a. option_and_then (λ b. option_and_then (λ c. option_and_then (λ d. fields_in a.0 b.0 c.0 d.0 d.1)
    (split c.1)) (split b.1)) (split a.1)) (split text)

unfoldable pub from_in : List ℕ → Option Position
from_in text = only (λ p. is_place p && is_line (from_line p) text) (option_and_then position_in (tag (codes "from ") text))

-- ---- the end

unfoldable pub end_in : List ℕ → Option NoteEnd
end_in text =
    if bytes_eq text (codes "none") then Some ended.Nothing else (
    if bytes_eq text (codes "waits") then Some ended.Waits else (
    if bytes_eq text (codes "reboot-needed") then Some ended.RebootNeeded else (
    if bytes_eq text (codes "halted") then Some ended.Halted else
    option_and_then (λ word. option_map ended.Ended (outcome_named word)) (tag (codes "ended ") text))))

-- ---- events

-- a call of the payload with this number, by its type
abbrev pub called : ℕ → List ℕ → ModuleWord → Event
called payload kind (asked.State state) = Start (Module payload kind state)
called payload kind (asked.Ask query) = Start (Ask payload kind query)

unfoldable pub called_in : List (List ℕ) → List ℕ → Option Event
called_in kinds text =
    option_and_then (λ p. option_and_then (λ k. option_and_then (λ kind. option_and_then (λ word. Some (called k kind word))
    (module_named p.1)) (slice_get kinds k)) (number_in 255 p.0)) (split text)

unfoldable pub run_in : List ℕ → Option Event
run_in text = option_map (λ name. Start (Script name)) (name_in text)

-- the bytes of digits, two for each, and none for a dash
unfoldable pub bytes_in : List ℕ → Option (List ℕ)
bytes_in digits = if bytes_eq digits (codes "-") then Some [] else option_map (take 32) (result_ok (decode_of digits))

unfoldable pub reply_in : List ℕ → Option Event
reply_in text =
    option_and_then (λ p. option_and_then (λ code. option_and_then (λ bytes. Some (End (Reply code bytes)))
    (bytes_in p.1)) (number_in 255 p.0)) (split text)

unfoldable pub exit_in : List ℕ → Option Event
exit_in text = option_map (λ code. End (Exit code)) (number_in 255 text)

unfoldable pub pause_in : List ℕ → Option Event
pause_in text = option_map Pause (number_in 4294967295 text)

-- the event of a text that is a whole word
abbrev pub event_named : List ℕ → Option Event
event_named text =
    if bytes_eq text (codes "reboot") then Some (Start SystemReboot) else (
    if bytes_eq text (codes "not-started") then Some (End NotStarted) else (
    if bytes_eq text (codes "loss") then Some Loss else None))

-- behind the word as it says, or else so
abbrev pub behind : {A : Type 0} → Option (List ℕ) → (List ℕ → Option A) → Option A → Option A
behind None f rest = rest
behind (Some text) f rest = f text

unfoldable pub call_in : List (List ℕ) → List ℕ → Option Event → Option Event
call_in kinds text rest =
    behind (tag (codes "module ") text) (called_in kinds) (
    behind (tag (codes "ask ") text) (called_in kinds) (
    behind (tag (codes "run ") text) run_in rest))

unfoldable pub answer_in : List ℕ → Option Event
answer_in text =
    behind (tag (codes "exit ") text) exit_in (
    behind (tag (codes "reply ") text) reply_in (
    behind (tag (codes "pause ") text) pause_in (event_named text)))

unfoldable pub event_in : List (List ℕ) → List ℕ → Option Event
event_in kinds text = only (λ e. is_noted kinds e && is_line (line e) text) (call_in kinds text (answer_in text))
