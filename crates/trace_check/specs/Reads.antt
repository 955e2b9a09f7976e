-- What a text is read as: its notes, or the first line with which it is no front of notes.
use Rattle.std.specs.Prelude.{◌≡◌, ◌⊎◌, ℕ, ◌+◌, ◌^◌, ◌==◌, ◌<◌, ◌≤◌, List, [], ◌∷◌, ◌++◌, length, Result, Ok, Err, ⊤}
use Rattle.std.specs.List.{count_by, AllByRecursion}
use Rattle.hex.specs.Hex.{IsBytes}
use Rattle.upd_text.specs.Text.{IsName}
use Rattle.script_names.specs.Scripts.{AreScripts}
use Rattle.device_model.specs.declared.calls.Answer.{Answer}
use Rattle.device_model.specs.declared.calls.Answer.TheVariants.{Exit, Reply, NotStarted}
use Rattle.device_model.specs.declared.calls.Call.{Call}
use Rattle.device_model.specs.declared.calls.Call.TheVariants.{Module, Ask, Script, SystemReboot}
use Rattle.device_model.specs.declared.calls.Event.{Event}
use Rattle.device_model.specs.declared.calls.Event.TheVariants.{Start, End, Pause, Loss}
use Rattle.trace_check.specs.declared.note.Note.{Note}
use Rattle.trace_check.specs.declared.notes.ReadFault.{ReadFault}
use Rattle.trace_check.specs.declared.notes.ReadFault.TheVariants.{BadLine, NoMemory}
use Rattle.trace_check.specs.Form.{IsNote}
use Rattle.trace_check.specs.Texts.{texts_of}

-- ---- notes that values of the types may be

abbrev pub IsCallText : Call → Type 0
IsCallText (Module payload kind state) = payload < 256
IsCallText (Ask payload kind query) = payload < 256
IsCallText (Script name) = IsName name
IsCallText SystemReboot = ⊤

abbrev pub IsAnswerText : Answer → Type 0
IsAnswerText (Exit code) = code < 256
IsAnswerText (Reply code text) = (code < 256) × (length text ≤ 32) × IsBytes text
IsAnswerText NotStarted = ⊤

abbrev pub IsEventText : Event → Type 0
IsEventText (Start call) = IsCallText call
IsEventText (End answer) = IsAnswerText answer
IsEventText (Pause seconds) = seconds < 2 ^ 32
IsEventText Loss = ⊤

-- its names are names, its scripts ascend, and its numbers fit; and it has a text
pub record IsRight (note : Note) : Type 0 where
  pub count : note.head.from.n < 256
  pub kinds : AllByRecursion IsName note.head.kinds
  pub scripts : AreScripts note.head.scripts
  pub site : AreScripts note.head.site
  pub events : AllByRecursion IsEventText note.events.events
  pub is_note : IsNote note

-- ---- what is read

-- the text begins texts of notes
pub record IsFront (text : List ℕ) : Type 0 where
  pub notes : List Note
  pub are_notes : AllByRecursion IsRight notes
  pub more : List ℕ
  pub is : texts_of notes ≡ text ++ more

-- the text is that of these notes
pub record AreRead (text : List ℕ) (notes : List Note) : Type 0 where
  pub are_notes : AllByRecursion IsRight notes
  pub is : text ≡ texts_of notes

abbrev pub newlines : List ℕ → ℕ
newlines text = count_by (λ b. b == 10) text

-- whole lines
abbrev pub AreLines : List ℕ → Type 0
AreLines text = (text ≡ []) ⊎ ((front : List ℕ) × (text ≡ front ++ 10 ∷ []))

-- Line k, counted from 1, is the first with which the text is no front of notes, or the one behind its last newline.
pub data IsBadLine (text : List ℕ) (k : ℕ) : Type 0 where
  -- the lines before it are a front of notes; with it they are none
  wrong : (before line more : List ℕ) → text ≡ before ++ (line ++ 10 ∷ more) → newlines line ≡ 0 → newlines before + 1 ≡ k → AreLines before → IsFront before → (IsFront (before ++ (line ++ 10 ∷ [])) → ⊥) → IsBadLine text k
  -- All whole lines are a front of notes, and the text is none: it ends inside a note or inside a line, which may be the first
  -- that no note goes on with.
  unfinished : (before rest : List ℕ) → text ≡ before ++ rest → newlines rest ≡ 0 → newlines before + 1 ≡ k → AreLines before → IsFront before → ((notes : List Note) → AreRead text notes → ⊥) → IsBadLine text k

-- what `read_notes` answers; want of memory may come in place of any
abbrev pub Reads : List ℕ → Result (List Note) ReadFault → Type 0
Reads text (Ok notes) = AreRead text notes
Reads text (Err (BadLine k)) = IsBadLine text k
Reads text (Err NoMemory) = ⊤
