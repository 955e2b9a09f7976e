-- What a whole run of one state looks like.
use Rattle.std.specs.Prelude.{ℕ, ◌+◌, Bool, true, false, ◌||◌, ◌&&◌, not, if◌then◌else◌, List, [], ◌∷◌, Option, Some, None}
use Rattle.device_model.specs.declared.calls.Answer.{Answer}
use Rattle.device_model.specs.declared.calls.Answer.TheVariants.{Exit, Reply, NotStarted}
use Rattle.device_model.specs.declared.calls.Call.{Call}
use Rattle.device_model.specs.declared.calls.Call.TheVariants as a_call
use Rattle.device_model.specs.declared.calls.ModState.{ModState}
use Rattle.device_model.specs.declared.calls.Query.{Query}
use Rattle.device_model.specs.declared.calls.Query.TheVariants.{SupportsRollback, NeedsArtifactReboot}
use Rattle.script_names.specs.declared.place.Stage.{Stage}
use Rattle.script_names.specs.declared.place.Action.{Action}
use Rattle.script_names.specs.declared.place.Action.TheVariants.{Enter, Leave, Error}
use Rattle.script_names.specs.Scripts.{due_of, is_download}
use Rattle.flow_table.specs.declared.position.Position.{Position}
use Rattle.flow_table.specs.declared.position.Reboot.{Reboot}
use Rattle.flow_table.specs.declared.position.Reboot.TheVariants.{No, Automatic}
use Rattle.flow_table.specs.declared.table.Heard.{Heard}
use Rattle.flow_table.specs.declared.table.Heard.TheVariants.{Failed, Fine, Undoable, Needs}
use Rattle.flow_table.specs.Replies.{supports_of, needs_of}
use Rattle.flow_words.specs.declared.mode.Mode.TheVariants.{Once}
use Rattle.flow_words.specs.declared.rows.StageRun.{StageRun}
use Rattle.flow_words.specs.declared.rows.Child.{Child}
use Rattle.flow_words.specs.declared.rows.Child.TheVariants.{Module, SystemReboot}
use Rattle.flow_words.specs.declared.rows.Main.{Main}
use Rattle.flow_words.specs.declared.rows.MainMode.{MainMode}
use Rattle.flow_words.specs.declared.rows.MainMode.TheVariants as main_mode
use Rattle.flow_words.specs.declared.rows.Row.{Row}
use Rattle.flow_words.specs.Course.{Course, done, call, and_then}
use Rattle.flow_words.specs.Rows.{row_of}
use Rattle.flow_words.specs.Scripts.{run, is_success}

-- whom a deployment calls: the modules of its payload types, the device's own scripts, and those that the artifact brought
pub record Callees : Type 0 where
  pub kinds : List (List ℕ)
  pub own : List (List ℕ)
  pub brought : List (List ℕ)

-- ---- scripts

-- scripts of Download are the device's own, all others the artifact's
abbrev pub scripts_of : Callees → Stage → List (List ℕ)
scripts_of who stage = if is_download stage then who.own else who.brought

-- the scripts that are due, in their order
abbrev pub due_at : Callees → Stage → Action → List (List ℕ)
due_at who stage action = due_of (record { stage = stage; action = action }) (scripts_of who stage)

-- the Enter or Leave scripts
abbrev pub scripts : Callees → Action → Option StageRun → Course Bool
scripts who action None = done true
scripts who action (Some r) = run (due_at who r.stage action) r.mode

-- the Error scripts, each of which is started once
abbrev pub errors : Callees → Option Stage → Course Bool
errors who None = done true
errors who (Some stage) = run (due_at who stage Error) Once

-- ---- the main call

-- whether it calls the module of every payload, or ends with the first that fails
abbrev pub calls_every : MainMode → Bool
calls_every main_mode.Checked = false
calls_every main_mode.Every = true
calls_every main_mode.Ignored = true

abbrev pub is_ignored : MainMode → Bool
is_ignored main_mode.Checked = false
is_ignored main_mode.Every = false
is_ignored main_mode.Ignored = true

-- one child, which is good where it exits 0
abbrev pub child_good : Call → Course Bool
child_good c = call c (λ a. done (is_success a))

-- The modules of these types are called in turn, from payload k on; before, all were good or not. They end with the first
-- that fails, or every one is called.
abbrev pub modules : ℕ → List (List ℕ) → ModState → Bool → Bool → Course Bool
modules k [] state every good = done good
modules k (kind ∷ kinds) state every good =
    and_then (child_good (a_call.Module k kind state)) (λ ok.
    if ok || every then modules (k + 1) kinds state every (good && ok) else done false)

abbrev pub child_calls : List (List ℕ) → Child → Bool → Course Bool
child_calls kinds (Module state) every = modules 0 kinds state every true
child_calls kinds SystemReboot every = child_good a_call.SystemReboot

-- the main call is fine where all exited 0 or the answers are ignored
abbrev pub main_call : List (List ℕ) → Option Main → Course Bool
main_call kinds None = done true
main_call kinds (Some m) = and_then (child_calls kinds m.child (calls_every m.mode)) (λ good. done (is_ignored m.mode || good))

-- ---- the question

-- what a reply means; one that can't be read is a failure
abbrev pub undoable : Option Bool → Heard
undoable None = Failed
undoable (Some can) = Undoable can

abbrev pub needs : Option Reboot → Heard
needs None = Failed
needs (Some reboot) = Needs reboot

abbrev pub heard : Query → Answer → Heard
heard SupportsRollback (Reply code text) = undoable (supports_of code text)
heard NeedsArtifactReboot (Reply code text) = needs (needs_of code text)
heard q (Exit code) = Failed
heard q NotStarted = Failed

abbrev pub is_failed : Heard → Bool
is_failed Failed = true
is_failed Fine = false
is_failed (Undoable can) = false
is_failed (Needs reboot) = false

abbrev pub same_answer : Bool → Bool → Bool
same_answer true can = can
same_answer false can = not can

-- What two replies mean together. All have to say the same of a rollback. Where one of several needs a reboot, the client
-- reboots the system. Fine is what was heard before the first reply.
abbrev pub together : Heard → Heard → Heard
together Failed h = Failed
together Fine h = h
together (Undoable can) (Undoable other) = if same_answer can other then Undoable can else Failed
together (Undoable can) h = Failed
together (Needs No) (Needs No) = Needs No
together (Needs reboot) (Needs other) = Needs Automatic
together (Needs reboot) h = Failed

abbrev pub one_question : ℕ → List ℕ → Query → Course Heard
one_question k kind q = call (a_call.Ask k kind q) (λ a. done (heard q a))

-- The modules of these types are asked in turn, from payload k on, up to and with the first whose reply can't be read.
abbrev pub questions : ℕ → List (List ℕ) → Query → Heard → Course Heard
questions k [] q so_far = done so_far
questions k (kind ∷ kinds) q so_far =
    and_then (one_question k kind q) (λ h.
    if is_failed h then done Failed else questions (k + 1) kinds q (together so_far h))

abbrev pub question : List (List ℕ) → Option Query → Course Heard
question kinds None = done Fine
question kinds (Some q) = questions 0 kinds q Fine

-- ---- a state

-- a step that may fail, and what follows where it doesn't
abbrev pub if_good : Course Bool → Course Heard → Course Heard
if_good t next = and_then t (λ good. if good then next else done Failed)

-- Enter scripts, main call, question, Leave scripts; the first that fails ends them
abbrev pub calls : Callees → Row → Course Heard
calls who row =
    if_good (scripts who Enter row.enter) (
    if_good (main_call who.kinds row.main) (
    and_then (question who.kinds row.query) (λ h.
    if is_failed h then done Failed else
    if_good (scripts who Leave row.leave) (done h))))

-- the calls of a state, and its Error scripts where one failed
abbrev pub word : Callees → Row → Course Heard
word who row =
    and_then (calls who row) (λ h.
    if is_failed h then and_then (errors who row.error) (λ _. done Failed) else done h)

-- what is done at a position, by the table of states
abbrev pub word_at : Callees → Position → Course Heard
word_at who p = word who (row_of p)
