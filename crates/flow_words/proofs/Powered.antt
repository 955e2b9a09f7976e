-- No power is lost in a part of a course that never says so.
use Rattle.std.proofs.Common.{ℕ, zero, suc, ◌+◌, Bool, true, false, List, [], ◌∷◌, ◌++◌, Option, Some, None, sym, subst}
use Rattle.std.specs.Prelude.{◌||◌, ◌&&◌, if◌then◌else◌}
use Rattle.device_model.specs.declared.calls.Event.{Event}
use Rattle.device_model.specs.declared.calls.Event.TheVariants.{Start, End, Pause, Loss}
use Rattle.device_model.specs.declared.calls.ModState.{ModState}
use Rattle.device_model.specs.declared.calls.Query.{Query}
use Rattle.script_names.specs.declared.place.Action.{Action}
use Rattle.script_names.specs.declared.place.Action.TheVariants.{Enter, Leave, Error}
use Rattle.script_names.specs.declared.place.Stage.{Stage}
use Rattle.flow_table.specs.declared.position.Position.{Position}
use Rattle.flow_table.specs.declared.table.Heard.{Heard}
use Rattle.flow_table.specs.declared.table.Heard.TheVariants.{Failed, Fine}
use Rattle.flow_words.specs.declared.mode.Mode.{Mode}
use Rattle.flow_words.specs.declared.mode.Mode.TheVariants.{Checked, Ignored, Once}
use Rattle.flow_words.specs.declared.rows.Child.{Child}
use Rattle.flow_words.specs.declared.rows.Child.TheVariants.{Module, SystemReboot}
use Rattle.flow_words.specs.declared.rows.Main.{Main}
use Rattle.flow_words.specs.declared.rows.Row.{Row}
use Rattle.flow_words.specs.declared.rows.StageRun.{StageRun}
use Rattle.flow_words.specs.Course.{Course, done, say, hear, and_then, Part}
use Rattle.flow_words.specs.Scripts.{is_success, is_retry, block, step, run}
use Rattle.flow_words.specs.Rows.{row_of}
use Rattle.flow_words.specs.Words.{Callees, due_at, scripts, errors, calls_every, is_ignored, modules, child_calls, main_call, heard, is_failed, together, questions, question, if_good, calls, word, word_at}
use Rattle.flow_words.specs.Pieces.{End as Ending, Pieces, goes_on, reboots, ends, waits, halts}
use Rattle.flow_words.specs.Power.{IsPowered, ArePowered, KeepsPower}
use Rattle.flow_words.proofs.Courses.{Part-whole}
use Rattle.flow_words.proofs.StateCalls.{after_question, after_main, after_enter, after_calls}

pub part-powered : {A : Type 0} (t : Course A) (w : List Event) → KeepsPower t → Part t w → ArePowered w
part-powered t [] keeps part = tt
part-powered (done r) (e ∷ w) keeps part = absurd part
part-powered (say d t) (e ∷ w) keeps part = (subst IsPowered part.0 keeps.0, part-powered t w keeps.1 part.1)
part-powered (hear f) (End a ∷ w) keeps part = (tt, part-powered (f a) w (keeps a) part)
part-powered (hear f) (Start c ∷ w) keeps part = absurd part
part-powered (hear f) (Pause s ∷ w) keeps part = absurd part
part-powered (hear f) (Loss ∷ w) keeps part = absurd part

pub and_then-keeps : {A B : Type 0} (t : Course A) (rest : A → Course B) → KeepsPower t → ((r : A) → KeepsPower (rest r)) → KeepsPower (and_then t rest)
and_then-keeps (done r) rest keeps after = after r
and_then-keeps (say e t) rest keeps after = (keeps.0, and_then-keeps t rest keeps.1 after)
and_then-keeps (hear f) rest keeps after = λ a. and_then-keeps (f a) rest (keeps a) after

either-keeps : {A : Type 0} (b : Bool) (t u : Course A) → KeepsPower t → KeepsPower u → KeepsPower (if b then t else u)
either-keeps true t u keeps other = keeps
either-keeps false t u keeps other = other

block-keeps : (name : List ℕ) (left : ℕ) → KeepsPower (block name left)
unfolding block
block-keeps name zero = (tt, λ a. tt)
block-keeps name (suc left) = let rest = block-keeps name left in (tt, λ a. either-keeps (is_retry a) (say (Pause 60) (block name left)) (done (is_success a)) (tt, rest) tt)

step-keeps : (name : List ℕ) (mode : Mode) → KeepsPower (step name mode)
step-keeps name Checked = block-keeps name 30
step-keeps name Ignored = and_then-keeps (block name 30) (λ good. done true) (block-keeps name 30) (λ good. tt)
step-keeps name Once = (tt, λ a. tt)

pub run-keeps : (names : List (List ℕ)) (mode : Mode) → KeepsPower (run names mode)
run-keeps [] mode = tt
run-keeps (name ∷ names) mode =
    let rest = run-keeps names mode in
    and_then-keeps (step name mode) (λ good. if good then run names mode else done false) (step-keeps name mode) (λ good. either-keeps good (run names mode) (done false) rest tt)

-- ---- states

modules-keep : (k : ℕ) (kinds : List (List ℕ)) (state : ModState) (every good : Bool) → KeepsPower (modules k kinds state every good)
modules-keep k [] state every good = tt
modules-keep k (kind ∷ kinds) state every good =
    (tt, λ a. let ok : Bool = is_success a in either-keeps (ok || every) (modules (k + 1) kinds state every (good && ok)) (done false) (modules-keep (k + 1) kinds state every (good && ok)) tt)

children-keep : (kinds : List (List ℕ)) (child : Child) (every : Bool) → KeepsPower (child_calls kinds child every)
children-keep kinds (Module state) every = modules-keep 0 kinds state every true
children-keep kinds SystemReboot every = (tt, λ a. tt)

main-keeps : (kinds : List (List ℕ)) (main : Option Main) → KeepsPower (main_call kinds main)
main-keeps kinds None = tt
main-keeps kinds (Some m) = and_then-keeps (child_calls kinds m.child (calls_every m.mode)) (λ good. done (is_ignored m.mode || good)) (children-keep kinds m.child (calls_every m.mode)) (λ good. tt)

questions-keep : (k : ℕ) (kinds : List (List ℕ)) (q : Query) (so_far : Heard) → KeepsPower (questions k kinds q so_far)
questions-keep k [] q so_far = tt
questions-keep k (kind ∷ kinds) q so_far =
    (tt, λ a. let h : Heard = heard q a in either-keeps (is_failed h) (done Failed) (questions (k + 1) kinds q (together so_far h)) tt (questions-keep (k + 1) kinds q (together so_far h)))

question-keeps : (kinds : List (List ℕ)) (query : Option Query) → KeepsPower (question kinds query)
question-keeps kinds None = tt
question-keeps kinds (Some q) = questions-keep 0 kinds q Fine

scripts-keep : (who : Callees) (action : Action) (runs : Option StageRun) → KeepsPower (scripts who action runs)
scripts-keep who action None = tt
scripts-keep who action (Some r) = run-keeps (due_at who r.stage action) r.mode

errors-keep : (who : Callees) (stage : Option Stage) → KeepsPower (errors who stage)
errors-keep who None = tt
errors-keep who (Some stage) = run-keeps (due_at who stage Error) Once

good-keeps : (t : Course Bool) (next : Course Heard) → KeepsPower t → KeepsPower next → KeepsPower (if_good t next)
good-keeps t next keeps after = and_then-keeps t (λ good. if good then next else done Failed) keeps (λ good. either-keeps good next (done Failed) after tt)

module _ (who : Callees) (row : Row) where
  calls-keep : KeepsPower (calls who row)
  calls-keep =
      good-keeps (scripts who Enter row.enter) (after_enter who row) (scripts-keep who Enter row.enter)
      (good-keeps (main_call who.kinds row.main) (after_main who row) (main-keeps who.kinds row.main)
      (and_then-keeps (question who.kinds row.query) (after_question who row) (question-keeps who.kinds row.query) (λ h.
      either-keeps (is_failed h) (done Failed) (if_good (scripts who Leave row.leave) (done h)) tt (good-keeps (scripts who Leave row.leave) (done h) (scripts-keep who Leave row.leave) tt))))

  pub word-keeps : KeepsPower (word who row)
  word-keeps = and_then-keeps (calls who row) (after_calls who row) calls-keep (λ h.
      either-keeps (is_failed h) (and_then (errors who row.error) (λ _. done Failed)) (done h) (and_then-keeps (errors who row.error) (λ _. done Failed) (errors-keep who row.error) (λ _. tt)) tt)

powered-append : (u v : List Event) → ArePowered u → ArePowered v → ArePowered (u ++ v)
powered-append [] v a b = b
powered-append (e ∷ u) v a b = (a.0, powered-append u v a.1 b)

-- in the events of a deployment no power is lost
pub pieces-powered : (who : Callees) {stop : Bool} {p q : Position} {events : List Event} {end : Ending} → Pieces (word_at who) stop p events end q → ArePowered events
pieces-powered who {p} (goes_on w v h z f n g eq) =
    subst ArePowered (sym eq) (powered-append w v (part-powered (word_at who p) w (word-keeps who (row_of p)) (Part-whole (word_at who p) w h f)) (pieces-powered who g))
pieces-powered who {p} {events} (reboots h z f n) = part-powered (word_at who p) events (word-keeps who (row_of p)) (Part-whole (word_at who p) events h f)
pieces-powered who (ends s o) = tt
pieces-powered who (waits s) = tt
pieces-powered who {p} {events} (halts f) = part-powered (word_at who p) events (word-keeps who (row_of p)) f
