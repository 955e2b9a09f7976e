-- A boot that lost its power in a child, or that reboots, leaves a deployment that hasn't ended.
use Rattle.std.proofs.Common.{◌≡◌, ◌≢◌, ℕ, zero, suc, ◌+◌, Bool, true, false, List, [], ◌∷◌, ◌++◌, Option, Some, None, refl, sym, ap, ◌∙◌, subst}
use Rattle.std.specs.Prelude.{◌||◌, ◌&&◌, if◌then◌else◌, ⊤}
use Rattle.device_model.specs.declared.calls.Answer.{Answer}
use Rattle.device_model.specs.declared.calls.Event.{Event}
use Rattle.device_model.specs.declared.calls.Event.TheVariants.{Start, End, Pause, Loss}
use Rattle.device_model.specs.declared.calls.ModState.{ModState}
use Rattle.device_model.specs.declared.calls.Query.{Query}
use Rattle.script_names.specs.declared.place.Action.{Action}
use Rattle.script_names.specs.declared.place.Action.TheVariants.{Enter, Leave, Error}
use Rattle.script_names.specs.declared.place.Stage.{Stage}
use Rattle.flow_table.specs.declared.position.Position.{Position}
use Rattle.flow_table.specs.declared.table.Heard.{Heard}
use Rattle.flow_table.specs.declared.table.Heard.TheVariants.{Failed, Fine}
use Rattle.flow_words.specs.declared.mode.Mode.{Mode}
use Rattle.flow_words.specs.declared.mode.Mode.TheVariants.{Checked, Ignored, Once}
use Rattle.flow_words.specs.declared.rows.Child.{Child}
use Rattle.flow_words.specs.declared.rows.Child.TheVariants.{Module, SystemReboot}
use Rattle.flow_words.specs.declared.rows.Main.{Main}
use Rattle.flow_words.specs.declared.rows.Row.{Row}
use Rattle.flow_words.specs.declared.rows.StageRun.{StageRun}
use Rattle.flow_table.specs.declared.position.State.{State}
use Rattle.flow_table.specs.declared.position.State.TheVariants.{Idle, Wait}
use Rattle.flow_table.specs.declared.position.Outcome.{Outcome}
use Rattle.flow_table.specs.Table.{IsRunning}
use Rattle.flow_words.specs.Course.{Course, done, say, hear, and_then, Part, Whole}
use Rattle.flow_words.specs.Scripts.{is_success, is_retry, block, step, run}
use Rattle.flow_words.specs.Rows.{row_of, row_by}
use Rattle.flow_words.specs.Words.{Callees, due_at, scripts, errors, calls_every, is_ignored, modules, child_calls, main_call, heard, is_failed, together, questions, question, if_good, calls, word, word_at}
use Rattle.flow_words.specs.Pieces.{End as Ending, Ended, Waits, RebootNeeded, Halted, Pieces, goes_on, reboots, ends, waits, halts}
use Rattle.flow_words.proofs.StateCalls.{after_question, after_main, after_enter, after_calls}

-- each start is followed by an answer
abbrev IsAnswered : {A : Type 0} → Course A → Type 0
IsAnswered (done r) = ⊤
IsAnswered (say (Start c) (done r)) = ⊥
IsAnswered (say (Start c) (say e t)) = ⊥
IsAnswered (say (Start c) (hear f)) = (a : Answer) → IsAnswered (f a)
IsAnswered (say (End a) t) = ⊥
IsAnswered (say (Pause s) t) = IsAnswered t
IsAnswered (say Loss t) = ⊥
IsAnswered (hear f) = ⊥

abbrev is_start : Event → Bool
is_start (Start c) = true
is_start (End a) = false
is_start (Pause s) = false
is_start Loss = false

-- the last event is a start
abbrev pub starts_last : List Event → Bool
starts_last [] = false
starts_last (e ∷ []) = is_start e
starts_last (e ∷ f ∷ w) = starts_last (f ∷ w)

behind : (e : Event) (w : List Event) → is_start e ≡ false → starts_last w ≡ false → starts_last (e ∷ w) ≡ false
behind e [] h k = h
behind e (f ∷ w) h k = k

heard-last : (c : Event) (a : Answer) (w : List Event) → starts_last w ≡ false → starts_last (c ∷ End a ∷ w) ≡ false
heard-last c a w k = behind (End a) w refl k

pub whole-ends : {A : Type 0} (t : Course A) (w : List Event) (r : A) → IsAnswered t → Whole t w r → starts_last w ≡ false
whole-ends (done r) [] x h whole = refl
whole-ends (done r) (e ∷ w) x h whole = absurd whole
whole-ends (say d t) [] x h whole = absurd whole
whole-ends (say (Start c) (done r)) (e ∷ w) x h whole = absurd h
whole-ends (say (Start c) (say d t)) (e ∷ w) x h whole = absurd h
whole-ends (say (Start c) (hear f)) (e ∷ []) x h whole = absurd whole.1
whole-ends (say (Start c) (hear f)) (e ∷ End a ∷ w) x h whole = heard-last e a w (whole-ends (f a) w x (h a) whole.1)
whole-ends (say (Start c) (hear f)) (e ∷ Start d ∷ w) x h whole = absurd whole.1
whole-ends (say (Start c) (hear f)) (e ∷ Pause s ∷ w) x h whole = absurd whole.1
whole-ends (say (Start c) (hear f)) (e ∷ Loss ∷ w) x h whole = absurd whole.1
whole-ends (say (End a) t) (e ∷ w) x h whole = absurd h
whole-ends (say (Pause s) t) (e ∷ w) x h whole = behind e w (sym (ap is_start whole.0)) (whole-ends t w x h whole.1)
whole-ends (say Loss t) (e ∷ w) x h whole = absurd h
whole-ends (hear f) w x h whole = absurd h

-- ---- the word of a state

and_then-answered : {A B : Type 0} (t : Course A) (rest : A → Course B) → IsAnswered t → ((r : A) → IsAnswered (rest r)) → IsAnswered (and_then t rest)
and_then-answered (done r) rest keeps after = after r
and_then-answered (say (Start c) (done r)) rest keeps after = absurd keeps
and_then-answered (say (Start c) (say e t)) rest keeps after = absurd keeps
and_then-answered (say (Start c) (hear f)) rest keeps after = λ a. and_then-answered (f a) rest (keeps a) after
and_then-answered (say (End a) t) rest keeps after = absurd keeps
and_then-answered (say (Pause s) t) rest keeps after = and_then-answered t rest keeps after
and_then-answered (say Loss t) rest keeps after = absurd keeps
and_then-answered (hear f) rest keeps after = absurd keeps

either-answered : {A : Type 0} (b : Bool) (t u : Course A) → IsAnswered t → IsAnswered u → IsAnswered (if b then t else u)
either-answered true t u keeps other = keeps
either-answered false t u keeps other = other

block-answered : (name : List ℕ) (left : ℕ) → IsAnswered (block name left)
unfolding block
block-answered name zero = λ a. tt
block-answered name (suc left) = let rest = block-answered name left in λ a. either-answered (is_retry a) (say (Pause 60) (block name left)) (done (is_success a)) rest tt

step-answered : (name : List ℕ) (mode : Mode) → IsAnswered (step name mode)
step-answered name Checked = block-answered name 30
step-answered name Ignored = and_then-answered (block name 30) (λ good. done true) (block-answered name 30) (λ good. tt)
step-answered name Once = λ a. tt

run-answered : (names : List (List ℕ)) (mode : Mode) → IsAnswered (run names mode)
run-answered [] mode = tt
run-answered (name ∷ names) mode =
    let rest = run-answered names mode in
    and_then-answered (step name mode) (λ good. if good then run names mode else done false) (step-answered name mode) (λ good. either-answered good (run names mode) (done false) rest tt)

-- ---- states

modules-answered : (k : ℕ) (kinds : List (List ℕ)) (state : ModState) (every good : Bool) → IsAnswered (modules k kinds state every good)
modules-answered k [] state every good = tt
modules-answered k (kind ∷ kinds) state every good =
    λ a. let ok : Bool = is_success a in either-answered (ok || every) (modules (k + 1) kinds state every (good && ok)) (done false) (modules-answered (k + 1) kinds state every (good && ok)) tt

children-answered : (kinds : List (List ℕ)) (child : Child) (every : Bool) → IsAnswered (child_calls kinds child every)
children-answered kinds (Module state) every = modules-answered 0 kinds state every true
children-answered kinds SystemReboot every = λ a. tt

main-answered : (kinds : List (List ℕ)) (main : Option Main) → IsAnswered (main_call kinds main)
main-answered kinds None = tt
main-answered kinds (Some m) = and_then-answered (child_calls kinds m.child (calls_every m.mode)) (λ good. done (is_ignored m.mode || good)) (children-answered kinds m.child (calls_every m.mode)) (λ good. tt)

questions-answered : (k : ℕ) (kinds : List (List ℕ)) (q : Query) (so_far : Heard) → IsAnswered (questions k kinds q so_far)
questions-answered k [] q so_far = tt
questions-answered k (kind ∷ kinds) q so_far =
    λ a. let h : Heard = heard q a in either-answered (is_failed h) (done Failed) (questions (k + 1) kinds q (together so_far h)) tt (questions-answered (k + 1) kinds q (together so_far h))

question-answered : (kinds : List (List ℕ)) (query : Option Query) → IsAnswered (question kinds query)
question-answered kinds None = tt
question-answered kinds (Some q) = questions-answered 0 kinds q Fine

scripts-answered : (who : Callees) (action : Action) (runs : Option StageRun) → IsAnswered (scripts who action runs)
scripts-answered who action None = tt
scripts-answered who action (Some r) = run-answered (due_at who r.stage action) r.mode

errors-answered : (who : Callees) (stage : Option Stage) → IsAnswered (errors who stage)
errors-answered who None = tt
errors-answered who (Some stage) = run-answered (due_at who stage Error) Once

good-answered : (t : Course Bool) (next : Course Heard) → IsAnswered t → IsAnswered next → IsAnswered (if_good t next)
good-answered t next keeps after = and_then-answered t (λ good. if good then next else done Failed) keeps (λ good. either-answered good next (done Failed) after tt)

module _ (who : Callees) (row : Row) where
  calls-answered : IsAnswered (calls who row)
  calls-answered =
      good-answered (scripts who Enter row.enter) (after_enter who row) (scripts-answered who Enter row.enter)
      (good-answered (main_call who.kinds row.main) (after_main who row) (main-answered who.kinds row.main)
      (and_then-answered (question who.kinds row.query) (after_question who row) (question-answered who.kinds row.query) (λ h.
      either-answered (is_failed h) (done Failed) (if_good (scripts who Leave row.leave) (done h)) tt (good-answered (scripts who Leave row.leave) (done h) (scripts-answered who Leave row.leave) tt))))

  pub word-answered : IsAnswered (word who row)
  word-answered = and_then-answered (calls who row) (after_calls who row) calls-answered (λ h.
      either-answered (is_failed h) (and_then (errors who row.error) (λ _. done Failed)) (done h) (and_then-answered (errors who row.error) (λ _. done Failed) (errors-answered who row.error) (λ _. tt)) tt)

-- ---- a deployment

no-start : false ≡ true → ⊥
no-start h = cc

-- nothing is called at Idle
idle-word : (who : Callees) (s : State) (p : Position) (w : List Event) → p.state ≡ Idle → Part (word_at who p) w → starts_last w ≡ true → ⊥
idle-word who s p [] idle part last = no-start last
idle-word who s p (e ∷ w) idle part last = subst (λ (r : Row). Part (word who r) (e ∷ w)) (ap (λ (x : State). row_by x p.reboot) idle) part

pub last-append : (v w : List Event) → starts_last (v ++ w) ≡ true → starts_last v ≡ false → starts_last w ≡ true
last-append [] w h k = h
last-append (e ∷ []) [] h k = sym k ∙ h
last-append (e ∷ []) (f ∷ w) h k = h
last-append (e ∷ f ∷ v) w h k = last-append (f ∷ v) w h k

-- cut off behind a start, it hasn't ended
pub halted-busy : (who : Callees) {stop : Bool} {p q : Position} {events : List Event} {end : Ending} → Pieces (word_at who) stop p events end q → end ≡ Halted → starts_last events ≡ true → q.state ≢ Idle
halted-busy who {p} (goes_on w v h z f n g eq) is last =
    halted-busy who g is (last-append w v (ap starts_last (sym eq) ∙ last) (whole-ends (word_at who p) w h (word-answered who (row_of p)) f))
halted-busy who (reboots h z f n) is last = absurd cc
halted-busy who (ends s o) is last = absurd cc
halted-busy who (waits s) is last = absurd cc
halted-busy who {p} {events} (halts f) is last = λ idle. idle-word who p.state p events idle f last

running-busy : (s : State) → IsRunning s → s ≢ Idle
running-busy s z idle = subst IsRunning idle z

pub reboot-busy : (who : Callees) {stop : Bool} {p q : Position} {events : List Event} {end : Ending} → Pieces (word_at who) stop p events end q → end ≡ RebootNeeded → q.state ≢ Idle
reboot-busy who (goes_on w v h z f n g eq) is = reboot-busy who g is
reboot-busy who {p} (reboots h z f n) is = running-busy p.state z
reboot-busy who (ends s o) is = absurd cc
reboot-busy who (waits s) is = absurd cc
reboot-busy who (halts f) is = absurd cc

pub waits-busy : (who : Callees) {stop : Bool} {p q : Position} {events : List Event} {end : Ending} → Pieces (word_at who) stop p events end q → end ≡ Waits → q.state ≢ Idle
waits-busy who (goes_on w v h z f n g eq) is = waits-busy who g is
waits-busy who (reboots h z f n) is = absurd cc
waits-busy who (ends s o) is = absurd cc
waits-busy who (waits s) is = λ idle. let both : Wait ≡ Idle = sym s ∙ idle in cc
waits-busy who (halts f) is = absurd cc

-- where it ended it stands at Idle, with its outcome
pub ended-idle : (who : Callees) {stop : Bool} {p q : Position} {events : List Event} {end : Ending} (o : Outcome) → Pieces (word_at who) stop p events end q → end ≡ Ended o → (q.state ≡ Idle) × (q.outcome ≡ o)
ended-idle who o (goes_on w v h z f n g eq) is = ended-idle who o g is
ended-idle who o (reboots h z f n) is = absurd cc
ended-idle who o (ends s k) is = (s, k ∙ cc)
ended-idle who o (waits s) is = absurd cc
ended-idle who o (halts f) is = absurd cc
