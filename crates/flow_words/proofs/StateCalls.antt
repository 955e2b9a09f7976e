-- The calls of a state, one step after another.
use Rattle.std.proofs.Common.{◌≡◌, Bool, true, false, cond, subst}
use Rattle.device_model.specs.State.{State}
use Rattle.script_names.specs.declared.place.Action.TheVariants.{Enter, Leave}
use Rattle.flow_table.specs.declared.table.Heard.{Heard}
use Rattle.flow_table.specs.declared.table.Heard.TheVariants.{Failed}
use Rattle.flow_words.specs.declared.rows.Row.{Row}
use Rattle.flow_words.specs.Course.{Course, done, and_then}
use Rattle.flow_words.specs.Stretch.{Finishes, Stops}
use Rattle.flow_words.specs.Words.{Callees, if_good, scripts, main_call, question, calls, errors, word, is_failed}
use Rattle.flow_words.proofs.Reach.{Reaches, Reaches-start, Reaches-more, Reaches-stop, Finishes-done, Finishes-and_then, Stops-and_then, Stops-front}

-- what follows the question, the main call and the Enter scripts
abbrev pub after_question : Callees → Row → Heard → Course Heard
after_question who row h = cond (is_failed h) (done Failed) (if_good (scripts who Leave row.leave) (done h))

abbrev pub after_main : Callees → Row → Course Heard
after_main who row = and_then (question who.kinds row.query) (after_question who row)

abbrev pub after_enter : Callees → Row → Course Heard
after_enter who row = if_good (main_call who.kinds row.main) (after_main who row)

-- what follows all of them
abbrev pub after_calls : Callees → Row → Heard → Course Heard
after_calls who row h = cond (is_failed h) (and_then (errors who row.error) (λ _. done Failed)) (done h)

-- a course whose result is made of another's
pub finishes-as : {A B : Type 0} (t : Course A) (f : A → B) (a : A) (b : B) (old new : State) → f a ≡ b → Finishes t a old new → Finishes (and_then t (λ x. done (f x))) b old new
finishes-as t f a b old new is h =
    subst (λ x. Finishes (and_then t (λ y. done (f y))) x old new) is (Finishes-and_then (λ x. done (f x)) h (Finishes-done (f a) new h.stretch.passed.ends.on))

module _ {t : Course Heard} {s : Course Bool} {old mid new : State} (next : Course Heard) (h : Reaches t old (if_good s next) mid) where
  pub good-on : Finishes s true mid new → Reaches t old next new
  good-on f = Reaches-more (λ good. cond good next (done Failed)) h f

  pub good-fails : Finishes s false mid new → Finishes t Failed old new
  good-fails f = (Reaches-more (λ good. cond good next (done Failed)) h f).finishes Failed new (Finishes-done Failed new f.stretch.passed.ends.on)

  pub good-stops : Stops s mid new → Stops t old new
  good-stops f = Reaches-stop (λ good. cond good next (done Failed)) h f

module _ (who : Callees) (row : Row) {old mid : State} (entered : Finishes (scripts who Enter row.enter) true old mid) where
  pub calls-entered : Reaches (calls who row) old (after_enter who row) mid
  calls-entered = good-on (after_enter who row) (Reaches-start (calls who row) old) entered

  pub calls-made : {new : State} → Finishes (main_call who.kinds row.main) true mid new → Reaches (calls who row) old (after_main who row) new
  calls-made f = good-on (after_main who row) calls-entered f

  pub calls-asked : {made new : State} {h : Heard} → Finishes (main_call who.kinds row.main) true mid made → Finishes (question who.kinds row.query) h made new → Reaches (calls who row) old (after_question who row h) new
  calls-asked f q = Reaches-more (after_question who row) (calls-made f) q

-- an answer that is Failed, and one that isn't
pub question-fails : {t : Course Heard} {old new : State} (who : Callees) (row : Row) (h : Heard) → new.on ≡ true → is_failed h ≡ true → Reaches t old (after_question who row h) new → Finishes t Failed old new
question-fails {new} who row h on e r =
    let r' = rw e at r in r'.finishes Failed new (Finishes-done Failed new on)

pub question-good : {t : Course Heard} {old new : State} (who : Callees) (row : Row) (h : Heard) → is_failed h ≡ false → Reaches t old (after_question who row h) new → Reaches t old (if_good (scripts who Leave row.leave) (done h)) new
question-good who row h e r = rw e at r

-- the whole state
module _ (who : Callees) (row : Row) {old mid : State} (h : Heard) where
  pub word-fine : is_failed h ≡ false → Finishes (calls who row) h old mid → Finishes (word who row) h old mid
  word-fine e f =
      Finishes-and_then (after_calls who row) f (rw e (Finishes-done h mid f.stretch.passed.ends.on))

  pub word-failed : {new : State} {b : Bool} → is_failed h ≡ true → Finishes (calls who row) h old mid → Finishes (errors who row.error) b mid new → Finishes (word who row) Failed old new
  word-failed {new} e f r =
      Finishes-and_then (after_calls who row) f (rw e (Finishes-and_then (λ _. done Failed) r (Finishes-done Failed new r.stretch.passed.ends.on)))

  pub word-errors-stop : {new : State} → is_failed h ≡ true → Finishes (calls who row) h old mid → Stops (errors who row.error) mid new → Stops (word who row) old new
  word-errors-stop e f s = Stops-and_then (after_calls who row) f (rw e (Stops-front (λ _. done Failed) s))

pub word-calls-stop : (who : Callees) (row : Row) {old new : State} → Stops (calls who row) old new → Stops (word who row) old new
word-calls-stop who row s = Stops-front (after_calls who row) s
