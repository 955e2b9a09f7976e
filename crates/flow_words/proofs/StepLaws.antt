-- A word of a state is a run of it, step by step.
use Rattle.std.proofs.Common.{◌≡◌, Bool, true, false, List, [], ◌++◌, cond, refl, sym, ap, ◌∙◌, subst, append-nil}
use Rattle.device_model.specs.declared.calls.Event.{Event}
use Rattle.script_names.specs.declared.place.Action.TheVariants.{Enter, Leave}
use Rattle.flow_table.specs.declared.table.Heard.{Heard}
use Rattle.flow_table.specs.declared.table.Heard.TheVariants.{Failed, Fine, Undoable, Needs}
use Rattle.flow_words.specs.declared.rows.Row.{Row}
use Rattle.flow_words.specs.Course.{Course, done, and_then, Whole}
use Rattle.flow_words.specs.Words.{Callees, if_good, scripts, main_call, question, calls, errors, word, is_failed}
use Rattle.flow_words.specs.Steps.{IsCalls, enter_failed, main_failed, question_failed, leave_failed, all_well, IsRun, well, failed}
use Rattle.flow_words.proofs.Courses.{Whole-and_then}
use Rattle.flow_words.proofs.StateCalls.{after_question, after_main, after_enter, after_calls}
use Rattle.flow_words.proofs.Splits.{Whole-split, done-split}

is-failed : (h : Heard) → is_failed h ≡ true → h ≡ Failed
is-failed Failed e = refl
is-failed Fine e = absurd cc
is-failed (Undoable can) e = absurd cc
is-failed (Needs reboot) e = absurd cc

-- ---- from the word to the steps

module _ (who : Callees) (row : Row) where
  leave-by : (enter main asked front back : List Event) (q h : Heard) (good : Bool) → Whole (scripts who Enter row.enter) enter true → Whole (main_call who.kinds row.main) main true → Whole (question who.kinds row.query) asked q → is_failed q ≡ false → Whole (scripts who Leave row.leave) front good → Whole (cond good (done q) (done Failed)) back h → IsCalls who row (enter ++ (main ++ (asked ++ (front ++ back)))) h
  leave-by enter main asked front back q h true e m a f l x =
      let d = done-split q h back x in
      let is : front ++ back ≡ front = ap (λ (z : List Event). front ++ z) d.0 ∙ append-nil front in
      subst (λ (z : Heard). IsCalls who row (enter ++ (main ++ (asked ++ (front ++ back)))) z) d.1 (all_well enter main asked front q e m a f l (ap (λ (z : List Event). enter ++ (main ++ (asked ++ z))) is))
  leave-by enter main asked front back q h false e m a f l x =
      let d = done-split Failed h back x in
      let is : front ++ back ≡ front = ap (λ (z : List Event). front ++ z) d.0 ∙ append-nil front in
      subst (λ (z : Heard). IsCalls who row (enter ++ (main ++ (asked ++ (front ++ back)))) z) d.1 (leave_failed enter main asked front q e m a f l (ap (λ (z : List Event). enter ++ (main ++ (asked ++ z))) is))

  question-by : (enter main asked back : List Event) (q h : Heard) (b : Bool) → Whole (scripts who Enter row.enter) enter true → Whole (main_call who.kinds row.main) main true → Whole (question who.kinds row.query) asked q → is_failed q ≡ b → Whole (cond b (done Failed) (if_good (scripts who Leave row.leave) (done q))) back h → IsCalls who row (enter ++ (main ++ (asked ++ back))) h
  question-by enter main asked back q h true e m a f x =
      let d = done-split Failed h back x in
      subst (λ (z : Heard). IsCalls who row (enter ++ (main ++ (asked ++ back))) z) d.1
      (question_failed enter main asked q e m a f (ap (λ (z : List Event). enter ++ (main ++ z)) (ap (λ (z : List Event). asked ++ z) d.0 ∙ append-nil asked)))
  question-by enter main asked back q h false e m a f x =
      let s = Whole-split (scripts who Leave row.leave) (λ good. cond good (done q) (done Failed)) back h x in
      subst (λ (z : List Event). IsCalls who row (enter ++ (main ++ (asked ++ z))) h) (sym s.is) (leave-by enter main asked s.front s.back q h s.middle e m a f s.first s.second)

  main-by : (enter main back : List Event) (h : Heard) (good : Bool) → Whole (scripts who Enter row.enter) enter true → Whole (main_call who.kinds row.main) main good → Whole (cond good (after_main who row) (done Failed)) back h → IsCalls who row (enter ++ (main ++ back)) h
  main-by enter main back h true e m x =
      let s = Whole-split (question who.kinds row.query) (after_question who row) back h x in
      subst (λ (z : List Event). IsCalls who row (enter ++ (main ++ z)) h) (sym s.is) (question-by enter main s.front s.back s.middle h (is_failed s.middle) e m s.first refl s.second)
  main-by enter main back h false e m x =
      let d = done-split Failed h back x in
      subst (λ (z : Heard). IsCalls who row (enter ++ (main ++ back)) z) d.1
      (main_failed enter main e m (ap (λ (z : List Event). enter ++ z) (ap (λ (z : List Event). main ++ z) d.0 ∙ append-nil main)))

  enter-by : (enter back : List Event) (h : Heard) (good : Bool) → Whole (scripts who Enter row.enter) enter good → Whole (cond good (after_enter who row) (done Failed)) back h → IsCalls who row (enter ++ back) h
  enter-by enter back h true e x =
      let s = Whole-split (main_call who.kinds row.main) (λ good. cond good (after_main who row) (done Failed)) back h x in
      subst (λ (z : List Event). IsCalls who row (enter ++ z) h) (sym s.is) (main-by enter s.front s.back h s.middle e s.first s.second)
  enter-by enter back h false e x =
      let d = done-split Failed h back x in
      subst (λ (z : Heard). IsCalls who row (enter ++ back) z) d.1
      (subst (λ (z : List Event). IsCalls who row z Failed) (sym (ap (λ (z : List Event). enter ++ z) d.0 ∙ append-nil enter)) (enter_failed e))

  calls-steps : (w : List Event) (h : Heard) → Whole (calls who row) w h → IsCalls who row w h
  calls-steps w h x =
      let s = Whole-split (scripts who Enter row.enter) (λ good. cond good (after_enter who row) (done Failed)) w h x in
      subst (λ (z : List Event). IsCalls who row z h) (sym s.is) (enter-by s.front s.back h s.middle s.first s.second)

  run-by : (front back : List Event) (q h : Heard) (b : Bool) → IsCalls who row front q → is_failed q ≡ b → Whole (cond b (and_then (errors who row.error) (λ _. done Failed)) (done q)) back h → IsRun who row (front ++ back) h
  run-by front back q h true made f x =
      let s = Whole-split (errors who row.error) (λ _. done Failed) back h x in
      let d = done-split Failed h s.back s.second in
      let is : back ≡ s.front = s.is ∙ ap (λ (z : List Event). s.front ++ z) d.0 ∙ append-nil s.front in
      subst (λ (z : Heard). IsRun who row (front ++ back) z) d.1
      (failed front s.front s.middle (subst (λ (z : Heard). IsCalls who row front z) (is-failed q f) made) s.first (ap (λ (z : List Event). front ++ z) is))
  run-by front back q h false made f x =
      let d = done-split q h back x in
      subst (λ (z : List Event). IsRun who row z h) (sym (ap (λ (z : List Event). front ++ z) d.0 ∙ append-nil front))
      (subst (λ (z : Heard). IsRun who row front z) d.1 (well f made))

  pub run-of-word : (w : List Event) (h : Heard) → Whole (word who row) w h → IsRun who row w h
  run-of-word w h x =
      let s = Whole-split (calls who row) (after_calls who row) w h x in
      subst (λ (z : List Event). IsRun who row z h) (sym s.is) (run-by s.front s.back s.middle h (is_failed s.middle) (calls-steps s.front s.middle s.first) refl s.second)

-- ---- from the steps to the word

-- a step and what follows it, by whether it was good
good-then : (t : Course Bool) (next : Course Heard) (u v : List Event) (good : Bool) (h : Heard) → Whole t u good → Whole (cond good next (done Failed)) v h → Whole (if_good t next) (u ++ v) h
good-then t next u v good h x y = Whole-and_then t (λ b. cond b next (done Failed)) u v good h x y

good-last : (t : Course Bool) (next : Course Heard) (u : List Event) → Whole t u false → Whole (if_good t next) u Failed
good-last t next u x = subst (λ (z : List Event). Whole (if_good t next) z Failed) (append-nil u) (good-then t next u [] false Failed x refl)

module _ (who : Callees) (row : Row) where
  to-calls : (w v : List Event) (h : Heard) → w ≡ v → Whole (calls who row) v h → Whole (calls who row) w h
  to-calls w v h is x = subst (λ (z : List Event). Whole (calls who row) z h) (sym is) x

  asked-last : (u : List Event) (q : Heard) → Whole (question who.kinds row.query) u q → is_failed q ≡ true → Whole (after_main who row) u Failed
  asked-last u q x f =
      let rest : Whole (after_question who row q) [] Failed = rw f refl in
      subst (λ (z : List Event). Whole (after_main who row) z Failed) (append-nil u) (Whole-and_then (question who.kinds row.query) (after_question who row) u [] q Failed x rest)

  asked-then : (u v : List Event) (q h : Heard) → Whole (question who.kinds row.query) u q → is_failed q ≡ false → Whole (if_good (scripts who Leave row.leave) (done q)) v h → Whole (after_main who row) (u ++ v) h
  asked-then u v q h x f y =
      let rest : Whole (after_question who row q) v h = rw f y in
      Whole-and_then (question who.kinds row.query) (after_question who row) u v q h x rest

  left-well : (u : List Event) (q : Heard) → Whole (scripts who Leave row.leave) u true → Whole (if_good (scripts who Leave row.leave) (done q)) u q
  left-well u q x = subst (λ (z : List Event). Whole (if_good (scripts who Leave row.leave) (done q)) z q) (append-nil u) (good-then (scripts who Leave row.leave) (done q) u [] true q x refl)

  calls-of-steps : (w : List Event) (h : Heard) → IsCalls who row w h → Whole (calls who row) w h
  calls-of-steps w h (enter_failed x) = good-last (scripts who Enter row.enter) (after_enter who row) w x
  calls-of-steps w h (main_failed u m x y is) = to-calls w (u ++ m) Failed is (good-then (scripts who Enter row.enter) (after_enter who row) u m true Failed x (good-last (main_call who.kinds row.main) (after_main who row) m y))
  calls-of-steps w h (question_failed u m a q x y z f is) = to-calls w (u ++ (m ++ a)) Failed is
      (good-then (scripts who Enter row.enter) (after_enter who row) u (m ++ a) true Failed x (good-then (main_call who.kinds row.main) (after_main who row) m a true Failed y (asked-last a q z f)))
  calls-of-steps w h (leave_failed u m a l q x y z f k is) = to-calls w (u ++ (m ++ (a ++ l))) Failed is
      (good-then (scripts who Enter row.enter) (after_enter who row) u (m ++ (a ++ l)) true Failed x (good-then (main_call who.kinds row.main) (after_main who row) m (a ++ l) true Failed y
      (asked-then a l q Failed z f (good-last (scripts who Leave row.leave) (done q) l k))))
  calls-of-steps w h (all_well u m a l q x y z f k is) = to-calls w (u ++ (m ++ (a ++ l))) q is
      (good-then (scripts who Enter row.enter) (after_enter who row) u (m ++ (a ++ l)) true q x (good-then (main_call who.kinds row.main) (after_main who row) m (a ++ l) true q y
      (asked-then a l q q z f (left-well l q k))))

  pub word-of-run : (w : List Event) (h : Heard) → IsRun who row w h → Whole (word who row) w h
  word-of-run w h (well f x) =
      let rest : Whole (after_calls who row h) [] h = rw f refl in
      subst (λ (z : List Event). Whole (word who row) z h) (append-nil w) (Whole-and_then (calls who row) (after_calls who row) w [] h h (calls-of-steps w h x) rest)
  word-of-run w h (failed u v good x y is) =
      let rest : Whole (after_calls who row Failed) v Failed = subst (λ (z : List Event). Whole (and_then (errors who row.error) (λ _. done Failed)) z Failed) (append-nil v) (Whole-and_then (errors who row.error) (λ _. done Failed) v [] good Failed y refl) in
      subst (λ (z : List Event). Whole (word who row) z Failed) (sym is) (Whole-and_then (calls who row) (after_calls who row) u v Failed Failed (calls-of-steps u Failed x) rest)
