-- Where nothing fails, a deployment is committed or waits.
use Rattle.std.proofs.Common.{◌≡◌, ◌≢◌, ℕ, zero, suc, ◌+◌, ◌<◌, Bool, true, false, List, [], ◌∷◌, ◌++◌, cond, nat_lt, refl, sym, ap, ◌∙◌, subst, append_assoc, arith}
use Rattle.std.proofs.lemmas.Bool.Decides.{nat_tests}
use Rattle.std.specs.Prelude.{◌||◌, ◌&&◌, Option, Some, None, ⊤}
use Rattle.device_model.specs.declared.calls.Answer.{Answer}
use Rattle.device_model.specs.declared.calls.Answer.TheVariants.{Exit, Reply, NotStarted}
use Rattle.device_model.specs.declared.calls.Call.TheVariants as a_call
use Rattle.device_model.specs.declared.calls.Event.{Event}
use Rattle.device_model.specs.declared.calls.Event.TheVariants.{Start, End as Ends, Pause, Loss}
use Rattle.device_model.specs.declared.calls.ModState.{ModState}
use Rattle.device_model.specs.declared.calls.Query.{Query}
use Rattle.device_model.specs.declared.calls.Query.TheVariants.{SupportsRollback, NeedsArtifactReboot}
use Rattle.script_names.specs.declared.place.Action.{Action}
use Rattle.script_names.specs.declared.place.Action.TheVariants.{Enter, Leave}
use Rattle.flow_table.specs.declared.position.Outcome.{Outcome}
use Rattle.flow_table.specs.declared.position.Outcome.TheVariants.{Undecided, Committed}
use Rattle.flow_table.specs.declared.position.Position.{Position}
use Rattle.flow_table.specs.declared.position.Reboot.{Reboot as Rebooting}
use Rattle.flow_table.specs.declared.position.Reboot.TheVariants.{No, Yes, Automatic}
use Rattle.flow_table.specs.declared.position.State.{State}
use Rattle.flow_table.specs.declared.position.State.TheVariants as at
use Rattle.flow_table.specs.declared.table.Heard.{Heard}
use Rattle.flow_table.specs.declared.table.Heard.TheVariants.{Failed, Fine, Undoable, Needs}
use Rattle.flow_table.specs.declared.table.Step.TheVariants as step
use Rattle.flow_table.specs.declared.table.Step.{Step}
use Rattle.flow_table.specs.Table.{enter_of, after_install, next_by}
use Rattle.flow_table.specs.Replies.{needs_of}
use Rattle.flow_words.specs.declared.mode.Mode.{Mode}
use Rattle.flow_words.specs.declared.mode.Mode.TheVariants.{Checked, Ignored, Once}
use Rattle.flow_words.specs.declared.rows.StageRun.{StageRun}
use Rattle.flow_words.specs.declared.rows.Child.{Child}
use Rattle.flow_words.specs.declared.rows.Child.TheVariants.{Module, SystemReboot}
use Rattle.flow_words.specs.declared.rows.Main.{Main}
use Rattle.flow_words.specs.declared.rows.Row.{Row}
use Rattle.flow_words.specs.Course.{Course, done, say, and_then, Whole}
use Rattle.flow_words.specs.Scripts.{is_success, is_retry, block, step as script_step, run}
use Rattle.flow_words.specs.Rows.{row_by}
use Rattle.flow_words.specs.Words.{Callees, due_at, if_good, scripts, calls_every, is_ignored, child_good, modules, child_calls, main_call, same_answer, together, one_question, questions, question, needs, heard, calls, errors, word, word_at, is_failed}
use Rattle.flow_words.specs.Pieces.{End, Ended, Pieces, goes_on, reboots, ends, waits, halts}
use Rattle.flow_words.specs.Well.{IsWell, GoesWell, IsGoodEnd}
use Rattle.flow_words.proofs.StateCalls.{after_question, after_main, after_enter, after_calls}
use Rattle.flow_words.proofs.Splits.{Whole-split, done-split, call-split}

module _ (can : Bool) where
  well-front : (u v : List Event) → GoesWell can (u ++ v) → GoesWell can u
  well-front u v h before behind c a is = h before (behind ++ v) c a (ap (λ (l : List Event). l ++ v) is ∙ append_assoc before (Start c ∷ Ends a ∷ behind) v)

  well-back : (u v : List Event) → GoesWell can (u ++ v) → GoesWell can v
  well-back u v h before behind c a is = h (u ++ before) behind c a (ap (λ (l : List Event). u ++ l) is ∙ sym (append_assoc u before (Start c ∷ Ends a ∷ behind)))

  -- ---- scripts

  retry-by : (name : List ℕ) (n : ℕ) (a : Answer) (w : List Event) (good : Bool) → a ≡ Exit 0 → Whole (cond (is_retry a) (say (Pause 60) (block name n)) (done (is_success a))) w good → good ≡ true
  retry-by name n a w good is h =
      let k : Whole (done true) w good = subst (λ (x : Answer). Whole (cond (is_retry x) (say (Pause 60) (block name n)) (done (is_success x))) w good) is h in
      sym (done-split true good w k).1

  block-well : (name : List ℕ) (n : ℕ) (w : List Event) (good : Bool) → Whole (block name n) w good → GoesWell can w → good ≡ true
  unfolding block
  block-well name zero w good h well =
      let c = call-split is_success (a_call.Script name) w good h in
      sym c.gives ∙ ap is_success (well [] [] (a_call.Script name) c.answer c.events)
  block-well name (suc n) [] good h well = absurd h
  block-well name (suc n) (e ∷ []) good h well = absurd h.1
  block-well name (suc n) (e ∷ Ends a ∷ w) good h well =
      retry-by name n a w good (well [] w (a_call.Script name) a (ap (λ (x : Event). x ∷ Ends a ∷ w) (sym h.0))) h.1
  block-well name (suc n) (e ∷ Start d ∷ w) good h well = absurd h.1
  block-well name (suc n) (e ∷ Pause k ∷ w) good h well = absurd h.1
  block-well name (suc n) (e ∷ Loss ∷ w) good h well = absurd h.1

  step-well : (name : List ℕ) (mode : Mode) (w : List Event) (good : Bool) → Whole (script_step name mode) w good → GoesWell can w → good ≡ true
  step-well name Checked w good h well = block-well name 30 w good h well
  step-well name Ignored w good h well =
      let s = Whole-split (block name 30) (λ _. done true) w good h in
      sym (done-split true good s.back s.second).1
  step-well name Once w good h well = sym (call-split (λ _. true) (a_call.Script name) w good h).gives

  run-well : (names : List (List ℕ)) (mode : Mode) (w : List Event) (good : Bool) → Whole (run names mode) w good → GoesWell can w → good ≡ true
  run-well [] mode w good h well = sym (done-split true good w h).1
  run-well (name ∷ names) mode w good h well =
      let s = Whole-split (script_step name mode) (λ b. cond b (run names mode) (done false)) w good h in
      let parts : GoesWell can (s.front ++ s.back) = subst (GoesWell can) s.is well in
      let b = step-well name mode s.front s.middle s.first (well-front s.front s.back parts) in
      run-well names mode s.back good (subst (λ (x : Bool). Whole (cond x (run names mode) (done false)) s.back good) b s.second) (well-back s.front s.back parts)

  scripts-well : (who : Callees) (action : Action) (runs : Option StageRun) (w : List Event) (good : Bool) → Whole (scripts who action runs) w good → GoesWell can w → good ≡ true
  scripts-well who action None w good h well = sym (done-split true good w h).1
  scripts-well who action (Some r) w good h well = run-well (due_at who r.stage action) r.mode w good h well

  -- ---- the main call and the question

  and-true : (b : Bool) → (b && true) ≡ b
  and-true true = refl
  and-true false = refl

  modules-well : (k : ℕ) (kinds : List (List ℕ)) (state : ModState) (every good : Bool) (w : List Event) (r : Bool) → Whole (modules k kinds state every good) w r → GoesWell can w → r ≡ good
  modules-well k [] state every good w r h well = sym (done-split good r w h).1
  modules-well k (kind ∷ kinds) state every good w r h well =
      let s = Whole-split (child_good (a_call.Module k kind state)) (λ (ok : Bool). cond (ok || every) (modules (k + 1) kinds state every (good && ok)) (done false)) w r h in
      let parts : GoesWell can (s.front ++ s.back) = subst (GoesWell can) s.is well in
      let c = call-split is_success (a_call.Module k kind state) s.front s.middle s.first in
      let ok : s.middle ≡ true = sym c.gives ∙ ap is_success (well-front s.front s.back parts [] [] (a_call.Module k kind state) c.answer c.events) in
      let rest : Whole (modules (k + 1) kinds state every (good && true)) s.back r = subst (λ (b : Bool). Whole (cond (b || every) (modules (k + 1) kinds state every (good && b)) (done false)) s.back r) ok s.second in
      modules-well (k + 1) kinds state every (good && true) s.back r rest (well-back s.front s.back parts) ∙ and-true good

  children-well : (kinds : List (List ℕ)) (child : Child) (every : Bool) (w : List Event) (r : Bool) → Whole (child_calls kinds child every) w r → GoesWell can w → r ≡ true
  children-well kinds (Module state) every w r h well = modules-well 0 kinds state every true w r h well
  children-well kinds SystemReboot every w r h well =
      let c = call-split is_success a_call.SystemReboot w r h in
      sym c.gives ∙ ap is_success (well [] [] a_call.SystemReboot c.answer c.events)

  or-true : (b : Bool) → (b || true) ≡ true
  or-true true = refl
  or-true false = refl

  main-well : (kinds : List (List ℕ)) (main : Option Main) (w : List Event) (good : Bool) → Whole (main_call kinds main) w good → GoesWell can w → good ≡ true
  main-well kinds None w good h well = sym (done-split true good w h).1
  main-well kinds (Some m) w good h well =
      let s = Whole-split (child_calls kinds m.child (calls_every m.mode)) (λ (b : Bool). done (is_ignored m.mode || b)) w good h in
      let parts : GoesWell can (s.front ++ s.back) = subst (GoesWell can) s.is well in
      let c = children-well kinds m.child (calls_every m.mode) s.front s.middle s.first (well-front s.front s.back parts) in
      sym (done-split (is_ignored m.mode || s.middle) good s.back s.second).1 ∙ ap (λ (b : Bool). is_ignored m.mode || b) c ∙ or-true (is_ignored m.mode)

  -- what is heard where nothing fails
  abbrev Hears : Option Query → Heard → Type 0
  Hears None h = h ≡ Fine
  Hears (Some SupportsRollback) h = h ≡ Undoable can
  Hears (Some NeedsArtifactReboot) h = (r : Rebooting) × (h ≡ Needs r)

  needs-heard : (o : Option Rebooting) → is_failed (needs o) ≡ false → (r : Rebooting) × (needs o ≡ Needs r)
  needs-heard None h = absurd cc
  needs-heard (Some r) h = (r, refl)

  reply-needs : (a : Answer) → is_failed (heard NeedsArtifactReboot a) ≡ false → (r : Rebooting) × (heard NeedsArtifactReboot a ≡ Needs r)
  reply-needs (Reply code text) h = needs-heard (needs_of code text) h
  reply-needs (Exit code) h = absurd cc
  reply-needs NotStarted h = absurd cc

  reply-heard : (k : ℕ) (kind : List ℕ) (q : Query) (a : Answer) → IsWell can (a_call.Ask k kind q) a → Hears (Some q) (heard q a)
  reply-heard k kind SupportsRollback a h = h
  reply-heard k kind NeedsArtifactReboot a h = reply-needs a h

  hears-good : (q : Query) (h : Heard) → Hears (Some q) h → is_failed h ≡ false
  hears-good SupportsRollback h k = ap is_failed k
  hears-good NeedsArtifactReboot h k = ap is_failed k.1

  same-self : (b : Bool) → same_answer b b ≡ true
  same-self true = refl
  same-self false = refl

  needs-twice : (r s : Rebooting) → (t : Rebooting) × (together (Needs r) (Needs s) ≡ Needs t)
  needs-twice No No = (No, refl)
  needs-twice No Yes = (Automatic, refl)
  needs-twice No Automatic = (Automatic, refl)
  needs-twice Yes s = (Automatic, refl)
  needs-twice Automatic s = (Automatic, refl)

  hears-both : (q : Query) (h k : Heard) → Hears (Some q) h → Hears (Some q) k → Hears (Some q) (together h k)
  hears-both SupportsRollback h k a b =
      ap (λ (x : Heard). together x k) a ∙ ap (λ (x : Heard). together (Undoable can) x) b ∙ ap (λ (x : Bool). cond x (Undoable can) Failed) (same-self can)
  hears-both NeedsArtifactReboot h k a b =
      let t = needs-twice a.0 b.0 in
      (t.0, ap (λ (x : Heard). together x k) a.1 ∙ ap (λ (x : Heard). together (Needs a.0) x) b.1 ∙ t.1)

  -- one question, and those that follow it
  asked-well : (k : ℕ) (kind : List ℕ) (kinds : List (List ℕ)) (q : Query) (so_far : Heard) (w : List Event) (h : Heard) → Whole (questions k (kind ∷ kinds) q so_far) w h → GoesWell can w
      → (a : Heard) × (v : List Event) × Hears (Some q) a × Whole (questions (k + 1) kinds q (together so_far a)) v h × GoesWell can v
  asked-well k kind kinds q so_far w h x well =
      let s = Whole-split (one_question k kind q) (λ (a : Heard). cond (is_failed a) (done Failed) (questions (k + 1) kinds q (together so_far a))) w h x in
      let parts : GoesWell can (s.front ++ s.back) = subst (GoesWell can) s.is well in
      let c = call-split (heard q) (a_call.Ask k kind q) s.front s.middle s.first in
      let means : Hears (Some q) s.middle = subst (λ (y : Heard). Hears (Some q) y) c.gives (reply-heard k kind q c.answer (well-front s.front s.back parts [] [] (a_call.Ask k kind q) c.answer c.events)) in (
        s.middle,
        s.back,
        means,
        subst (λ (b : Bool). Whole (cond b (done Failed) (questions (k + 1) kinds q (together so_far s.middle))) s.back h) (hears-good q s.middle means) s.second,
        well-back s.front s.back parts,
      )

  questions-well : (k : ℕ) (kinds : List (List ℕ)) (q : Query) (so_far : Heard) (w : List Event) (h : Heard) → Whole (questions k kinds q so_far) w h → GoesWell can w → Hears (Some q) so_far → Hears (Some q) h
  questions-well k [] q so_far w h x well hears = subst (λ (y : Heard). Hears (Some q) y) (done-split so_far h w x).1 hears
  questions-well k (kind ∷ kinds) q so_far w h x well hears =
      let o = asked-well k kind kinds q so_far w h x well in
      questions-well (k + 1) kinds q (together so_far o.0) o.1 h o.3 o.4 (hears-both q so_far o.0 hears o.2)

  question-well : (kinds : List (List ℕ)) (query : Option Query) (w : List Event) (h : Heard) → kinds ≢ [] → Whole (question kinds query) w h → GoesWell can w → (is_failed h ≡ false) × Hears query h
  question-well kinds None w h some x well = let e = sym (done-split Fine h w x).1 in (ap is_failed e, e)
  question-well [] (Some q) w h some x well = absurd (some refl)
  question-well (kind ∷ kinds) (Some q) w h some x well =
      let o = asked-well 0 kind kinds q Fine w h x well in
      let hears = questions-well 1 kinds q o.0 o.1 h o.3 o.4 o.2 in
      (hears-good q h hears, hears)

  -- ---- a state

  good-well : (t : Course Bool) (next : Course Heard) (w : List Event) (h : Heard) (Q : Type 0) → ((u : List Event) (b : Bool) → Whole t u b → GoesWell can u → b ≡ true) → ((u : List Event) → Whole next u h → GoesWell can u → Q) → Whole (if_good t next) w h → GoesWell can w → Q
  good-well t next w h Q first second x well =
      let s = Whole-split t (λ b. cond b next (done Failed)) w h x in
      let parts : GoesWell can (s.front ++ s.back) = subst (GoesWell can) s.is well in
      let b = first s.front s.middle s.first (well-front s.front s.back parts) in
      second s.back (subst (λ (y : Bool). Whole (cond y next (done Failed)) s.back h) b s.second) (well-back s.front s.back parts)

  -- what the calls of a state heard
  abbrev Heeds : Row → Heard → Type 0
  Heeds row h = (is_failed h ≡ false) × Hears row.query h

  question-then : (who : Callees) (row : Row) (w : List Event) (h : Heard) → who.kinds ≢ [] → Whole (after_main who row) w h → GoesWell can w → Heeds row h
  question-then who row w h some x well =
      let s = Whole-split (question who.kinds row.query) (after_question who row) w h x in
      let parts : GoesWell can (s.front ++ s.back) = subst (GoesWell can) s.is well in
      let q = question-well who.kinds row.query s.front s.middle some s.first (well-front s.front s.back parts) in
      let rest : Whole (if_good (scripts who Leave row.leave) (done s.middle)) s.back h = subst (λ (b : Bool). Whole (cond b (done Failed) (if_good (scripts who Leave row.leave) (done s.middle))) s.back h) q.0 s.second in
      good-well (scripts who Leave row.leave) (done s.middle) s.back h (Heeds row h) (λ u b y g. scripts-well who Leave row.leave u b y g)
      (λ u y g. subst (λ (z : Heard). Heeds row z) (done-split s.middle h u y).1 q) rest (well-back s.front s.back parts)

  calls-well : (who : Callees) (row : Row) (w : List Event) (h : Heard) → who.kinds ≢ [] → Whole (calls who row) w h → GoesWell can w → Heeds row h
  calls-well who row w h some x well =
      good-well (scripts who Enter row.enter) (after_enter who row) w h (Heeds row h) (λ u b y g. scripts-well who Enter row.enter u b y g)
      (λ v y g. good-well (main_call who.kinds row.main) (after_main who row) v h (Heeds row h) (λ u b z k. main-well who.kinds row.main u b z k) (λ u z k. question-then who row u h some z k) y g)
      x well

  word-well : (who : Callees) (row : Row) (w : List Event) (h : Heard) → who.kinds ≢ [] → Whole (word who row) w h → GoesWell can w → Heeds row h
  word-well who row w h some x well =
      let s = Whole-split (calls who row) (after_calls who row) w h x in
      let parts : GoesWell can (s.front ++ s.back) = subst (GoesWell can) s.is well in
      let q = calls-well who row s.front s.middle some s.first (well-front s.front s.back parts) in
      let rest : Whole (done s.middle) s.back h = subst (λ (b : Bool). Whole (cond b (and_then (errors who row.error) (λ _. done Failed)) (done s.middle)) s.back h) q.0 s.second in
      subst (λ (z : Heard). Heeds row z) (done-split s.middle h s.back rest).1 q

  -- ---- the states that a deployment goes through

  abbrev track : State → Outcome → ℕ → Type 0
  track at.Download o n = n ≡ 1
  track at.Install o n = n ≡ 2
  track at.Reboot o n = n ≡ 3
  track at.Wait o n = n ≡ 3
  track at.Commit o n = n ≡ 3
  track at.CommitLeave o n = (n ≡ 4) × (o ≡ Committed)
  track at.Cleanup o n = o ≡ Committed
  track at.Idle o n = o ≡ Committed
  track _ o n = ⊥

  abbrev OnTrack : Position → Type 0
  OnTrack p = track p.state p.outcome p.n

  enters : (p : Position) (s : State) (o : Outcome) → p.n < 28 → enter_of p s o ≡ record p { state = s; outcome = o; n = p.n + 1 }
  enters p s o lt = let b : nat_lt p.n 28 ≡ true = grind (arith, nat_tests) in rw b refl

  wait-by : (p : Position) (b : Bool) → p.n ≡ 2 → OnTrack (enter_of p (cond b at.Wait at.Commit) Undecided)
  wait-by p true n = subst OnTrack (sym (enters p at.Wait Undecided (omega (arith, n)))) (omega (arith, n))
  wait-by p false n = subst OnTrack (sym (enters p at.Commit Undecided (omega (arith, n)))) (omega (arith, n))

  install-by : (p : Position) (r : Rebooting) → p.n ≡ 2 → OnTrack (after_install r p)
  install-by p No n = wait-by p p.undoable n
  install-by p Yes n = subst OnTrack (sym (enters (record p { reboot = Yes }) at.Reboot Undecided (omega (arith, n)))) (omega (arith, n))
  install-by p Automatic n = subst OnTrack (sym (enters (record p { reboot = Automatic }) at.Reboot Undecided (omega (arith, n)))) (omega (arith, n))

  -- the position that is entered is on the way too
  abbrev Onward : Step → Type 0
  Onward (step.Enter q) = OnTrack q
  Onward step.Stop = ⊤

  onward-by : (s : State) (r : Rebooting) (h : Heard) (stop : Bool) (p : Position) → track s p.outcome p.n → Hears (row_by s r).query h → Onward (next_by s h stop p)
  onward-by at.Download r h stop p t k = subst (λ (x : Heard). Onward (next_by at.Download x stop p)) (sym k)
      (subst OnTrack (sym (enters (record p { undoable = can }) at.Install Undecided (omega (arith, t)))) (omega (arith, t)))
  onward-by at.Install r h stop p t k = subst (λ (x : Heard). Onward (next_by at.Install x stop p)) (sym k.1) (install-by p k.0 t)
  onward-by at.Reboot r h stop p t k = subst (λ (x : Heard). Onward (next_by at.Reboot x stop p)) (sym k) tt
  onward-by at.Commit r h stop p t k = subst (λ (x : Heard). Onward (next_by at.Commit x stop p)) (sym k)
      (subst OnTrack (sym (enters p at.CommitLeave Committed (omega (arith, t)))) (omega (arith, t), refl))
  onward-by at.CommitLeave r h stop p t k = subst (λ (x : Heard). Onward (next_by at.CommitLeave x stop p)) (sym k)
      (subst OnTrack (sym (enters p at.Cleanup Committed (omega (arith, t.0)))) refl)
  onward-by at.Cleanup r h stop p t k = subst (λ (x : Heard). Onward (next_by at.Cleanup x stop p)) (sym k) t
  onward-by at.Wait r h stop p t k = subst (λ (x : Heard). Onward (next_by at.Wait x stop p)) (sym k) tt
  onward-by at.Idle r h stop p t k = subst (λ (x : Heard). Onward (next_by at.Idle x stop p)) (sym k) tt
  onward-by _ r h stop p t k = absurd t

  good-end : (s : State) (o : Outcome) (n : ℕ) → track s o n → s ≡ at.Idle → IsGoodEnd (Ended o)
  good-end s o n t idle =
      let is : o ≡ Committed = subst (λ (x : State). track x o n) idle t in subst (λ (x : Outcome). IsGoodEnd (Ended x)) (sym is) tt

  pub pieces-well : (who : Callees) → who.kinds ≢ [] → {stop : Bool} {p q : Position} {events : List Event} {end : End} → Pieces (word_at who) stop p events end q → OnTrack p → GoesWell can events → IsGoodEnd end
  pieces-well who some {stop} {p} (goes_on {q} w v h z f n g eq) track well =
      let parts : GoesWell can (w ++ v) = subst (GoesWell can) eq well in
      let heeds = word-well who (row_by p.state p.reboot) w h some f (well-front w v parts) in
      pieces-well who some g (subst Onward n (onward-by p.state p.reboot h stop p track heeds.1)) (well-back w v parts)
  pieces-well who some (reboots h z f n) track well = tt
  pieces-well who some {p} (ends s o) track well = subst (λ (x : Outcome). IsGoodEnd (Ended x)) o (good-end p.state p.outcome p.n track s)
  pieces-well who some (waits s) track well = tt
  pieces-well who some (halts f) track well = tt
