-- Where an outcome comes from.
use Rattle.std.proofs.Common.{◌≡◌, ◌⊎◌, inl, inr, ⊎_elim, ℕ, ◌+◌, Bool, true, false, cond, List, [], ◌∷◌, ◌++◌, IsTrue, refl, sym, ap, ◌∙◌, subst, append_assoc, append-nil, arith}
use Rattle.std.proofs.lemmas.Bool.Decides.{nat_tests}
use Rattle.std.specs.Prelude.{◌||◌, ◌&&◌}
use Rattle.device_model.specs.declared.calls.Answer.{Answer}
use Rattle.device_model.specs.declared.calls.Answer.TheVariants.{Exit, Reply, NotStarted}
use Rattle.device_model.specs.declared.calls.Call.TheVariants as a_call
use Rattle.device_model.specs.declared.calls.Event.{Event}
use Rattle.device_model.specs.declared.calls.Event.TheVariants.{Start, End as Ends}
use Rattle.device_model.specs.declared.calls.Call.{Call}
use Rattle.device_model.specs.declared.calls.ModState.{ModState}
use Rattle.device_model.specs.declared.calls.ModState.TheVariants.{ArtifactCommit}
use Rattle.flow_table.specs.declared.position.Outcome.TheVariants.{Committed, Inconsistent}
use Rattle.flow_table.specs.declared.position.Position.{Position}
use Rattle.flow_table.specs.declared.position.State.{State}
use Rattle.flow_table.specs.declared.position.State.TheVariants.{Commit}
use Rattle.flow_table.specs.declared.position.Reboot.{Reboot}
use Rattle.flow_table.specs.declared.table.Heard.{Heard}
use Rattle.flow_table.specs.declared.table.Heard.TheVariants.{Fine}
use Rattle.flow_table.specs.Laws.{Breaks, already, no_rollback, rollback_failed, limit}
use Rattle.flow_table.specs.Valid.{is_valid}
use Rattle.flow_table.proofs.Steps.{next_entered}
use Rattle.flow_words.specs.Course.{Course, done, Whole}
use Rattle.flow_words.specs.Scripts.{is_success}
use Rattle.flow_words.specs.Rows.{row_by}
use Rattle.flow_words.specs.Words.{Callees, child_good, modules, word, word_at}
use Rattle.flow_words.specs.Pieces.{End, Pieces, goes_on, reboots, ends, waits, halts}
use Rattle.flow_words.specs.Causes.{all_exit_0, HasCommit, Cause, cannot_roll_back, failed_to_roll_back, at_the_limit, Broke}
use Rattle.flow_words.proofs.Splits.{Whole-split, done-split, word-split, call-split}

or-false : (b : Bool) → (false || b) ≡ true → b ≡ true
or-false b h = h

and-true : (b : Bool) → b ≡ (b && true)
and-true true = refl
and-true false = refl

never-and : (b : Bool) → (b && false) ≡ true → ⊥
never-and true h = absurd cc
never-and false h = absurd cc

never-done : (w : List Event) → Whole (done false) w true → ⊥
never-done w h = let e : false ≡ true = (done-split false true w h).1 in absurd cc

is-exit-0 : (a : Answer) → is_success a ≡ true → a ≡ Exit 0
is-exit-0 (Exit code) h = let z : code ≡ 0 = grind (arith, nat_tests) in ap (λ (n : ℕ). Exit n) z
is-exit-0 (Reply code text) h = absurd cc
is-exit-0 NotStarted h = absurd cc

-- modules that were all good exited 0
modules-good : (k : ℕ) (kinds : List (List ℕ)) (state : ModState) (every good : Bool) (w : List Event) → Whole (modules k kinds state every good) w true → (good ≡ true) × (w ≡ all_exit_0 k kinds state)
modules-good k [] state every good w h = let d = done-split good true w h in (d.1, d.0)
modules-good k (kind ∷ kinds) state every good w h =
    let c : Call = a_call.Module k kind state in
    let s = Whole-split (child_good c) (λ (ok : Bool). cond (ok || every) (modules (k + 1) kinds state every (good && ok)) (done false)) w true h in
    let one = call-split is_success c s.front s.middle s.first in
    by one.answer s.front s.back s.middle every s.is one.events one.gives s.second (λ (g : Bool) (x : Whole (modules (k + 1) kinds state every g) s.back true). modules-good (k + 1) kinds state every g s.back x)
  where
    by : (a : Answer) (front back : List Event) (ok every' : Bool) → w ≡ front ++ back → front ≡ Start (a_call.Module k kind state) ∷ Ends a ∷ [] → is_success a ≡ ok
        → Whole (cond (ok || every') (modules (k + 1) kinds state every (good && ok)) (done false)) back true
        → ((g : Bool) → Whole (modules (k + 1) kinds state every g) back true → (g ≡ true) × (back ≡ all_exit_0 (k + 1) kinds state))
        → (good ≡ true) × (w ≡ all_exit_0 k (kind ∷ kinds) state)
    by a front back true every' is e s x rest =
        let r = rest (good && true) x in
        (and-true good ∙ r.0, is ∙ ap (λ (l : List Event). l ++ back) e ∙ ap (λ (z : Answer). Start (a_call.Module k kind state) ∷ Ends z ∷ back) (is-exit-0 a s) ∙ ap (λ (l : List Event). Start (a_call.Module k kind state) ∷ Ends (Exit 0) ∷ l) r.1)
    by a front back false true is e s x rest = absurd (never-and good (rest (good && false) x).0)
    by a front back false false is e s x rest = absurd (never-done back x)

-- a Commit that went well called the modules, and each exited 0
commit-by : (who : Callees) (s : State) (r : Reboot) (w : List Event) → s ≡ Commit → Whole (word who (row_by s r)) w Fine → HasCommit who.kinds w
commit-by who s r w is h =
    let t = word-split who (row_by Commit r) w Fine refl (subst (λ (x : State). Whole (word who (row_by x r)) w Fine) is h) in
    let m = Whole-split (modules 0 who.kinds ArtifactCommit false true) (λ (good : Bool). done (false || good)) t.main true t.called in
    let d = done-split (false || m.middle) true m.back m.second in
    let good : m.middle ≡ true = or-false m.middle d.1 in
    let e : t.main ≡ all_exit_0 0 who.kinds ArtifactCommit =
    m.is ∙ ap (λ (l : List Event). m.front ++ l) d.0 ∙ append-nil m.front
    ∙ (modules-good 0 who.kinds ArtifactCommit false true m.front (subst (λ (b : Bool). Whole (modules 0 who.kinds ArtifactCommit false true) m.front b) good m.first)).1 in
    record {
      before = t.enter;
      behind = t.query ++ t.leave;
      is = t.is ∙ ap (λ (l : List Event). t.enter ++ (l ++ (t.query ++ t.leave))) e;
    }

commit-front : (kinds : List (List ℕ)) (u v : List Event) → HasCommit kinds u → HasCommit kinds (u ++ v)
commit-front kinds u v h = record {
  before = h.before;
  behind = h.behind ++ v;
  is = ap (λ (l : List Event). l ++ v) h.is ∙ append_assoc h.before (all_exit_0 0 kinds ArtifactCommit ++ h.behind) v ∙ ap (λ (l : List Event). h.before ++ l) (append_assoc (all_exit_0 0 kinds ArtifactCommit) h.behind v);
}

commit-back : (kinds : List (List ℕ)) (u v : List Event) → HasCommit kinds v → HasCommit kinds (u ++ v)
commit-back kinds u v h = record {
  before = u ++ h.before;
  behind = h.behind;
  is = ap (λ (l : List Event). u ++ l) h.is ∙ sym (append_assoc u h.before (all_exit_0 0 kinds ArtifactCommit ++ h.behind));
}

-- a deployment is committed by its modules, which were called to commit and exited 0
pub committed-by : (who : Callees) {stop : Bool} {p q : Position} {events : List Event} {end : End} → Pieces (word_at who) stop p events end q → IsTrue (is_valid p) → q.outcome ≡ Committed → (p.outcome ≡ Committed) ⊎ HasCommit who.kinds events
committed-by who {stop} {p} (goes_on {q} w v h z f n g eq) valid is =
    let step = next_entered p q h stop valid n in
    ⊎_elim
    (λ (c : q.outcome ≡ Committed). ⊎_elim
    (λ (b : p.outcome ≡ Committed). inl b)
    (λ (b : (p.state ≡ Commit) × (h ≡ Fine)). inr (subst (λ (l : List Event). HasCommit who.kinds l) (sym eq) (commit-front who.kinds w v (commit-by who p.state p.reboot w b.0 (subst (λ (x : Heard). Whole (word_at who p) w x) b.1 f)))))
    (step.committed c))
    (λ (c : HasCommit who.kinds v). inr (subst (λ (l : List Event). HasCommit who.kinds l) (sym eq) (commit-back who.kinds w v c)))
    (committed-by who g step.valid is)
committed-by who (reboots h z f n) valid is = inl is
committed-by who (ends s o) valid is = inl is
committed-by who (waits s) valid is = inl is
committed-by who (halts f) valid is = inl is

cause-of : (p : Position) (h : Heard) → Breaks p h → (p.outcome ≡ Inconsistent) ⊎ Cause p h
cause-of p h (already is) = inl is
cause-of p h (no_rollback t f u) = inr (cannot_roll_back t f u)
cause-of p h (rollback_failed s f) = inr (failed_to_roll_back s f)
cause-of p h (limit n o) = inr (at_the_limit n o)

-- and it becomes inconsistent by one of three causes
pub inconsistent-by : {words : Position → Course Heard} {stop : Bool} {p q : Position} {events : List Event} {end : End} → Pieces words stop p events end q → IsTrue (is_valid p) → q.outcome ≡ Inconsistent → (p.outcome ≡ Inconsistent) ⊎ Broke words stop p events
inconsistent-by {words} {stop} {p} (goes_on {q} w v h z f n g eq) valid is =
    let step = next_entered p q h stop valid n in
    ⊎_elim
    (λ (c : q.outcome ≡ Inconsistent). ⊎_elim
    (λ (b : p.outcome ≡ Inconsistent). inl b)
    (λ (b : Cause p h). inr (record { there = p; heard = h; front = []; piece = w; back = v; is = eq; came = halts tt; ran = f; cause = b }))
    (cause-of p h (step.broken c)))
    (λ (b : Broke words stop q v). inr (record {
      there = b.there;
      heard = b.heard;
      front = w ++ b.front;
      piece = b.piece;
      back = b.back;
      is = eq ∙ ap (λ (l : List Event). w ++ l) b.is ∙ sym (append_assoc w b.front (b.piece ++ b.back));
      came = goes_on w b.front h z f n b.came refl;
      ran = b.ran;
      cause = b.cause;
    }))
    (inconsistent-by g step.valid is)
inconsistent-by (reboots h z f n) valid is = inl is
inconsistent-by (ends s o) valid is = inl is
inconsistent-by (waits s) valid is = inl is
inconsistent-by (halts f) valid is = inl is
