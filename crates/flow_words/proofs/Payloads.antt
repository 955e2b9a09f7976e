-- The calls of each payload go on by one payload.
use Rattle.std.proofs.Common.{◌≡◌, ℕ, ◌+◌, ◌<◌, Bool, true, false, List, ◌∷◌, drop, get_or, length, cond, refl, sym, subst}
use Rattle.std.specs.Prelude.{◌||◌, ◌&&◌}
use Rattle.std.proofs.lemmas.List.{at_drop_more}
use Rattle.device_model.specs.declared.calls.Call.TheVariants.{Module}
use Rattle.device_model.specs.declared.calls.ModState.{ModState}
use Rattle.device_model.specs.declared.calls.Query.{Query}
use Rattle.device_model.specs.State.{State}
use Rattle.flow_table.specs.declared.table.Heard.{Heard}
use Rattle.flow_table.specs.declared.table.Heard.TheVariants.{Failed}
use Rattle.flow_words.specs.Course.{Course, done, and_then}
use Rattle.flow_words.specs.Stretch.{Finishes, Stops}
use Rattle.flow_words.specs.Words.{child_good, modules, one_question, questions, is_failed, together}
use Rattle.flow_words.proofs.Reach.{Reaches, Reaches-more, Reaches-stop, Finishes-done, Finishes-and_then}

and-true : (b : Bool) → (b && true) ≡ b
and-true true = refl
and-true false = refl

and-false : (b : Bool) → (b && false) ≡ false
and-false true = refl
and-false false = refl

pub or-true : (b : Bool) → (b || true) ≡ true
or-true true = refl
or-true false = refl

-- what follows one payload's call
abbrev pub after_module : ℕ → List (List ℕ) → ModState → Bool → Bool → Bool → Course Bool
after_module k kinds state every good ok = cond (ok || every) (modules (k + 1) kinds state every (good && ok)) (done false)

module _ {t : Course Bool} {old mid : State} (kinds : List (List ℕ)) (state : ModState) (every good : Bool) (i : ℕ) (kind : List ℕ) (inside : i < length kinds) (is : kind ≡ get_or kinds i kind) (h : Reaches t old (modules i (drop i kinds) state every good) mid) where
  reached : Reaches t old (and_then (child_good (Module i kind state)) (after_module i (drop (i + 1) kinds) state every good)) mid
  reached =
      let e = at_drop_more (λ xs. modules i xs state every good) kinds i kind inside in
      let h' = subst (λ s. Reaches t old s mid) e h in
      subst (λ x. Reaches t old (modules i (x ∷ drop (i + 1) kinds) state every good) mid) (sym is) h'

  pub module-stop : {new : State} → Stops (child_good (Module i kind state)) mid new → Stops t old new
  module-stop s = Reaches-stop (after_module i (drop (i + 1) kinds) state every good) reached s

  pub module-more : {new : State} {ok : Bool} → Finishes (child_good (Module i kind state)) ok mid new → Reaches t old (after_module i (drop (i + 1) kinds) state every good ok) new
  module-more f = Reaches-more (after_module i (drop (i + 1) kinds) state every good) reached f

  pub module-good : {new : State} → Finishes (child_good (Module i kind state)) true mid new → Reaches t old (modules (i + 1) (drop (i + 1) kinds) state every good) new
  module-good {new} f = subst (λ b. Reaches t old (modules (i + 1) (drop (i + 1) kinds) state every b) new) (and-true good) (module-more f)

  pub module-bad : {new : State} → every ≡ true → Finishes (child_good (Module i kind state)) false mid new → Reaches t old (modules (i + 1) (drop (i + 1) kinds) state every false) new
  module-bad {new} e f =
      let r = subst (λ b. Reaches t old (cond b (modules (i + 1) (drop (i + 1) kinds) state every (good && false)) (done false)) new) e (module-more f) in
      subst (λ b. Reaches t old (modules (i + 1) (drop (i + 1) kinds) state every b) new) (and-false good) r

-- a main call whose answers may be ignored
pub main-finished : {t : Course Bool} {old new : State} {b : Bool} (ignored result : Bool) → (ignored || b) ≡ result → Finishes t b old new → Finishes (and_then t (λ good. done (ignored || good))) result old new
main-finished {new} {b} ignored result e f =
    Finishes-and_then (λ good. done (ignored || good)) f (subst (λ r. Finishes (done (ignored || b)) r new new) e (Finishes-done (ignored || b) new f.stretch.passed.ends.on))

-- what follows one question
abbrev pub after_one : ℕ → List (List ℕ) → Query → Heard → Heard → Course Heard
after_one k kinds q so_far h = cond (is_failed h) (done Failed) (questions (k + 1) kinds q (together so_far h))

module _ {t : Course Heard} {old mid : State} (kinds : List (List ℕ)) (q : Query) (so_far : Heard) (i : ℕ) (kind : List ℕ) (inside : i < length kinds) (is : kind ≡ get_or kinds i kind) (h : Reaches t old (questions i (drop i kinds) q so_far) mid) where
  asked : Reaches t old (and_then (one_question i kind q) (after_one i (drop (i + 1) kinds) q so_far)) mid
  asked =
      let e = at_drop_more (λ xs. questions i xs q so_far) kinds i kind inside in
      let h' = subst (λ s. Reaches t old s mid) e h in
      subst (λ x. Reaches t old (questions i (x ∷ drop (i + 1) kinds) q so_far) mid) (sym is) h'

  pub one-stop : {new : State} → Stops (one_question i kind q) mid new → Stops t old new
  one-stop s = Reaches-stop (after_one i (drop (i + 1) kinds) q so_far) asked s

  pub one-more : {new : State} {h : Heard} → Finishes (one_question i kind q) h mid new → Reaches t old (after_one i (drop (i + 1) kinds) q so_far h) new
  one-more f = Reaches-more (after_one i (drop (i + 1) kinds) q so_far) asked f
