-- The scripts of a place, by what their names say.
use Rattle.std.proofs.Common.{◌≡◌, ◌↔◌, ℕ, Bool, true, false, cond, eqb, List, [], ◌∷◌, Option, Some, None, sym, ap, ◌∙◌, refl, inl, inr}
use Rattle.std.specs.List.{Contains, filter}
use Rattle.std.proofs.lemmas.Bool.{and_from, eqb-true, eq-eqb, true≢false}
use Rattle.script_names.specs.Scripts.{place_of, stage_number, action_number, same_place, is_at, due_of}
use Rattle.script_names.specs.Form.{Says}
use Rattle.script_names.specs.declared.place.Stage.{Stage}
use Rattle.script_names.specs.declared.place.Stage.TheVariants.{Download, Install, Reboot, Commit, Rollback, RollbackReboot, Failure}
use Rattle.script_names.specs.declared.place.Action.{Action}
use Rattle.script_names.specs.declared.place.Action.TheVariants.{Enter, Leave, Error}
use Rattle.script_names.specs.declared.place.Place.{Place}
use Rattle.script_names.proofs.FormLemmas.{says_place, both_true}
use Rattle.script_names.proofs.Inserted.{there_cons, contains_head, contains_tail, none_there}

-- ---- the numbers tell stages and actions apart

stage_at : ℕ → Stage
stage_at n = cond (eqb n 0) Download (cond (eqb n 1) Install (cond (eqb n 2) Reboot (cond (eqb n 3) Commit (cond (eqb n 4) Rollback (cond (eqb n 5) RollbackReboot Failure)))))

stage_again : (s : Stage) → stage_at (stage_number s) ≡ s
unfolding stage_at
stage_again Download = refl
stage_again Install = refl
stage_again Reboot = refl
stage_again Commit = refl
stage_again Rollback = refl
stage_again RollbackReboot = refl
stage_again Failure = refl

action_at : ℕ → Action
action_at n = cond (eqb n 0) Enter (cond (eqb n 1) Leave Error)

action_again : (a : Action) → action_at (action_number a) ≡ a
unfolding action_at
action_again Enter = refl
action_again Leave = refl
action_again Error = refl

pub same_means : (p : Place) (o : Option Place) → same_place p o ≡ true → o ≡ Some p
same_means p None h = absurd cc
same_means p (Some q) h =
    let both = both_true (eqb (stage_number p.stage) (stage_number q.stage)) (eqb (action_number p.action) (action_number q.action)) h in
    let stage : q.stage ≡ p.stage = sym (stage_again q.stage) ∙ ap stage_at (sym (eqb-true (stage_number p.stage) (stage_number q.stage) both.0)) ∙ stage_again p.stage in
    let action : q.action ≡ p.action = sym (action_again q.action) ∙ ap action_at (sym (eqb-true (action_number p.action) (action_number q.action) both.1)) ∙ action_again p.action in
    λ i. Some (record { stage = stage i; action = action i })

same_itself : (p : Place) (o : Option Place) → o ≡ Some p → same_place p o ≡ true
same_itself p o is = ap (same_place p) is ∙ and_from (eqb (stage_number p.stage) (stage_number p.stage)) (eqb (action_number p.action) (action_number p.action)) (eq-eqb (stage_number p.stage) (stage_number p.stage) refl) (eq-eqb (action_number p.action) (action_number p.action) refl)

-- ---- what a filter keeps

module _ (test : List ℕ → Bool) (n : List ℕ) where
  kept_at : (b : Bool) (x : List ℕ) (xs rest : List (List ℕ)) → test x ≡ b → Contains rest n ↔ (Contains xs n × (test n ≡ true)) → Contains (cond b (x ∷ rest) rest) n ↔ (Contains (x ∷ xs) n × (test n ≡ true))
  kept_at true x xs rest is more = (
    λ h. elim (there_cons x rest n h) [
      | inl e ↦ (contains_head x xs n e, ap test (sym e) ∙ is)
      | inr t ↦ (let m = more.0 t in (contains_tail x xs n m.0, m.1))
    ],
    λ h. elim (there_cons x xs n h.0) [
      | inl e ↦ contains_head x rest n e
      | inr t ↦ contains_tail x rest n (more.1 (t, h.1))
    ],
  )
  kept_at false x xs rest is more = (
    λ h. let m = more.0 h in (contains_tail x xs n m.0, m.1),
    λ h. elim (there_cons x xs n h.0) [
      | inl e ↦ absurd (true≢false (sym h.1 ∙ ap test (sym e) ∙ is))
      | inr t ↦ more.1 (t, h.1)
    ],
  )

  kept : (xs : List (List ℕ)) → Contains (filter test xs) n ↔ (Contains xs n × (test n ≡ true))
  kept [] = (λ h. absurd (none_there n h), λ h. absurd (none_there n h.0))
  kept (x ∷ xs) = kept_at (test x) x xs (filter test xs) refl (kept xs)

-- a name of the list is due exactly where it says the place
pub due_says : (place : Place) (names : List (List ℕ)) (name : List ℕ) → Contains (due_of place names) name ↔ (Contains names name × Says name place)
due_says place names name =
    let said = says_place name place in
    let left = kept (is_at place) name names in (
      λ h. let k = left.0 h in (k.0, said.0 (same_means place (place_of name) k.1)),
      λ h. left.1 (h.0, same_itself place (place_of name) (said.1 h.1)),
    )
