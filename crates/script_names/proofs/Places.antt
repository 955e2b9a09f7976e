-- A script has one place.
use Rattle.std.proofs.Common.{◌≡◌, ℕ, ◌+◌, ◌≤◌, Bool, true, false, List, [], ◌∷◌, Option, Some, None, length, cond, refl, sym, ◌∙◌, ap, arith}
use Rattle.script_names.specs.declared.place.Stage.{Stage}
use Rattle.script_names.specs.declared.place.Action.{Action}
use Rattle.script_names.specs.declared.place.Action.TheVariants.{Enter, Leave, Error}
use Rattle.script_names.specs.declared.place.Place.{Place}
use Rattle.script_names.specs.Scripts.{place_of, is_at, due_of}
use Rattle.script_names.proofs.DueLemmas.{same_means}

abbrev at : Stage → Action → Place
at s a = record { stage = s; action = a }

abbrev action_or : Action → Option Place → Action
action_or a None = a
action_or a (Some p) = p.action

-- a script that stands at one place stands at no place of another action
apart : (s t : Stage) (a b : Action) (x : List ℕ) → (a ≡ b → ⊥) → is_at (at s a) x ≡ true → is_at (at t b) x ≡ false
apart s t a b x differ here = by_test (is_at (at t b) x) refl
  where
    by_test : (there : Bool) → is_at (at t b) x ≡ there → is_at (at t b) x ≡ false
    by_test false is = is
    by_test true is = absurd (differ (ap (action_or a) (sym (same_means (at s a) (place_of x) here) ∙ same_means (at t b) (place_of x) is)))

module _ {A : Type 0} (x : A) (fs gs hs xs : List A) (few : length fs + length gs + length hs ≤ length xs) where
  one-more : (a b c : Bool) → (a ≡ true → (b ≡ false) × (c ≡ false)) → (b ≡ true → c ≡ false) → length (cond a (x ∷ fs) fs) + length (cond b (x ∷ gs) gs) + length (cond c (x ∷ hs) hs) ≤ length (x ∷ xs)
  one-more true true c f g = let e : true ≡ false = (f refl).0 in absurd cc
  one-more true false true f g = let e : true ≡ false = (f refl).1 in absurd cc
  one-more true false false f g = omega (arith, few)
  one-more false true true f g = let e : true ≡ false = g refl in absurd cc
  one-more false true false f g = omega (arith, few)
  one-more false false true f g = omega (arith, few)
  one-more false false false f g = omega (arith, few)

-- those that are due at three actions are at most as many as the list has
pub due-at-three : (s t u : Stage) (xs : List (List ℕ)) → length (due_of (at s Enter) xs) + length (due_of (at t Leave) xs) + length (due_of (at u Error) xs) ≤ length xs
due-at-three s t u [] = omega arith
due-at-three s t u (x ∷ xs) =
    one-more x (due_of (at s Enter) xs) (due_of (at t Leave) xs) (due_of (at u Error) xs) xs (due-at-three s t u xs)
    (is_at (at s Enter) x) (is_at (at t Leave) x) (is_at (at u Error) x)
    (λ here. (apart s t Enter Leave x (λ e. cc) here, apart s u Enter Error x (λ e. cc) here))
    (λ here. apart t u Leave Error x (λ e. cc) here)
