-- What the first unmet want says.
use Rattle.std.proofs.Common.{◌≡◌, ℕ, Bool, true, false, cond, List, [], ◌∷◌, get_or, Option, Some, None, refl, sym, ap, subst, ◌∙◌}
use Rattle.std.specs.Prelude.{All, Contains}
use Rattle.std.specs.List.{list_any}
use Rattle.std.specs.Str.{bytes_eq}
use Rattle.std.proofs.lemmas.Bool.{true≢false}
use Rattle.std.proofs.lemmas.List.Folds.{Any-from_list_any, list_any_at}
use Rattle.std.proofs.lemmas.List.Elements.{All-nil, All-cons, All-head, All-tail}
use Rattle.std.proofs.lemmas.Slice.Eq.{bytes_eq-Decides}
use Rattle.provides_map.specs.Pairs.{Pairs}
use Rattle.provides_map.specs.After.{allows, value_of, first_unmet}
use Rattle.provides_map.specs.ByKey.{IsMet, IsFirstUnmet, TellsUnmet}
use Rattle.provides_map.specs.declared.change.Want.{Want}

means_allowed : (allowed : List (List ℕ)) (value : List ℕ) → list_any (λ a. bytes_eq a value) allowed ≡ true → Contains allowed value
means_allowed allowed value h =
    let a = Any-from_list_any (λ x. bytes_eq x value) allowed h in
    let same : a.1 ≡ value = (bytes_eq-Decides a.1 value).0 a.4 in
    (a.0, a.2, subst (λ (x : List ℕ). get_or allowed a.0 x ≡ x) same a.3)

allowed_is : (allowed : List (List ℕ)) (value : List ℕ) → Contains allowed value → list_any (λ a. bytes_eq a value) allowed ≡ true
allowed_is allowed value h = list_any_at (λ a. bytes_eq a value) allowed h.0 value h.1 ((bytes_eq-Decides (get_or allowed h.0 value) value).1 h.2)

-- some value is there, and it is allowed
abbrev Has : List (List ℕ) → Option (List ℕ) → Type 0
Has allowed found = (value : List ℕ) × (found ≡ Some value) × Contains allowed value

means_allows : (allowed : List (List ℕ)) (found : Option (List ℕ)) → allows allowed found ≡ true → Has allowed found
means_allows allowed None h = absurd (true≢false (sym h))
means_allows allowed (Some value) h = (value, refl, means_allowed allowed value h)

allows_is : (allowed : List (List ℕ)) (found : Option (List ℕ)) → Has allowed found → allows allowed found ≡ true
allows_is allowed found h = ap (allows allowed) h.1 ∙ allowed_is allowed h.0 h.2

module _ (type : List ℕ) (held : Pairs) where
  -- the want that was found further on
  later : (w : Want) (wants : List Want) (want : Want) → IsMet type held w → IsFirstUnmet type held wants want → IsFirstUnmet type held (w ∷ wants) want
  later w wants want met f = record { before = w ∷ f.before; behind = f.behind; place = ap (λ (l : List Want). w ∷ l) f.place; met = All-cons (IsMet type held) w f.before met f.met; unmet = f.unmet }

  more : (w : Want) (wants : List Want) (answer : Option (List ℕ)) → IsMet type held w → TellsUnmet type held wants answer → TellsUnmet type held (w ∷ wants) answer
  more w wants None met h = All-cons (IsMet type held) w wants met h
  more w wants (Some key) met h = (h.0, later w wants h.0 met h.1, h.2)

  here : (w : Want) (wants : List Want) → (IsMet type held w → ⊥) → IsFirstUnmet type held (w ∷ wants) w
  here w wants unmet = record { before = []; behind = wants; place = refl; met = All-nil (IsMet type held); unmet = unmet }

  step : (w : Want) (wants : List Want) (b : Bool) → allows w.allowed (value_of type held w.key) ≡ b → TellsUnmet type held wants (first_unmet wants type held)
      → TellsUnmet type held (w ∷ wants) (cond b (first_unmet wants type held) (Some w.key))
  step w wants true is h = more w wants (first_unmet wants type held) (means_allows w.allowed (value_of type held w.key) is) h
  step w wants false is h = (w, here w wants (λ met. true≢false (sym (allows_is w.allowed (value_of type held w.key) met) ∙ is)), refl)

  pub tells_unmet : (wants : List Want) → TellsUnmet type held wants (first_unmet wants type held)
  tells_unmet [] = All-nil (IsMet type held)
  tells_unmet (w ∷ wants) = step w wants (allows w.allowed (value_of type held w.key)) refl (tells_unmet wants)

  pub all_met : (wants : List Want) → All (IsMet type held) wants → first_unmet wants type held ≡ None
  all_met [] h = refl
  all_met (w ∷ wants) h = rw (allows_is w.allowed (value_of type held w.key) (All-head (IsMet type held) w wants h)) (all_met wants (All-tail (IsMet type held) w wants h))
