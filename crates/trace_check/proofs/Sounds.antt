-- What is read of a line is what it says.
use Rattle.std.proofs.Common.{◌≡◌, ℕ, Bool, true, false, List, ◌++◌, length, take, drop, cond, refl, sym, ap, ◌∙◌, inl, inr, ◌⊎◌}
use Rattle.std.specs.Prelude.{nat_eq, Option, Some, None}
use Rattle.std.specs.Cmp.Lexicographic.{same_text}
use Rattle.std.specs.List.{starts_with}
use Rattle.std.specs.Option.{option_and_then, option_map}
use Rattle.std.proofs.lemmas.List.{take-append-drop}
use Rattle.trace_check.specs.Lines.{tag, only, behind}

-- what stands behind a word
pub tag-is : (word text rest : List ℕ) → tag word text ≡ Some rest → text ≡ word ++ rest
tag-is word text rest is = by (starts_with nat_eq text word) refl is where
  by : (t : Bool) → starts_with nat_eq text word ≡ t → cond t (Some (drop (length word) text)) None ≡ Some rest → text ≡ word ++ rest
  by true begins found =
      let front : take (length word) text ≡ word = sym (same_text word (take (length word) text) (sym begins)) in
      let back : drop (length word) text ≡ rest = cc in
      sym (take-append-drop (length word) text) ∙ ap (λ (l : List ℕ). l ++ drop (length word) text) front ∙ ap (λ (l : List ℕ). word ++ l) back
  by false begins found = cc

-- what passes a test was there, and passes
pub only-is : {A : Type 0} (test : A → Bool) (o : Option A) (x : A) → only test o ≡ Some x → (o ≡ Some x) × (test x ≡ true)
only-is test None x is = cc
only-is {A} test (Some y) x is = by (test y) refl is where
  by : (t : Bool) → test y ≡ t → cond t (Some y) None ≡ Some x → (◌≡◌ {A = Option A} (Some y) (Some x)) × (test x ≡ true)
  by true passes found = let same : y ≡ x = cc in (ap Some same, ap test (sym same) ∙ passes)
  by false passes found = cc

pub then-is : {A B : Type 0} (f : A → Option B) (o : Option A) (y : B) → option_and_then f o ≡ Some y → (x : A) × (o ≡ Some x) × (f x ≡ Some y)
then-is f None y is = cc
then-is f (Some x) y is = (x, refl, is)

pub map-is : {A B : Type 0} (f : A → B) (o : Option A) (y : B) → option_map f o ≡ Some y → (x : A) × (o ≡ Some x) × (f x ≡ y)
map-is f None y is = cc
map-is f (Some x) y is = (x, refl, cc)

-- a word is there, or the rest
pub behind-is : {A : Type 0} (o : Option (List ℕ)) (f : List ℕ → Option A) (rest : Option A) (y : A) → behind o f rest ≡ Some y → ((text : List ℕ) × (o ≡ Some text) × (f text ≡ Some y)) ⊎ ((o ≡ None) × (rest ≡ Some y))
behind-is None f rest y is = inr (refl, is)
behind-is (Some text) f rest y is = inl (text, refl, is)
