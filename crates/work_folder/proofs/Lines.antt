-- Lines beside the numbers of their files.
use Rattle.std.proofs.Common.{◌≡◌, ℕ, ◌+◌, ◌<◌, Bool, true, false, cond, List, [], ◌∷◌, ◌++◌, length, get_or, take, drop, Option, Some, refl, sym, ◌∙◌, ap, append_assoc, arith, suc, drop-cons}
use Rattle.std.specs.Prelude.{find, zero}
use Rattle.std.specs.List.{All, Contains, zip, filter, filter_map, cons_option}
use Rattle.std.proofs.lemmas.List.{take_more, take-append-drop}
use Rattle.std.proofs.lemmas.List.Elements.{All-nil, All-cons, All-head, All-tail, filter-append, filter_map-append}
use Rattle.std.proofs.lemmas.Slice.Zip.{length-zip, get_or-zip}
use Rattle.manifest_sums.specs.declared.manifest.Line.{Line}
use Rattle.io_model.specs.Source.{Content}
use Rattle.admit.specs.Differing.{Listed}

module _ {A : Type 0} (p : A → Bool) where
  here : (y : A) (ys : List A) (x : A) (b : Bool) → cond b (Some y) (find p ys) ≡ Some x → (find p ys ≡ Some x → Contains ys x) → Contains (y ∷ ys) x
  here y ys x true h later = (0, omega arith, cc h)
  here y ys x false h later = let c = later h in (suc c.0, let lt = c.1 in omega arith, c.2)

  pub find_among : (xs : List A) (x : A) → find p xs ≡ Some x → Contains xs x
  find_among [] x h = absurd cc
  find_among (y ∷ ys) x h = here y ys x (p y) h (find_among ys x)

  -- the first element of the rest passes, or it is passed over
  pub find_here : (xs : List A) (i : ℕ) (d : A) → i < length xs → p (get_or xs i d) ≡ true → find p (drop i xs) ≡ find p xs → find p xs ≡ Some (get_or xs i d)
  find_here xs i d lt passes h = sym h ∙ ap (λ ys. find p ys) (drop-cons xs i d lt) ∙ ap (λ b. cond b (Some (get_or xs i d)) (find p (drop (suc i) xs))) passes

  pub find_later : (xs : List A) (i : ℕ) (d : A) → i < length xs → p (get_or xs i d) ≡ false → find p (drop i xs) ≡ find p xs → find p (drop (i + 1) xs) ≡ find p xs
  find_later xs i d lt fails h =
      let one : i + 1 ≡ suc i = omega arith in
      ap (λ k. find p (drop k xs)) one ∙ sym (ap (λ ys. find p ys) (drop-cons xs i d lt) ∙ ap (λ b. cond b (Some (get_or xs i d)) (find p (drop (suc i) xs))) fails) ∙ h

pub of_numbers : (P : ℕ → Type 0) (lines : List Line) (numbers : List ℕ) → All P numbers → All (λ (r : Listed). P r.1) (zip lines numbers)
of_numbers P [] numbers h = All-nil (λ (r : Listed). P r.1)
of_numbers P (line ∷ lines) [] h = All-nil (λ (r : Listed). P r.1)
of_numbers P (line ∷ lines) (n ∷ numbers) h = All-cons (λ (r : Listed). P r.1) (line, n) (zip lines numbers) (All-head P n numbers h) (of_numbers P lines numbers (All-tail P n numbers h))

-- ---- the line at an index

pub pair_within : (lines : List Line) (numbers : List ℕ) (i : ℕ) → i < length lines → length numbers ≡ length lines → i < length (zip lines numbers)
pair_within lines numbers i lt same = omega (arith, length-zip lines numbers)

pub pair_at : (lines : List Line) (numbers : List ℕ) (i : ℕ) (line : Line) → i < length lines → length numbers ≡ length lines → line ≡ get_or lines i line → get_or (zip lines numbers) i (line, 0) ≡ (line, get_or numbers i 0)
pair_at lines numbers i line lt same is = get_or-zip lines numbers i (line, 0) lt (omega arith) ∙ ap (λ (x : Line). (x, get_or numbers i 0)) (sym is)

pub filter_map-more : {B : Type 0} (f : Listed → Option B) (lines : List Line) (numbers : List ℕ) (i : ℕ) (line : Line) → i < length lines → length numbers ≡ length lines → line ≡ get_or lines i line → filter_map f (take (i + 1) (zip lines numbers)) ≡ filter_map f (take i (zip lines numbers)) ++ cons_option (f (line, get_or numbers i 0)) []
filter_map-more f lines numbers i line lt same is =
    let pairs = zip lines numbers in
    ap (λ l. filter_map f l) (take_more pairs i (line, 0) (pair_within lines numbers i lt same)) ∙ filter_map-append f (take i pairs) (get_or pairs i (line, 0) ∷ []) ∙ ap (λ l. filter_map f (take i pairs) ++ cons_option (f l) []) (pair_at lines numbers i line lt same is)

pub filter-more : (p : Listed → Bool) (lines : List Line) (numbers : List ℕ) (i : ℕ) (line : Line) → i < length lines → length numbers ≡ length lines → line ≡ get_or lines i line → filter p (take (i + 1) (zip lines numbers)) ≡ filter p (take i (zip lines numbers)) ++ filter p ((line, get_or numbers i 0) ∷ [])
filter-more p lines numbers i line lt same is =
    let pairs = zip lines numbers in
    ap (λ l. filter p l) (take_more pairs i (line, 0) (pair_within lines numbers i lt same)) ∙ filter-append p (take i pairs) (get_or pairs i (line, 0) ∷ []) ∙ ap (λ l. filter p (take i pairs) ++ filter p (l ∷ [])) (pair_at lines numbers i line lt same is)

pub filter-whole : (p : Listed → Bool) (lines : List Line) (numbers : List ℕ) (i : ℕ) (line : Line) → i < length lines → length numbers ≡ length lines → line ≡ get_or lines i line → filter p (zip lines numbers) ≡ filter p (take i (zip lines numbers)) ++ (filter p ((line, get_or numbers i 0) ∷ []) ++ filter p (drop (i + 1) (zip lines numbers)))
filter-whole p lines numbers i line lt same is =
    let pairs = zip lines numbers in
    ap (λ l. filter p l) (sym (take-append-drop (i + 1) pairs)) ∙ filter-append p (take (i + 1) pairs) (drop (i + 1) pairs) ∙ ap (λ l. l ++ filter p (drop (i + 1) pairs)) (filter-more p lines numbers i line lt same is) ∙ append_assoc (filter p (take i pairs)) (filter p ((line, get_or numbers i 0) ∷ [])) (filter p (drop (i + 1) pairs))
