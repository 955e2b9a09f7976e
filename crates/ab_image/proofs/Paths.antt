-- The paths of an artifact, file after file.
use Rattle.std.proofs.Common.{◌≡◌, ◌∙◌, ℕ, zero, suc, ◌+◌, ◌<◌, ◌≤◌, Bool, true, false, List, [], ◌∷◌, ◌++◌, length, take, refl, sym, ap, subst, add-one, arith}
use Rattle.std.specs.Prelude.{◌==◌, ◌&&◌, if◌then◌else◌, Option, Some, None, IfSome, option_map, filter, find}
use Rattle.std.specs.Option.{option_or}
use Rattle.std.proofs.lemmas.List.{length-append, length-take-le, take_all}
use Rattle.std.proofs.lemmas.List.Elements.{filter-append}
use Rattle.std.proofs.lemmas.List.Folds.{find-append}
use Rattle.std.proofs.lemmas.Bool.Decides.{nat_tests}
use Rattle.io_model.specs.Source.{File, Tree, Content, When, IsPath, path_at, bytes_at, count_of}
use Rattle.io_model.specs.Source.Content.{Told, Untold}
use Rattle.ab_image.specs.declared.artifact.Found.{Found}
use Rattle.ab_image.specs.Artifact.{is_image_path, is_image, count_images, image_of, is_type_info_path, is_type_info}
use Rattle.ab_image.specs.Finding.{AreBelow, IsFound, found_after}

-- ---- one more element

module _ {X : Type 0} (p : X → Bool) where
  count-one : (x : X) (b : Bool) → p x ≡ b → length (filter p (x ∷ [])) ≡ (if b then 1 else 0)
  count-one x true is = rw is refl
  count-one x false is = rw is refl

  count-more : (xs : List X) (x : X) (b : Bool) → p x ≡ b → length (filter p (xs ++ x ∷ [])) ≡ (if b then length (filter p xs) + 1 else length (filter p xs))
  count-more xs x true is = ap length (filter-append p xs (x ∷ [])) ∙ length-append (filter p xs) (filter p (x ∷ [])) ∙ ap (λ n. length (filter p xs) + n) (count-one x true is)
  count-more xs x false is = ap length (filter-append p xs (x ∷ [])) ∙ length-append (filter p xs) (filter p (x ∷ [])) ∙ ap (λ n. length (filter p xs) + n) (count-one x false is) ∙ omega arith

  find-one : (x : X) (b : Bool) → p x ≡ b → find p (x ∷ []) ≡ (if b then Some x else None)
  find-one x true is = rw is refl
  find-one x false is = rw is refl

  none-step : (x : X) (xs : List X) (b : Bool) → p x ≡ b → (length (filter p xs) ≡ 0 → find p xs ≡ None) → length (filter p (x ∷ xs)) ≡ 0 → find p (x ∷ xs) ≡ None
  none-step x xs true is rest e = absurd (omega (arith, rw is at e))
  none-step x xs false is rest e = rw is (rest (rw is at e))

  -- where there are none, none is found
  none-found : (xs : List X) → length (filter p xs) ≡ 0 → find p xs ≡ None
  none-found [] e = refl
  none-found (x ∷ xs) e = none-step x xs (p x) refl (none-found xs) e

or-some : {A B : Type 0} (f : A → B) (a b : Option A) (v : B) → option_map f a ≡ Some v → option_map f (option_or a b) ≡ Some v
or-some f None b v e = absurd cc
or-some f (Some x) b v e = e

or-none : {A B : Type 0} (f : A → B) (a b : Option A) → option_map f a ≡ None → option_or a b ≡ b
or-none f None b e = refl
or-none f (Some x) b e = absurd cc

-- ---- one more file

bytes-before : (before : Tree) (file : File) (i : ℕ) → i < length before → bytes_at (before ++ file ∷ []) i ≡ bytes_at before i
bytes-before [] file i lt = absurd (omega arith)
bytes-before (f ∷ fs) file zero lt = refl
bytes-before (f ∷ fs) file (suc i) lt = bytes-before fs file i (omega arith)

bytes-last : (before : Tree) (file : File) → bytes_at (before ++ file ∷ []) (length before) ≡ file.1
bytes-last [] file = refl
bytes-last (f ∷ fs) file = bytes-last fs file

module _ (before : Tree) (file : File) (found : Found) (below : AreBelow (length before) found) (is : IsFound before found) where
  images-more : (b : Bool) → is_image file ≡ b → (if b then found.images + 1 else found.images) ≡ count_images (before ++ file ∷ [])
  images-more true hit = ap (λ n. n + 1) is.images ∙ sym (count-more is_image before file true hit)
  images-more false miss = is.images ∙ sym (count-more is_image before file false miss)

  -- the image that was found stays the first
  image-kept : 0 < found.images → image_of (before ++ file ∷ []) ≡ Some (bytes_at (before ++ file ∷ []) found.image)
  image-kept some =
      ap (option_map (λ (f : File). f.1)) (find-append is_image before (file ∷ []))
      ∙ or-some (λ (f : File). f.1) (find is_image before) (find is_image (file ∷ [])) (bytes_at before found.image) (is.image some)
      ∙ ap Some (sym (bytes-before before file found.image (below.image some)))

  image-new : is_image file ≡ true → found.images ≡ 0 → image_of (before ++ file ∷ []) ≡ Some (bytes_at (before ++ file ∷ []) (length before))
  image-new hit none =
      ap (option_map (λ (f : File). f.1)) (find-append is_image before (file ∷ []) ∙ ap (λ o. option_or o (find is_image (file ∷ []))) (none-found is_image before (sym is.images ∙ none)) ∙ find-one is_image file true hit)
      ∙ ap Some (sym (bytes-last before file))

  image-more : (b z : Bool) → is_image file ≡ b → (found.images == 0) ≡ z → 0 < (if b then found.images + 1 else found.images)
      → image_of (before ++ file ∷ []) ≡ Some (bytes_at (before ++ file ∷ []) (if b && z then length before else found.image))
  image-more true true hit none some = image-new hit (grind (arith, nat_tests))
  image-more true false hit none some = image-kept (grind (arith, nat_tests))
  image-more false z miss none some = image-kept some

  type-info-more : (old : Option ℕ) → IfSome old (λ i. i < length before) → option_map (bytes_at before) old ≡ option_map (λ (f : File). f.1) (find is_type_info before) → (b : Bool) → is_type_info file ≡ b
      → option_map (bytes_at (before ++ file ∷ [])) (option_or old (if b then Some (length before) else None)) ≡ option_map (λ (f : File). f.1) (find is_type_info (before ++ file ∷ []))
  type-info-more (Some j) lt same b test =
      ap Some (bytes-before before file j lt)
      ∙ sym (or-some (λ (f : File). f.1) (find is_type_info before) (find is_type_info (file ∷ [])) (bytes_at before j) (sym same))
      ∙ sym (ap (option_map (λ (f : File). f.1)) (find-append is_type_info before (file ∷ [])))
  type-info-more None lt same true hit =
      ap Some (bytes-last before file)
      ∙ sym (ap (option_map (λ (f : File). f.1)) (find-append is_type_info before (file ∷ []) ∙ or-none (λ (f : File). f.1) (find is_type_info before) (find is_type_info (file ∷ [])) (sym same) ∙ find-one is_type_info file true hit))
  type-info-more None lt same false miss =
      sym (ap (option_map (λ (f : File). f.1)) (find-append is_type_info before (file ∷ []) ∙ or-none (λ (f : File). f.1) (find is_type_info before) (find is_type_info (file ∷ [])) (sym same) ∙ find-one is_type_info file false miss))

  found-more : IsFound (before ++ file ∷ []) (found_after found (length before) file.0)
  found-more = record {
    images = images-more (is_image file) refl;
    image = image-more (is_image file) (found.images == 0) refl refl;
    type_info = type-info-more found.type_info below.type_info is.type_info (is_type_info file) refl;
  }

below-more : (i : ℕ) (found : Found) (b z t : Bool) (old : Option ℕ) → (0 < found.images → found.image < i) → (found.images == 0) ≡ z → IfSome old (λ j. j < i)
    → (0 < (if b then found.images + 1 else found.images) → (if b && z then i else found.image) < i + 1) × IfSome (option_or old (if t then Some i else None)) (λ j. j < i + 1)
below-more i found b z t old below is at = (image b z is, type-info t old at)
  where
    image : (b z : Bool) → (found.images == 0) ≡ z → 0 < (if b then found.images + 1 else found.images) → (if b && z then i else found.image) < i + 1
    image true true is some = omega arith
    image true false is some = omega (arith, below (grind (arith, nat_tests)))
    image false z is some = omega (arith, below some)

    type-info : (t : Bool) (old : Option ℕ) → IfSome old (λ j. j < i) → IfSome (option_or old (if t then Some i else None)) (λ j. j < i + 1)
    type-info t (Some j) at = omega arith
    type-info true None at = omega arith
    type-info false None at = tt

pub below-after : (i : ℕ) (path : Option (List ℕ)) (found new : Found) → new ≡ found_after found i path → AreBelow i found → AreBelow (i + 1) new
below-after i path found new e below =
    let more = below-more i found (is_image_path path) (found.images == 0) (is_type_info_path path) found.type_info below.image refl below.type_info in
    rw e (record { image = more.0; type_info = more.1 })

pub few-after : (i : ℕ) (path : Option (List ℕ)) (found new : Found) → new ≡ found_after found i path → found.images ≤ i → new.images ≤ i + 1
few-after i path found new e few = rw e (by-test (is_image_path path))
  where
    by-test : (b : Bool) → (if b then found.images + 1 else found.images) ≤ i + 1
    by-test true = omega arith
    by-test false = omega arith

file-at : (tree : Tree) (i : ℕ) → i < length tree → take (suc i) tree ≡ take i tree ++ (path_at tree i, bytes_at tree i) ∷ []
file-at [] i lt = absurd (omega arith)
file-at (f ∷ fs) zero lt = refl
file-at (f ∷ fs) (suc i) lt = ap (λ (t : Tree). f ∷ t) (file-at fs i (omega arith))

-- one more file of a source was looked at
pub found-after : (c : Content) (i : ℕ) (path : Option (List ℕ)) (found new : Found) → i < count_of c → IsPath c i path → new ≡ found_after found i path → AreBelow i found
    → When c (λ t. IsFound (take i t) found) → When c (λ t. IsFound (take (i + 1) t) new)
found-after (Untold n) i path found new lt is e below h = tt
found-after (Told t) i path found new lt is e below h =
    let long : length (take i t) ≡ i = length-take-le i t (omega arith) in
    let here : IsFound (take i t ++ (path_at t i, bytes_at t i) ∷ []) (found_after found (length (take i t)) (path_at t i)) = found-more (take i t) (path_at t i, bytes_at t i) found (subst (λ n. AreBelow n found) (sym long) below) h in
    rw (add-one, file-at t i lt, e, is) (rw long at here)

-- what is found of all files
pub found-all : (c : Content) (i : ℕ) (found : Found) → count_of c ≤ i → When c (λ t. IsFound (take i t) found) → When c (λ t. IsFound t found)
found-all (Untold n) i found le h = tt
found-all (Told t) i found le h = rw take_all at h
