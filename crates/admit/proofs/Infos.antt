-- The type-infos of a tree, row by row.
use Rattle.std.proofs.Common.{◌≡◌, ◌∙◌, ℕ, ◌+◌, ◌<◌, ◌≤◌, zero, suc, List, [], ◌∷◌, ◌++◌, length, get_or, take, Option, Some, None, refl, sym, ap, arith, add-one, append-nil}
use Rattle.std.specs.Prelude.{map, slice_get}
use Rattle.std.specs.List.{All, filter_map, cons_option}
use Rattle.std.specs.Option.{option_map, option_and_then}
use Rattle.std.proofs.lemmas.List.{map-append, take_all}
use Rattle.std.proofs.lemmas.List.Elements.{All-push}
use Rattle.std.proofs.lemmas.Option.{slice_get_read}
use Rattle.upd_text.specs.Told.{WhereTold}
use Rattle.io_model.specs.Reading.{OnlyOf}
use Rattle.io_model.specs.Source.{File, Tree, Content, count_of, path_at, bytes_at, When}
use Rattle.io_model.specs.Source.Content.{Told, Untold}
use Rattle.admit.specs.Places.{place_at, info_at}
use Rattle.admit.specs.Table.{FileHead, heads_of, info_in}
use Rattle.admit.specs.Admit.{info_text, info_texts}
use Rattle.admit.specs.Given.{OnlyInfos}
use Rattle.admit.specs.Kept.{numbered_text, IsOfFile, IsInfoAt, AreInfos}
use Rattle.admit.specs.declared.reading.InfoText.{InfoText}

-- what stands at an index of the table is what stands there in the tree
pub info_in_tree : (t : Tree) (i : ℕ) → info_in (heads_of t) i ≡ info_at (place_at (path_at t i))
info_in_tree [] i = refl
info_in_tree (file ∷ files) zero = refl
info_in_tree (file ∷ files) (suc i) = info_in_tree files i

pub info_there : (heads : List FileHead) (i : ℕ) (head : FileHead) → i < length heads → head ≡ get_or heads i head → info_in heads i ≡ info_at (place_at head.path)
info_there heads i head lt is = ap (λ (o : Option FileHead). option_and_then (λ (x : FileHead). info_at (place_at x.path)) o) (slice_get_read heads (length heads) i head refl lt is)

-- ---- one file more

info_of_file : (t : Tree) (i : ℕ) → option_and_then info_text (slice_get t i) ≡ option_map (λ (k : ℕ). (k, bytes_at t i)) (info_in (heads_of t) i)
info_of_file [] i = refl
info_of_file (file ∷ files) zero = refl
info_of_file (file ∷ files) (suc i) = info_of_file files i

-- there is no type-info at this index
pub no_info_at : (c : Content) (heads : List FileHead) (i : ℕ) → When c (λ t. heads ≡ heads_of t) → info_in heads i ≡ None → When c (λ t. IsInfoAt t i None)
no_info_at (Untold n) heads i told none = tt
no_info_at (Told t) heads i told none = record {
  text = sym (info_of_file t i ∙ ap (λ (hs : List FileHead). option_map (λ (k : ℕ). (k, bytes_at t i)) (info_in hs i)) (sym told) ∙ ap (λ (o : Option ℕ). option_map (λ (k : ℕ). (k, bytes_at t i)) o) none);
  file = tt;
}

-- the type-info at this index was read
pub info_read_at : (c : Content) (heads : List FileHead) (i : ℕ) (info : InfoText) → When c (λ t. heads ≡ heads_of t) → info_in heads i ≡ Some info.payload → info.number ≡ i → When c (λ t. info.text.items ≡ bytes_at t i) → When c (λ t. IsInfoAt t i (Some info))
info_read_at (Untold n) heads i info told some number text = tt
info_read_at (Told t) heads i info told some number text = record {
  text = ap (λ (x : List ℕ). Some (info.payload, x)) text ∙ sym (info_of_file t i ∙ ap (λ (hs : List FileHead). option_map (λ (k : ℕ). (k, bytes_at t i)) (info_in hs i)) (sym told) ∙ ap (λ (o : Option ℕ). option_map (λ (k : ℕ). (k, bytes_at t i)) o) some);
  file = text ∙ ap (bytes_at t) (sym number);
}

cons_behind : {A : Type 0} (o : Option A) (xs ys : List A) → cons_option o (xs ++ ys) ≡ cons_option o xs ++ ys
cons_behind None xs ys = refl
cons_behind (Some x) xs ys = refl

taken : (t : Tree) (i : ℕ) → i < length t → filter_map info_text (take (suc i) t) ≡ filter_map info_text (take i t) ++ cons_option (option_and_then info_text (slice_get t i)) []
taken [] i lt = absurd (omega arith)
taken (file ∷ files) zero lt = refl
taken (file ∷ files) (suc i) lt = ap (λ xs. cons_option (info_text file) xs) (taken files i (omega arith)) ∙ cons_behind (info_text file) (filter_map info_text (take i files)) (cons_option (option_and_then info_text (slice_get files i)) [])

abbrev pub TextsUpTo : Content → ℕ → List InfoText → Type 0
TextsUpTo c i infos = When c (λ t. map numbered_text infos ≡ filter_map info_text (take i t))

abbrev pub FilesAre : Content → List InfoText → Type 0
FilesAre c infos = When c (λ t. All (IsOfFile t) infos)

pub none_more : (c : Content) (i : ℕ) (infos : List InfoText) → i < count_of c → When c (λ t. IsInfoAt t i None) → TextsUpTo c i infos → TextsUpTo c (i + 1) infos
none_more (Untold n) i infos lt at so = tt
none_more (Told t) i infos lt at so =
    let row : filter_map info_text (take (suc i) t) ≡ filter_map info_text (take i t) ++ [] = taken t i lt ∙ ap (λ (o : Option (ℕ × List ℕ)). filter_map info_text (take i t) ++ cons_option o []) (sym at.text) in
    rw add-one (so ∙ sym (row ∙ append-nil (filter_map info_text (take i t))))

pub one_more : (c : Content) (i : ℕ) (infos : List InfoText) (info : InfoText) → i < count_of c → When c (λ t. IsInfoAt t i (Some info)) → TextsUpTo c i infos → TextsUpTo c (i + 1) (infos ++ info ∷ [])
one_more (Untold n) i infos info lt at so = tt
one_more (Told t) i infos info lt at so =
    let row : filter_map info_text (take (suc i) t) ≡ filter_map info_text (take i t) ++ numbered_text info ∷ [] = taken t i lt ∙ ap (λ (o : Option (ℕ × List ℕ)). filter_map info_text (take i t) ++ cons_option o []) (sym at.text) in
    rw add-one (map-append numbered_text infos (info ∷ []) ∙ ap (λ xs. xs ++ numbered_text info ∷ []) so ∙ sym row)

pub file_more : (c : Content) (i : ℕ) (infos : List InfoText) (info : InfoText) → When c (λ t. IsInfoAt t i (Some info)) → FilesAre c infos → FilesAre c (infos ++ info ∷ [])
file_more (Untold n) i infos info at so = tt
file_more (Told t) i infos info at so = All-push (IsOfFile t) infos info so at.file

pub all_taken : (c : Content) (i : ℕ) (infos : List InfoText) → count_of c ≤ i → TextsUpTo c i infos → FilesAre c infos → When c (λ t. AreInfos t infos)
all_taken (Untold n) i infos le so files = tt
all_taken (Told t) i infos le so files = record { texts = so ∙ ap (filter_map info_text) (take_all i t le); files = files }

-- ---- what was read

pub nothing_read : (heads : List FileHead) (given : Option (List ℕ)) → WhereTold (OnlyInfos heads) given given
nothing_read heads None = tt
nothing_read heads (Some a) = λ j none. refl

pub read_then : (heads : List FileHead) (old mid new : Option (List ℕ)) → WhereTold (OnlyInfos heads) old mid → WhereTold (OnlyInfos heads) mid new → WhereTold (OnlyInfos heads) old new
read_then heads None None None h k = tt
read_then heads None None (Some c) h k = absurd k
read_then heads None (Some b) new h k = absurd h
read_then heads (Some a) None new h k = absurd h
read_then heads (Some a) (Some b) None h k = absurd k
read_then heads (Some a) (Some b) (Some c) h k = λ j none. k j none ∙ h j none

-- the file that was read is a type-info
pub info_alone : (heads : List FileHead) (i k : ℕ) (old new : Option (List ℕ)) → info_in heads i ≡ Some k → WhereTold (OnlyOf i) old new → WhereTold (OnlyInfos heads) old new
info_alone heads i k None None some h = tt
info_alone heads i k None (Some b) some h = absurd h
info_alone heads i k (Some a) None some h = absurd h
info_alone heads i k (Some a) (Some b) some h = λ j none. h j (λ same. differ (sym some ∙ ap (info_in heads) (sym same) ∙ none))
  where
    differ : {x : ℕ} → Some x ≡ None → ⊥
    differ e = cc
