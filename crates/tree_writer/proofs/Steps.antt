-- One step of a loop over files or pairs.
use Rattle.std.proofs.Common.{◌≡◌, ℕ, zero, suc, ◌+◌, ◌<◌, ◌≤◌, ◌&&◌, ◌||◌, Bool, true, false, cond, List, [], ◌∷◌, ◌++◌, length, map, take, drop, get_or, Option, Some, None, refl, sym, ap, ◌∙◌, arith}
use Rattle.std.specs.Prelude.{fold, slice_get, slice_index}
use Rattle.std.specs.Option.{unwrap_or, option_and_then, option_map_or}
use Rattle.std.specs.List.{insert as insert_at, list_any}
use Rattle.std.specs.Str.{IsUtf8, is_utf8}
use Rattle.std.proofs.lemmas.List.{drop_more, take_more, length-take-le, map-append, length-map}
use Rattle.std.proofs.lemmas.List.Folds.{list_any-append}
use Rattle.std.proofs.lemmas.Option.{slice_get_within, slice_get-get_or, get_or_from_slice_get}
use Rattle.std.proofs.lemmas.Str.{IsUtf8-from_is_utf8, is_utf8-from_IsUtf8}
use Rattle.upd_text.specs.Order.{is_below}
use Rattle.serde_json.specs.Data.{Members}
use Rattle.provides_map.specs.Pairs.{Pairs}
use Rattle.io_model.specs.Source.{File, Tree, path_at}
use Rattle.tree_writer.specs.Order.{Named, named, insert, name_at, file_at, files_at}
use Rattle.tree_writer.specs.Texts.{puts, pair_member}
use Rattle.tree_writer.specs.Faults.{FilePath, paths_of, is_fresh, first_stale, pairs_are_text}

-- ---- texts

pub is_text : (bs : List ℕ) → IsUtf8 bs → true ≡ is_utf8 bs
is_text bs h = sym (is_utf8-from_IsUtf8 bs h)

pub no_text : (bs : List ℕ) → (IsUtf8 bs → ⊥) → false ≡ is_utf8 bs
no_text bs h = by (is_utf8 bs) refl
  where
    by : (b : Bool) → is_utf8 bs ≡ b → false ≡ b
    by true e = absurd (h (IsUtf8-from_is_utf8 bs e))
    by false e = refl

pub ruleset text_rules = (is_text, no_text)

-- ---- lists at a place

pub drop_at : {A : Type 0} (xs : List A) (i : ℕ) (x : A) → slice_get xs i ≡ Some x → drop i xs ≡ x ∷ drop (i + 1) xs
drop_at xs i x is = let lt = slice_get_within xs i x is in drop_more xs i x lt ∙ ap (λ (y : _). y ∷ drop (i + 1) xs) (get_or_from_slice_get xs i x x is)

pub take_at : {A : Type 0} (xs : List A) (i : ℕ) (x : A) → slice_get xs i ≡ Some x → take (i + 1) xs ≡ take i xs ++ x ∷ []
take_at xs i x is = let lt = slice_get_within xs i x is in take_more xs i x lt ∙ ap (λ (y : _). take i xs ++ y ∷ []) (get_or_from_slice_get xs i x x is)

abbrev pub none_file : File
none_file = (None, [])

pub file_there : (files : Tree) (i : ℕ) → i < length files → slice_get files i ≡ Some (get_or files i none_file)
file_there files i lt = slice_get-get_or files i none_file lt

path_is : (files : Tree) (i : ℕ) (f : File) → slice_get files i ≡ Some f → path_at files i ≡ f.0
path_is files i f is = ap (option_and_then (λ (g : File). g.0)) is

pub named_is : (files : Tree) (i : ℕ) (f : File) → slice_get files i ≡ Some f → file_at files i ≡ named f
named_is files i f is = ap (λ (o : Option File). (unwrap_or (option_and_then (λ (g : File). g.0) o) [], option_map_or (λ (g : File). g.1) o [])) is

-- ---- files in order

pub insert-there : (files : Tree) (order : List ℕ) (i p : ℕ) → p ≤ length order → ((k : ℕ) → k < p → is_below (name_at files i) (name_at files (slice_index order k)) ≡ false) → (p < length order → is_below (name_at files i) (name_at files (slice_index order p)) ≡ true)
    → files_at files (insert_at order p i) ≡ insert (files_at files order) (file_at files i)
insert-there files [] i zero le before here = refl
insert-there files [] i (suc p) le before here = absurd (omega arith)
insert-there files (j ∷ js) i zero le before here = rw (here (omega arith)) refl
insert-there files (j ∷ js) i (suc p) le before here =
    rw (before 0 (omega arith)) (ap (λ (fs : List Named). file_at files j ∷ fs) (insert-there files js i p (omega arith) (λ k lt. before (suc k) (omega arith)) (λ lt. here (omega arith))))

pub order_step : (files : Tree) (old new : List ℕ) (i : ℕ) (r : List Named) → i < length files → files_at files new ≡ insert (files_at files old) (file_at files i)
    → fold insert (files_at files old) (map named (drop i files)) ≡ r → fold insert (files_at files new) (map named (drop (i + 1) files)) ≡ r
order_step files old new i r lt made h =
    let f = get_or files i none_file in
    let is = file_there files i lt in
    ap (λ (fs : List Named). fold insert fs (map named (drop (i + 1) files))) (made ∙ ap (insert (files_at files old)) (named_is files i f is))
    ∙ sym (ap (λ (fs : Tree). fold insert (files_at files old) (map named fs)) (drop_at files i f is)) ∙ h

-- ---- names among others

paths_at : (files : Tree) (i : ℕ) → i < length files → paths_of (take (i + 1) files) ≡ paths_of (take i files) ++ path_at files i ∷ []
paths_at files i lt =
    let f = get_or files i none_file in
    let is = file_there files i lt in
    ap paths_of (take_at files i f is) ∙ map-append (λ (g : File). g.0) (take i files) (f ∷ []) ∙ ap (λ (p : FilePath). paths_of (take i files) ++ p ∷ []) (sym (path_is files i f is))

pub among_more : (p : FilePath → Bool) (files : Tree) (j : ℕ) → j < length files → p (path_at files j) ≡ false → list_any p (paths_of (take j files)) ≡ false → list_any p (paths_of (take (j + 1) files)) ≡ false
among_more p files j lt here before = ap (list_any p) (paths_at files j lt) ∙ list_any-append p (paths_of (take j files)) (path_at files j ∷ []) ∙ rw (before, here) refl

pub among_found : (p : FilePath → Bool) (files : Tree) (j i : ℕ) → j < i → i ≤ length files → p (path_at files j) ≡ true → true ≡ list_any p (paths_of (take i files))
among_found p [] j i lt le h = absurd (omega arith)
among_found p (f ∷ files) j zero lt le h = absurd (omega arith)
among_found p (f ∷ files) zero (suc i) lt le h = rw h refl
among_found p (f ∷ files) (suc j) (suc i) lt le h = rw (← among_found p files j i (omega arith) (omega arith) h) (true_or (p f.0))
  where
    true_or : (b : Bool) → true ≡ (b || true)
    true_or true = refl
    true_or false = refl

module _ (test : List ℕ → Bool) (files : Tree) (i : ℕ) (r : Option ℕ) (lt : i < length files) (so : first_stale test (paths_of (take i files)) (drop i files) ≡ r) where
  stale_at : cond (is_fresh test (paths_of (take i files)) (path_at files i)) (first_stale test (paths_of (take (i + 1) files)) (drop (i + 1) files)) (Some i) ≡ r
  stale_at =
      let f = get_or files i none_file in
      let is = file_there files i lt in
      let long : length (paths_of (take i files)) ≡ i = length-map (take i files) (λ (g : File). g.0) ∙ length-take-le i files (omega (arith, lt)) in
      let path = path_is files i f is in
      let more : paths_of (take (i + 1) files) ≡ paths_of (take i files) ++ f.0 ∷ [] = paths_at files i lt ∙ ap (λ (p : FilePath). paths_of (take i files) ++ p ∷ []) path in
      ap (λ (p : FilePath). cond (is_fresh test (paths_of (take i files)) p) (first_stale test (paths_of (take (i + 1) files)) (drop (i + 1) files)) (Some i)) path
      ∙ ap (λ (ps : List FilePath). cond (is_fresh test (paths_of (take i files)) f.0) (first_stale test ps (drop (i + 1) files)) (Some i)) more
      ∙ ap (λ n. cond (is_fresh test (paths_of (take i files)) f.0) (first_stale test (paths_of (take i files) ++ f.0 ∷ []) (drop (i + 1) files)) (Some n)) (sym long)
      ∙ sym (ap (first_stale test (paths_of (take i files))) (drop_at files i f is)) ∙ so

  pub stale_found : is_fresh test (paths_of (take i files)) (path_at files i) ≡ false → Some i ≡ r
  stale_found h = sym (ap (λ b. cond b (first_stale test (paths_of (take (i + 1) files)) (drop (i + 1) files)) (Some i)) h) ∙ stale_at

  pub stale_more : is_fresh test (paths_of (take i files)) (path_at files i) ≡ true → first_stale test (paths_of (take (i + 1) files)) (drop (i + 1) files) ≡ r
  stale_more h = sym (ap (λ b. cond b (first_stale test (paths_of (take (i + 1) files)) (drop (i + 1) files)) (Some i)) h) ∙ stale_at

-- ---- pairs

module _ (ps : Pairs) (i : ℕ) (p : List ℕ × List ℕ) (is : slice_get ps i ≡ Some p) where
  pairs_at : (r : Bool) → pairs_are_text (drop i ps) ≡ r → ((is_utf8 p.0 && is_utf8 p.1) && pairs_are_text (drop (i + 1) ps)) ≡ r
  pairs_at r h = sym (ap pairs_are_text (drop_at ps i p is)) ∙ h

  pub pairs_found : (r : Bool) → pairs_are_text (drop i ps) ≡ r → (is_utf8 p.0 && is_utf8 p.1) ≡ false → false ≡ r
  pairs_found r h bad = sym (ap (λ b. b && pairs_are_text (drop (i + 1) ps)) bad) ∙ pairs_at r h

  pub pairs_more : (r : Bool) → pairs_are_text (drop i ps) ≡ r → (is_utf8 p.0 && is_utf8 p.1) ≡ true → pairs_are_text (drop (i + 1) ps) ≡ r
  pairs_more r h good = sym (ap (λ b. b && pairs_are_text (drop (i + 1) ps)) good) ∙ pairs_at r h

  pub puts_more : (old new r : Members) → new ≡ puts old (pair_member p ∷ []) → puts old (map pair_member (drop i ps)) ≡ r → puts new (map pair_member (drop (i + 1) ps)) ≡ r
  puts_more old new r made h = ap (λ (ms : Members). puts ms (map pair_member (drop (i + 1) ps))) made ∙ sym (ap (λ (qs : Pairs). puts old (map pair_member qs)) (drop_at ps i p is)) ∙ h
