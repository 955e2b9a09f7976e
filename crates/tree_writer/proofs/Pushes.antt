-- Files that are put behind others.
use Rattle.std.proofs.Common.{◌≡◌, ℕ, zero, suc, ◌+◌, ◌<◌, ◌≤◌, Bool, true, List, [], ◌∷◌, ◌++◌, length, map, take, drop, get_or, Option, Some, None, codes, refl, sym, ap, ◌∙◌, subst, arith, append-nil, append_assoc, add-one}
use Rattle.std.specs.Prelude.{fold, flat_map, slice_get}
use Rattle.std.specs.Option.{unwrap_or}
use Rattle.std.specs.Result.{result_ok}
use Rattle.std.specs.List.{AllByRecursion, filter_map, cons_option}
use Rattle.std.proofs.lemmas.Bool.{and_parts}
use Rattle.std.proofs.lemmas.List.{drop_more, drop_all}
use Rattle.hex.specs.Hex.{encode_lower}
use Rattle.sha2.specs.Sha256.{sha256}
use Rattle.upd_text.specs.Text.{name_of}
use Rattle.upd_text.specs.Parts.{is_plain}
use Rattle.io_model.specs.Source.{File, Tree}
use Rattle.script_names.specs.Scripts.{is_artifact_script}
use Rattle.admit.specs.Places.{spelled}
use Rattle.admit.specs.Table.{FileHead, heads_of, lesser, long_path}
use Rattle.admit.specs.declared.place.TreePlace.TheVariants.{Manifest, HeaderInfo, TypeInfo}
use Rattle.tree_writer.specs.declared.spec.PayloadSpec.{PayloadSpec}
use Rattle.tree_writer.specs.declared.spec.TreeSpec.{TreeSpec}
use Rattle.tree_writer.specs.declared.checks.Names.TheVariants.{Files, Scripts}
use Rattle.tree_writer.specs.Order.{Named, named, by_name, name_at, file_at, files_at}
use Rattle.tree_writer.specs.Texts.{header_text, info_text, version_text}
use Rattle.tree_writer.specs.Files.{Entry, as_file, payload_entries, data_entries, info_entries, script_entries, front_entries, listed_entries, version_entry, manifest_text, tree_of, file_line}
use Rattle.tree_writer.specs.Faults.{first_stale, test_of, bad_file, least_of}
use Rattle.tree_writer.proofs.Ordered.{ordered}
use Rattle.std.proofs.lemmas.List.{map-append}
use Rattle.std.proofs.lemmas.Grind.{flat_map-append}
use Rattle.tree_writer.proofs.Shape.{short_name}
use Rattle.tree_writer.proofs.Steps.{drop_at, take_at, named_is}
use Rattle.tree_writer.proofs.Causes.{all_fresh}
use Rattle.tree_writer.proofs.Paths.{header-path, manifest-path, version-path}

-- ---- names that fit

all_at : {A : Type 0} (P : A → Type 0) (xs : List A) (k : ℕ) (d : A) → AllByRecursion P xs → k < length xs → P (get_or xs k d)
all_at P [] k d h lt = absurd (omega arith)
all_at P (x ∷ xs) zero d h lt = h.0
all_at P (x ∷ xs) (suc k) d h lt = all_at P xs k d h.1 (omega arith)

all_of_map : {A B : Type 0} (P : B → Type 0) (f : A → B) (xs : List A) → AllByRecursion P (map f xs) → AllByRecursion (λ x. P (f x)) xs
all_of_map P f [] h = tt
all_of_map P f (x ∷ xs) h = (h.0, all_of_map P f xs h.1)

passes_at : (test : List ℕ → Bool) (files : Tree) (items : List ℕ) (k : ℕ) (f : File) → first_stale test [] files ≡ None → files_at files items ≡ by_name files → k < length items → slice_get files (get_or items k 0) ≡ Some f → test (unwrap_or f.0 []) ≡ true
passes_at test files items k f fresh is lt here =
    let all : AllByRecursion (λ (g : Named). test g.0 ≡ true) (files_at files items) = subst (AllByRecursion (λ (g : Named). test g.0 ≡ true)) (sym is) (ordered test files fresh).pass in
    let at : test (name_at files (get_or items k 0)) ≡ true = all_at (λ (i : ℕ). test (name_at files i) ≡ true) items k 0 (all_of_map (λ (g : Named). test g.0 ≡ true) (file_at files) items all) lt in
    ap (λ (g : Named). test g.0) (sym (named_is files (get_or items k 0) f here)) ∙ at

pub payload_short : (files : Tree) (items : List ℕ) (k : ℕ) (f : File) → first_stale (test_of Files) [] files ≡ None → files_at files items ≡ by_name files → k < length items → slice_get files (get_or items k 0) ≡ Some f → length (unwrap_or f.0 []) ≤ 118
payload_short files items k f fresh is lt here = short_name _ 118 (and_parts (is_plain (unwrap_or f.0 [])) _ (passes_at (test_of Files) files items k f fresh is lt here)).1

pub script_short : (files : Tree) (items : List ℕ) (k : ℕ) (f : File) → first_stale (test_of Scripts) [] files ≡ None → files_at files items ≡ by_name files → k < length items → slice_get files (get_or items k 0) ≡ Some f → length (unwrap_or f.0 []) ≤ 113
script_short files items k f fresh is lt here = short_name _ 113 (and_parts (is_artifact_script (unwrap_or f.0 [])) _ (passes_at (test_of Scripts) files items k f fresh is lt here)).1

pub fresh_at : (ps : List PayloadSpec) (k : ℕ) (p : PayloadSpec) → bad_file 0 ps ≡ None → k < length ps → p ≡ get_or ps k p → first_stale (test_of Files) [] p.files ≡ None
fresh_at ps k p none lt is = ap (λ (q : PayloadSpec). first_stale (test_of Files) [] q.files) is ∙ all_at (λ (q : PayloadSpec). first_stale (test_of Files) [] q.files ≡ None) ps k p (all_fresh 0 ps none) lt

-- ---- one more file

module _ (h : Named → Entry) (files : Tree) where
  abbrev made : ℕ → File
  made i = as_file (h (file_at files i))

  pub pushed : (items : List ℕ) (k : ℕ) (f : File) (old new start : Tree) → k < length items → slice_get files (get_or items k 0) ≡ Some f → new ≡ old ++ as_file (h (named f)) ∷ []
      → old ++ map (λ i. as_file (h (file_at files i))) (drop k items) ≡ start → new ++ map (λ i. as_file (h (file_at files i))) (drop (k + 1) items) ≡ start
  pushed items k f old new start lt here more so =
      let one : as_file (h (named f)) ≡ made (get_or items k 0) = ap (λ (n : Named). as_file (h n)) (sym (named_is files (get_or items k 0) f here)) in
      ap (λ (t : Tree). t ++ map made (drop (k + 1) items)) (more ∙ ap (λ (g : File). old ++ g ∷ []) one)
      ∙ append_assoc old (made (get_or items k 0) ∷ []) (map made (drop (k + 1) items))
      ∙ sym (ap (λ (is : List ℕ). old ++ map made is) (drop_more items k 0 lt)) ∙ so

  pub all_pushed : (items : List ℕ) (k : ℕ) (tree start : Tree) → length items ≤ k → tree ++ map (λ i. as_file (h (file_at files i))) (drop k items) ≡ start ++ map (λ i. as_file (h (file_at files i))) items → files_at files items ≡ by_name files
      → tree ≡ start ++ map as_file (map h (by_name files))
  all_pushed items k tree start le so is =
      sym (append-nil tree) ∙ sym (ap (λ (is : List ℕ). tree ++ map made is) (drop_all k items le)) ∙ so
      ∙ ap (λ (t : Tree). start ++ t) (twice items ∙ ap (λ (ns : List Named). map as_file (map h ns)) is)
    where
      twice : (xs : List ℕ) → map (λ i. as_file (h (file_at files i))) xs ≡ map as_file (map h (files_at files xs))
      twice [] = refl
      twice (x ∷ xs) = ap (λ (t : Tree). as_file (h (file_at files x)) ∷ t) (twice xs)

-- a file whose path is a name and spells its place
pub file_pushed : (tree new : Tree) (path bytes : List ℕ) (e : Entry) → new ≡ tree ++ (result_ok (name_of path), bytes) ∷ [] → path ≡ spelled e.0 → bytes ≡ e.1 → result_ok (name_of (spelled e.0)) ≡ Some (spelled e.0) → new ≡ tree ++ as_file e ∷ []
file_pushed tree new path bytes e more is b named-so =
    more ∙ ap (λ (p : List ℕ). tree ++ (result_ok (name_of p), bytes) ∷ []) is
    ∙ ap (λ (x : List ℕ). tree ++ (result_ok (name_of (spelled e.0)), x) ∷ []) b
    ∙ ap (λ (o : Option (List ℕ)). tree ++ (o, e.1) ∷ []) named-so

-- ---- payload by payload

drop_there : (ps : List PayloadSpec) (k : ℕ) (p : PayloadSpec) → k < length ps → p ≡ get_or ps k p → drop k ps ≡ p ∷ drop (k + 1) ps
drop_there ps k p lt is = drop_more ps k p lt ∙ ap (λ (q : PayloadSpec). q ∷ drop (k + 1) ps) (sym is)

pub payload_pushed : (ps : List PayloadSpec) (k : ℕ) (p : PayloadSpec) (old new start : Tree) → k < length ps → p ≡ get_or ps k p → new ≡ old ++ map as_file (payload_entries k p.files)
    → old ++ map as_file (data_entries k (drop k ps)) ≡ start → new ++ map as_file (data_entries (k + 1) (drop (k + 1) ps)) ≡ start
payload_pushed ps k p old new start lt is more so =
    let rest = data_entries (k + 1) (drop (k + 1) ps) in
    let next : data_entries (suc k) (drop (k + 1) ps) ≡ rest = ap (λ n. data_entries n (drop (k + 1) ps)) (sym (add-one k)) in
    ap (λ (t : Tree). t ++ map as_file rest) more ∙ append_assoc old (map as_file (payload_entries k p.files)) (map as_file rest)
    ∙ ap (λ (t : Tree). old ++ t) (sym (map-append as_file (payload_entries k p.files) rest) ∙ ap (λ (es : List Entry). map as_file (payload_entries k p.files ++ es)) (sym next))
    ∙ sym (ap (λ (qs : List PayloadSpec). old ++ map as_file (data_entries k qs)) (drop_there ps k p lt is)) ∙ so

pub info_pushed : (ps : List PayloadSpec) (k : ℕ) (p : PayloadSpec) (old new start : Tree) → k < length ps → p ≡ get_or ps k p → new ≡ old ++ as_file (TypeInfo k, info_text p) ∷ []
    → old ++ map as_file (info_entries k (drop k ps)) ≡ start → new ++ map as_file (info_entries (k + 1) (drop (k + 1) ps)) ≡ start
info_pushed ps k p old new start lt is more so =
    let rest = info_entries (k + 1) (drop (k + 1) ps) in
    let one : File = as_file (TypeInfo k, info_text p) in
    let next : info_entries (suc k) (drop (k + 1) ps) ≡ rest = ap (λ n. info_entries n (drop (k + 1) ps)) (sym (add-one k)) in
    ap (λ (t : Tree). t ++ map as_file rest) more ∙ append_assoc old (one ∷ []) (map as_file rest)
    ∙ ap (λ (es : List Entry). old ++ one ∷ map as_file es) (sym next)
    ∙ sym (ap (λ (qs : List PayloadSpec). old ++ map as_file (info_entries k qs)) (drop_there ps k p lt is)) ∙ so

-- ---- the whole

pub front_made : (spec : TreeSpec) (a b c d : Tree) (text : List ℕ) → a ≡ map as_file (data_entries 0 spec.payloads) → text ≡ header_text spec → b ≡ a ++ (result_ok (name_of (codes "header/header-info")), text) ∷ []
    → c ≡ b ++ map as_file (info_entries 0 spec.payloads) → d ≡ c ++ map as_file (script_entries spec.scripts) → d ≡ map as_file (front_entries spec)
front_made spec a b c d text one two three four five =
    let D = data_entries 0 spec.payloads in
    let I = info_entries 0 spec.payloads in
    let S = script_entries spec.scripts in
    let H : Entry = (HeaderInfo, header_text spec) in
    let head : b ≡ map as_file D ++ as_file H ∷ [] =
    three ∙ ap (λ (t : Tree). t ++ (result_ok (name_of (codes "header/header-info")), text) ∷ []) one
    ∙ ap (λ (x : List ℕ). map as_file D ++ (result_ok (name_of (codes "header/header-info")), x) ∷ []) two
    ∙ ap (λ (o : Option (List ℕ)). map as_file D ++ (o, header_text spec) ∷ []) header-path in
    five ∙ ap (λ (t : Tree). t ++ map as_file S) (four ∙ ap (λ (t : Tree). t ++ map as_file I) head)
    ∙ append_assoc (map as_file D ++ as_file H ∷ []) (map as_file I) (map as_file S)
    ∙ append_assoc (map as_file D) (as_file H ∷ []) (map as_file I ++ map as_file S)
    ∙ ap (λ (t : Tree). map as_file D ++ as_file H ∷ t) (sym (map-append as_file I S))
    ∙ sym (map-append as_file D (H ∷ (I ++ S)))

pub tree_made : (spec : TreeSpec) (a b c : Tree) (text : List ℕ) → a ≡ map as_file (front_entries spec) → ((front : List Entry) → a ≡ map as_file front → text ≡ manifest_text (front ++ version_entry ∷ []))
    → b ≡ a ++ (result_ok (name_of (codes "manifest")), text) ∷ [] → c ≡ b ++ (result_ok (name_of (codes "version")), version_text) ∷ [] → c ≡ tree_of spec
unfolding tree_of
tree_made spec a b c text one two three four =
    let F = front_entries spec in
    let M : Entry = (Manifest, manifest_text (listed_entries spec)) in
    let manifest : b ≡ map as_file F ++ as_file M ∷ [] =
    three ∙ ap (λ (t : Tree). t ++ (result_ok (name_of (codes "manifest")), text) ∷ []) one
    ∙ ap (λ (x : List ℕ). map as_file F ++ (result_ok (name_of (codes "manifest")), x) ∷ []) (two F one)
    ∙ ap (λ (o : Option (List ℕ)). map as_file F ++ (o, manifest_text (listed_entries spec)) ∷ []) manifest-path in
    four ∙ ap (λ (t : Tree). t ++ (result_ok (name_of (codes "version")), version_text) ∷ []) manifest
    ∙ ap (λ (o : Option (List ℕ)). (map as_file F ++ as_file M ∷ []) ++ (o, version_text) ∷ []) version-path
    ∙ append_assoc (map as_file F) (as_file M ∷ []) (as_file version_entry ∷ [])
    ∙ sym (map-append as_file F (M ∷ version_entry ∷ []))

-- ---- lines

pub line_more : (tree : Tree) (i : ℕ) (f : File) (old new path bytes : List ℕ) → slice_get tree i ≡ Some f → path ≡ unwrap_or f.0 [] → bytes ≡ f.1 → new ≡ old ++ (encode_lower (sha256 bytes) ++ codes "  " ++ path ++ 10 ∷ [])
    → old ≡ flat_map file_line (take i tree) → new ≡ flat_map file_line (take (i + 1) tree)
line_more tree i f old new path bytes here p b more so =
    more ∙ ap (λ (l : List ℕ). l ++ (encode_lower (sha256 bytes) ++ codes "  " ++ path ++ 10 ∷ [])) so
    ∙ ap (λ (x : List ℕ). flat_map file_line (take i tree) ++ (encode_lower (sha256 x) ++ codes "  " ++ path ++ 10 ∷ [])) b
    ∙ ap (λ (x : List ℕ). flat_map file_line (take i tree) ++ (encode_lower (sha256 f.1) ++ codes "  " ++ x ++ 10 ∷ [])) p
    ∙ ap (λ (l : List ℕ). flat_map file_line (take i tree) ++ l) (sym (append-nil (file_line f))) ∙ sym (flat_map-append file_line (take i tree) (f ∷ [])) ∙ ap (flat_map file_line) (sym (take_at tree i f here))

-- ---- the longest files

abbrev long_paths : Tree → List (List ℕ)
long_paths t = filter_map (λ (head : FileHead). long_path head.path head.length) (heads_of t)

module _ (tree : Tree) (i : ℕ) (f : File) (least meant : Option (List ℕ)) (here : slice_get tree i ≡ Some f) (so : fold lesser least (long_paths (drop i tree)) ≡ meant) where
  long_at : fold lesser least (cons_option (long_path f.0 (length f.1)) (long_paths (drop (i + 1) tree))) ≡ meant
  long_at = sym (ap (λ (t : Tree). fold lesser least (long_paths t)) (drop_at tree i f here)) ∙ so

  pub longest : fold lesser (least_of least (long_path f.0 (length f.1))) (long_paths (drop (i + 1) tree)) ≡ meant
  longest = by (long_path f.0 (length f.1)) refl ∙ long_at
    where
      by : (o : Option (List ℕ)) → long_path f.0 (length f.1) ≡ o → fold lesser (least_of least o) (long_paths (drop (i + 1) tree)) ≡ fold lesser least (cons_option o (long_paths (drop (i + 1) tree)))
      by None is = refl
      by (Some path) is = refl
