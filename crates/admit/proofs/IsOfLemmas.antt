-- What is admitted is of its source.
use Rattle.std.proofs.Common.{◌≡◌, ◌∙◌, ◌⊎◌, ℕ, ◌-◌, ◌<◌, ◌≤◌, zero, suc, Bool, true, false, cond, List, [], ◌∷◌, length, get_or, take, Option, Some, None, Ok, refl, sym, ap, inl, inr, arith}
use Rattle.std.specs.Prelude.{◌≢◌, fold, codes, not, find, MatchOption, AllPairs, Result, Err}
use Rattle.std.specs.List.{All, AllPass, AllZip, Contains, list_any, cons_option, range_with_len}
use Rattle.std.specs.Option.{option_and_then}
use Rattle.std.specs.BTreeSet.{insert_key}
use Rattle.std.proofs.lemmas.List.{length-map}
use Rattle.std.proofs.lemmas.List.Folds.{Any-from_list_any}
use Rattle.std.proofs.lemmas.List.FromFn.{length-range_with_len, get_or-range_with_len}
use Rattle.std.proofs.lemmas.List.Elements.{All-nil, All-cons, All-head, All-tail}
use Rattle.std.proofs.lemmas.Map.Views.{All-insert_key}
use Rattle.std.proofs.lemmas.Slice.Zip.{AllZip-long}
use Rattle.upd_text.specs.Order.{byte_cmp}
use Rattle.io_model.specs.Source.{Tree, Content, count_of, path_at, When}
use Rattle.io_model.specs.Source.Content.{Told, Untold}
use Rattle.manifest_sums.specs.declared.manifest.Line.{Line}
use Rattle.script_names.specs.Scripts.{is_artifact_script}
use Rattle.admit.specs.Places.{place_of, place_at, is_allowed, is_manifest, is_info_of, spelled}
use Rattle.admit.specs.declared.place.TreePlace.{TreePlace}
use Rattle.admit.specs.declared.place.TreePlace.TheVariants as at
use Rattle.admit.proofs.Placed.{allowed_spelled, info_path}
use Rattle.admit.specs.Table.{unless, heads_of, has_path, table_of}
use Rattle.admit.specs.Admit.{lines_of, not_listed, refuse_meta, bad_version, has_info, no_type_info, no_such_payload, infos_after, fields_of, script_name, script_names, bad_script, bad_script_name, too_many_scripts, in_order, scripts_of}
use Rattle.admit.specs.IsOf.{HasLine, IsOf}
use Rattle.admit.specs.Table.{FileHead}
use Rattle.admit.specs.declared.table.Places.{Places}
use Rattle.admit.specs.declared.lines.Listing.{Listing}
use Rattle.admit.specs.declared.fields.Fields.{Fields}
use Rattle.admit.specs.declared.refusal.Refusal.TheVariants.{NoTypeInfo}
use Rattle.artifact_meta.specs.Header.{header_info_of, AreKinds}
use Rattle.artifact_meta.specs.declared.fault.MetaFault.{MetaFault}
use Rattle.admit.proofs.TableLemmas.{bind_ok, unless_ok, map_none, good_paths, IsPlace, accepted}
use Rattle.admit.proofs.ScriptLemmas.{good_scripts}
use Rattle.admit.proofs.LinesLemmas.{zip_at, zip_weaker, listed, has_line_at, header_line, line_of_file, number_there}
use Rattle.admit.proofs.BroughtLemmas.{scripts_listed}

-- ---- the whole, over the table

pub record OfTable (heads : List FileHead) (l : Listing) : Type 0 where
  pub numbered : length l.numbers ≡ length l.manifest
  pub distinct : AllPairs (λ a b. a.path ≢ b.path) l.manifest
  pub allowed : AllPass (λ line. is_allowed (place_of line.path)) l.manifest
  pub header_info : HasLine (codes "header/header-info") l.manifest
  pub type_info : HasLine (spelled (at.TypeInfo 0)) l.manifest
  pub lines : not_listed l.manifest heads ≡ None
  pub places : AllZip (λ line n. IsPlace heads line.path n) l.manifest l.numbers
  pub every : (n : ℕ) (d : FileHead) → n < length heads → ((get_or heads n d).path ≡ Some (codes "manifest")) ⊎ ((get_or heads n d).path ≡ Some (codes "manifest.sig")) ⊎ Contains l.numbers n

every_at : (heads : List FileHead) (l : Listing) (n : ℕ) (d : FileHead) (path : List ℕ) → AllZip (λ line n. IsPlace heads line.path n) l.manifest l.numbers → n < length heads → (get_or heads n d).path ≡ Some path → list_any (has_path path) (take n heads) ≡ false → HasLine path l.manifest → Contains l.numbers n
every_at heads l n d path z lt here fresh (k, line, within, is, same) =
    let p : IsPlace heads (get_or l.manifest k line).path (get_or l.numbers k n) = zip_at (λ line n. IsPlace heads line.path n) l.manifest l.numbers k line n z within in
    let named : (get_or l.manifest k line).path ≡ path = ap (λ (x : Line). x.path) is ∙ same in
    let q : IsPlace heads path (get_or l.numbers k n) = rw named at p in
    let long : length l.numbers ≡ length l.manifest = AllZip-long (λ line n. IsPlace heads line.path n) l.manifest l.numbers z in
    (k, omega (arith, long, within), number_there heads path (get_or l.numbers k n) n d q lt here fresh)

manifest_path : (path : List ℕ) (place : TreePlace) → place_of path ≡ place → is_manifest place ≡ true → (path ≡ codes "manifest") ⊎ (path ≡ codes "manifest.sig")
manifest_path path at.Manifest e h = inl ((allowed_spelled path (ap is_allowed e)).1 ∙ ap spelled e)
manifest_path path at.Signature e h = inr ((allowed_spelled path (ap is_allowed e)).1 ∙ ap spelled e)
manifest_path path at.Version e h = absurd cc
manifest_path path at.HeaderInfo e h = absurd cc
manifest_path path (at.TypeInfo k) e h = absurd cc
manifest_path path (at.MetaData k) e h = absurd cc
manifest_path path (at.Script name) e h = absurd cc
manifest_path path (at.Payload k name) e h = absurd cc
manifest_path path at.Augmented e h = absurd cc
manifest_path path at.Other e h = absurd cc

pub of_table : (heads : List FileHead) (places : Places) (bytes : List ℕ) (l : Listing) → table_of heads ≡ Ok places → lines_of heads bytes ≡ Ok l → OfTable heads l
unfolding place_of
of_table heads places bytes l t h =
    let a = accepted heads places t in
    let b = listed heads bytes l h in
    record {
      numbered = AllZip-long (λ line n. IsPlace heads line.path n) l.manifest l.numbers b.places;
      distinct = b.distinct;
      allowed = λ k d lt.
          (let none : FileHead = record { path = None; length = 0 } in
          let p : IsPlace heads (get_or l.manifest k d).path (get_or l.numbers k 0) = zip_at (λ line n. IsPlace heads line.path n) l.manifest l.numbers k d 0 b.places lt in
          let good = good_paths heads a.paths (get_or l.numbers k 0) none p.within in
          let same : Some (get_or l.manifest k d).path ≡ Some good.path = sym (p.here none) ∙ good.is in
          let named : (get_or l.manifest k d).path ≡ good.path = cc in
          ap (λ w. is_allowed (place_of w)) named ∙ good.allowed);
      header_info = header_line heads l.manifest (codes "header/header-info") places.header_info b.lines refl a.header_info;
      type_info = header_line heads l.manifest (codes "header/headers/0000/type-info") a.type_info.0 b.lines refl a.type_info.1;
      lines = b.lines;
      places = b.places;
      every = λ n d lt.
          (let good = good_paths heads a.paths n d lt in
          elim (has_line_at heads l.manifest good.path n d b.lines lt good.is) [
            | inl m ↦ elim (manifest_path good.path (place_of good.path) refl m) [
              | inl x ↦ (inl (good.is ∙ ap Some x))
              | inr y ↦ (inr (inl (good.is ∙ ap Some y)))
            ]
            | inr has ↦ (inr (inr (every_at heads l n d good.path b.places lt good.is good.fresh has)))
          ]);
    }

-- ---- type-infos

has_info_line : (heads : List FileHead) (lines : List Line) (k : ℕ) → not_listed lines heads ≡ None → has_info heads k ≡ true → HasLine (spelled (at.TypeInfo k)) lines
has_info_line heads lines k listed h =
    let a = Any-from_list_any (λ (head : FileHead). is_info_of k (place_at head.path)) heads h in
    let n = a.0 in
    let head = a.1 in
    let within : n < length heads = a.2 in
    let same : get_or heads n head ≡ head = a.3 in
    let p = info_at_path head.path k a.4 in
    line_of_file heads lines (spelled (at.TypeInfo k)) n head listed (no_manifest k (place_of (spelled (at.TypeInfo k))) p.1) within (ap (λ (x : FileHead). x.path) same ∙ p.0)
  where
    is_there : (path : List ℕ) (k : ℕ) → is_info_of k (place_of path) ≡ true → (Some path ≡ Some (spelled (at.TypeInfo k))) × (is_info_of k (place_of (spelled (at.TypeInfo k))) ≡ true)
    is_there path k h = let e = info_path path k h in (ap Some e, ap (λ w. is_info_of k (place_of w)) (sym e) ∙ h)

    info_at_path : (found : Option (List ℕ)) (k : ℕ) → is_info_of k (place_at found) ≡ true → (found ≡ Some (spelled (at.TypeInfo k))) × (is_info_of k (place_of (spelled (at.TypeInfo k))) ≡ true)
    info_at_path None k h = absurd cc
    info_at_path (Some path) k h = is_there path k h

    no_manifest : (k : ℕ) (place : TreePlace) → is_info_of k place ≡ true → is_manifest place ≡ false
    no_manifest k (at.TypeInfo j) h = refl
    no_manifest k at.Version h = absurd cc
    no_manifest k at.Manifest h = absurd cc
    no_manifest k at.Signature h = absurd cc
    no_manifest k at.HeaderInfo h = absurd cc
    no_manifest k (at.MetaData j) h = absurd cc
    no_manifest k (at.Script x) h = absurd cc
    no_manifest k (at.Payload j x) h = absurd cc
    no_manifest k at.Augmented h = absurd cc
    no_manifest k at.Other h = absurd cc

found_none : (p : ℕ → Bool) (xs : List ℕ) → find p xs ≡ None → All (λ k. p k ≡ false) xs
found_none p [] h = All-nil (λ k. p k ≡ false)
found_none p (x ∷ xs) h = elim (p x) as (λ b. b ≡ p x → cond b (Some x) (find p xs) ≡ None → All (λ k. p k ≡ false) (x ∷ xs)) [
  | true ↦ (λ e n. absurd cc)
  | false ↦ (λ e n. All-cons (λ k. p k ≡ false) x xs (sym e) (found_none p xs n))
] refl h

-- each payload but the first has a type-info
info_there : (heads : List FileHead) (n k : ℕ) → no_type_info heads n ≡ None → 1 ≤ k → k < n → has_info heads k ≡ true
unfolding no_type_info
info_there heads n k h least lt =
    let none = found_none (λ j. not (has_info heads j)) (range_with_len 1 (n - 1)) (map_none NoTypeInfo _ h) in
    let at_k : get_or (range_with_len 1 (n - 1)) (k - 1) 0 ≡ k = get_or-range_with_len 1 (n - 1) (k - 1) 0 (omega arith) ∙ omega arith in
    let e : not (has_info heads (get_or (range_with_len 1 (n - 1)) (k - 1) 0)) ≡ false = none (k - 1) 0 (omega (arith, length-range_with_len 1 (n - 1))) in
    not_false (has_info heads k) (ap (λ j. not (has_info heads j)) (sym at_k) ∙ e)
  where
    not_false : (b : Bool) → not b ≡ false → b ≡ true
    not_false true h = refl
    not_false false h = absurd cc

info_lines : (heads : List FileHead) (lines : List Line) (n : ℕ) → not_listed lines heads ≡ None → HasLine (spelled (at.TypeInfo 0)) lines → no_type_info heads n ≡ None → (k : ℕ) → k < n → HasLine (spelled (at.TypeInfo k)) lines
info_lines heads lines n listed first h zero lt = first
info_lines heads lines n listed first h (suc k) lt = has_info_line heads lines (suc k) listed (info_there heads n (suc k) h (omega arith) lt)

meta_ok : {A : Type 0} (k : ℕ) (r : Result A MetaFault) (x : A) → refuse_meta k r ≡ Ok x → r ≡ Ok x
meta_ok k (Ok y) x h = cc
meta_ok k (Err e) x h = absurd cc

-- no payload lacks its type-info
all_infos : (heads : List FileHead) (version header_info : List ℕ) (texts : List (ℕ × List ℕ)) (fields : Fields) → fields_of heads version header_info texts ≡ Ok fields → no_type_info heads (length fields.header.kinds) ≡ None
unfolding fields_of
all_infos heads version header_info texts fields h =
    let a = bind_ok (unless (bad_version version)) _ fields h in
    let header = bind_ok (refuse_meta 0 (header_info_of header_info)) _ fields a.2 in
    let b = bind_ok (unless (no_type_info heads (length header.0.kinds))) _ fields header.2 in
    let d = bind_ok (unless (no_such_payload heads (length header.0.kinds))) _ fields b.2 in
    let infos = bind_ok (infos_after [] header.0.kinds texts) _ fields d.2 in
    let made : Fields = record { header = header.0; infos = infos.0 } in
    let same : made ≡ fields = cc (infos.2) in
    ap (λ (f : Fields). no_type_info heads (length f.header.kinds)) (sym same) ∙ unless_ok (no_type_info heads (length header.0.kinds)) b.0 b.1

-- ---- scripts

good_by : (found : Option (List ℕ)) (o : Option (List ℕ)) → o ≡ script_name found → option_and_then (λ name. cond (is_artifact_script name) None found) o ≡ None → MatchOption o (Unit {0}) (λ name. is_artifact_script name ≡ true)
good_by found None e h = tt
good_by None (Some name) e h = absurd cc
good_by (Some path) (Some name) e h = tests (is_artifact_script name) h
  where
    tests : (b : Bool) → cond b None (Some path) ≡ None → b ≡ true
    tests true h = refl
    tests false h = absurd cc

good_name : (found : Option (List ℕ)) → bad_script found ≡ None → MatchOption (script_name found) (Unit {0}) (λ name. is_artifact_script name ≡ true)
good_name found h = good_by found (script_name found) refl h

all_option : (P : List ℕ → Type 0) (o : Option (List ℕ)) (rest : List (List ℕ)) → MatchOption o (Unit {0}) P → All P rest → All P (cons_option o rest)
all_option P None rest h a = a
all_option P (Some name) rest h a = All-cons P name rest h a

good_names : (heads : List FileHead) → All (λ (head : FileHead). bad_script head.path ≡ None) heads → AllPass is_artifact_script (script_names heads)
good_names [] h = All-nil (λ name. is_artifact_script name ≡ true)
good_names (head ∷ heads) h = all_option (λ name. is_artifact_script name ≡ true) (script_name head.path) (script_names heads) (good_name head.path (All-head (λ (x : FileHead). bad_script x.path ≡ None) head heads h)) (good_names heads (All-tail (λ (x : FileHead). bad_script x.path ≡ None) head heads h))

all_in_order : (P : List ℕ → Type 0) (names found : List (List ℕ)) → All P found → All P names → All P (fold (insert_key byte_cmp) found names)
all_in_order P [] found a h = a
all_in_order P (name ∷ names) found a h = all_in_order P names (insert_key byte_cmp found name) (All-insert_key byte_cmp name P found a (All-head P name names h)) (All-tail P name names h)

record Brought (heads : List FileHead) (scripts : List (List ℕ)) : Type 0 where
  names : in_order (script_names heads) ≡ scripts
  good : AllPass is_artifact_script scripts

-- scripts that an artifact may bring
brought : (heads : List FileHead) (scripts : List (List ℕ)) → scripts_of heads ≡ Ok scripts → Brought heads scripts
unfolding scripts_of
brought heads scripts h =
    let a = bind_ok (unless (bad_script_name heads)) _ scripts h in
    let b = bind_ok (unless (too_many_scripts heads)) _ scripts a.2 in
    let same : in_order (script_names heads) ≡ scripts = cc (b.2) in
    let good = good_names heads (good_scripts heads (unless_ok (bad_script_name heads) a.0 a.1)) in
    let all : AllPass is_artifact_script (in_order (script_names heads)) = all_in_order (λ name. is_artifact_script name ≡ true) (script_names heads) [] (All-nil (λ name. is_artifact_script name ≡ true)) good in
    record { names = same; good = rw same at all }

-- ---- the whole, of the source

head_path : (t : Tree) (n : ℕ) (d : FileHead) → n < length t → (get_or (heads_of t) n d).path ≡ path_at t n
head_path [] n d lt = absurd (omega arith)
head_path (file ∷ files) zero d lt = refl
head_path (file ∷ files) (suc n) d lt = head_path files n d (omega arith)

as_long : (t : Tree) (heads : List FileHead) → heads ≡ heads_of t → length heads ≡ length t
as_long t heads e = ap length e ∙ length-map t (λ file. record { path = file.0; length = length file.1 })

pub path_there : (t : Tree) (heads : List FileHead) (path : List ℕ) (n : ℕ) → heads ≡ heads_of t → IsPlace heads path n → path_at t n ≡ Some path
path_there t heads path n e p =
    let none : FileHead = record { path = None; length = 0 } in
    let within : n < length t = omega (arith, p.within, as_long t heads e) in
    sym (head_path t n none within) ∙ ap (λ (hs : List FileHead). (get_or hs n none).path) (sym e) ∙ p.here none

told_places : (c : Content) (heads : List FileHead) (lines : List Line) (numbers : List ℕ) → When c (λ t. heads ≡ heads_of t) → AllZip (λ line n. IsPlace heads line.path n) lines numbers → When c (λ t. AllZip (λ line n. path_at t n ≡ Some line.path) lines numbers)
told_places (Untold m) heads lines numbers e z = tt
told_places (Told t) heads lines numbers e z = zip_weaker (λ line n. IsPlace heads line.path n) (λ line n. path_at t n ≡ Some line.path) lines numbers (λ line n p. path_there t heads line.path n e p) z

told_every : (c : Content) (heads : List FileHead) (l : Listing) → When c (λ t. heads ≡ heads_of t) → OfTable heads l → When c (λ t. (n : ℕ) → n < length t → (path_at t n ≡ Some (codes "manifest")) ⊎ (path_at t n ≡ Some (codes "manifest.sig")) ⊎ Contains l.numbers n)
told_every (Untold m) heads l e o = tt
told_every (Told t) heads l e o = λ n lt.
    (let none : FileHead = record { path = None; length = 0 } in
    let within : n < length heads = omega (arith, lt, as_long t heads e) in
    let same : (get_or heads n none).path ≡ path_at t n = ap (λ (hs : List FileHead). (get_or hs n none).path) e ∙ head_path t n none lt in
    rw (← same) (o.every n none within))

pub is_of : (c : Content) (heads : List FileHead) (places : Places) (bytes : List ℕ) (l : Listing) (version header_info : List ℕ) (texts : List (ℕ × List ℕ)) (fields : Fields) (scripts : List (List ℕ)) → length heads ≡ count_of c → When c (λ t. heads ≡ heads_of t) → All (λ n. n < length heads) l.numbers → table_of heads ≡ Ok places → lines_of heads bytes ≡ Ok l → fields_of heads version header_info texts ≡ Ok fields
    → AreKinds fields.header.kinds → length fields.infos ≡ length fields.header.kinds → scripts_of heads ≡ Ok scripts
    → IsOf c (record { manifest = l.manifest; numbers = l.numbers; header = fields.header; infos = fields.infos; scripts = scripts })
is_of c heads places bytes l version header_info texts fields scripts count told below t h f kinds infos s =
    let o = of_table heads places bytes l t h in
    let b = brought heads scripts s in
    let lines = listed heads bytes l h in
    record {
      numbered = o.numbered;
      below = λ k d lt. omega (arith, below k d lt, count);
      distinct = o.distinct;
      allowed = o.allowed;
      header_info = o.header_info;
      type_infos = info_lines heads l.manifest (length fields.header.kinds) o.lines o.type_info (all_infos heads version header_info texts fields f);
      kinds = kinds;
      infos = infos;
      scripts = b.good;
      script_names = λ name. rw (← b.names) (scripts_listed heads l.manifest l.numbers name lines.lines o.allowed lines.places);
      places = told_places c heads l.manifest l.numbers told o.places;
      every = told_every c heads l told o;
    }
