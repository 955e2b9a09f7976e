-- The fields and the scripts of a written tree.
use Rattle.std.proofs.Common.{◌≡◌, ◌≢◌, ℕ, zero, suc, ◌+◌, ◌-◌, ◌<◌, ◌≤◌, ◌==◌, ◌||◌, Bool, true, false, cond, not, ltb, nat_le, List, [], ◌∷◌, ◌++◌, length, map, Option, Some, None, Result, Ok, refl, sym, ap, ◌∙◌, subst, arith, append-nil, append_assoc}
use Rattle.std.specs.Prelude.{find, slice_get}
use Rattle.std.specs.Option.{option_map, option_and_then}
use Rattle.std.specs.List.{AllByRecursion, list_any, filter_map, cons_option, range_with_len}
use Rattle.std.specs.Str.{bytes_eq}
use Rattle.std.proofs.lemmas.Bool.{le-ltb, and_parts}
use Rattle.std.proofs.lemmas.Bool.Decides.{nat_tests}
use Rattle.std.proofs.lemmas.List.Elements.{filter_map-append}
use Rattle.std.proofs.lemmas.Slice.Eq.{bytes_eq-Decides}
use Rattle.std.proofs.lemmas.List.{map-append, length-map}
use Rattle.std.proofs.lemmas.List.Folds.{list_any-append}
use Rattle.tree_writer.proofs.Chain.{or_true}
use Rattle.upd_text.specs.Results.{◌>>=◌}
use Rattle.script_names.specs.Scripts.{is_artifact_script}
use Rattle.artifact_meta.specs.declared.info.TypeInfo.{TypeInfo}
use Rattle.admit.specs.Places.{place_at, spelled, is_info_of, info_at, payload_of, script_at}
use Rattle.admit.specs.Table.{FileHead}
use Rattle.admit.specs.Admit.{has_info, no_type_info, stray_path, no_such_payload, info_text as text_in, info_texts, text_of, info_of, infos_after, other_kind, script_names, bad_script, bad_script_name, too_many_scripts, scripts_of}
use Rattle.admit.specs.declared.place.TreePlace.{TreePlace}
use Rattle.admit.specs.declared.place.TreePlace.TheVariants.{Version, Manifest, HeaderInfo, TypeInfo as InfoPlace, Script, Payload}
use Rattle.admit.specs.declared.refusal.Refusal.{Refusal}
use Rattle.admit.specs.declared.refusal.Refusal.TheVariants.{NoTypeInfo, NoSuchPayload}
use Rattle.admit.proofs.Placed.{place_spelled}
use Rattle.tree_writer.specs.declared.spec.PayloadSpec.{PayloadSpec}
use Rattle.tree_writer.specs.declared.spec.TreeSpec.{TreeSpec}
use Rattle.tree_writer.specs.declared.checks.Names.TheVariants.{Scripts}
use Rattle.tree_writer.specs.Order.{Named, by_name}
use Rattle.tree_writer.specs.Texts.{header_text, info_text}
use Rattle.tree_writer.specs.Files.{Entry, as_file, payload_entry, payload_entries, data_entries, info_entries, script_entry, script_entries, front_entries, listed_entries, version_entry, manifest_text, entries_of}
use Rattle.tree_writer.specs.Faults.{test_of, is_script_name}
use Rattle.tree_writer.specs.Plan as plan
use Rattle.tree_writer.proofs.ManifestBack.{IsEntry, all_append}
use Rattle.tree_writer.proofs.Ordered.{ordered, names_stay}
use Rattle.tree_writer.proofs.TextsBack.{IsGood, info-back, everywhere}
use Rattle.tree_writer.proofs.Heads.{head, found_by_place}
use Rattle.tree_writer.proofs.Shape.{IsShaped, all_map}

-- ---- a test of places

any_by_place : (p : TreePlace → Bool) (es : List Entry) → AllByRecursion IsEntry es → list_any (λ (h : FileHead). p (place_at h.path)) (map head es) ≡ list_any (λ (e : Entry). p e.0) es
any_by_place p [] h = refl
any_by_place p (e ∷ es) h =
    ap (λ (q : TreePlace). p q || list_any (λ (w : FileHead). p (place_at w.path)) (map head es)) (place_spelled e.0 h.0.place)
    ∙ ap (λ b. p e.0 || b) (any_by_place p es h.1)

any_left : {A : Type 0} (p : A → Bool) (xs ys : List A) → list_any p xs ≡ true → list_any p (xs ++ ys) ≡ true
any_left p xs ys h = list_any-append p xs ys ∙ rw h refl

any_right : {A : Type 0} (p : A → Bool) (xs ys : List A) → list_any p ys ≡ true → list_any p (xs ++ ys) ≡ true
any_right p xs ys h = list_any-append p xs ys ∙ rw h (or_true (list_any p xs))

-- ---- each payload has its type-info

info_there : (j k : ℕ) (ps : List PayloadSpec) → j ≤ k → k < j + length ps → list_any (λ (e : Entry). is_info_of k e.0) (info_entries j ps) ≡ true
info_there j k [] le lt = absurd (omega arith)
info_there j k (p ∷ ps) le lt = by (j == k) refl (λ (less : suc j ≤ k). info_there (suc j) k ps less (omega arith))
  where
    rest : Bool
    rest = list_any (λ (e : Entry). is_info_of k e.0) (info_entries (suc j) ps)

    by : (b : Bool) → j == k ≡ b → (suc j ≤ k → list_any (λ (e : Entry). is_info_of k e.0) (info_entries (suc j) ps) ≡ true) → b || list_any (λ (e : Entry). is_info_of k e.0) (info_entries (suc j) ps) ≡ true
    by true e more = refl
    by false e more = let other : j ≢ k = grind (arith, nat_tests, e) in more (omega (arith, other, le))

module _ (spec : TreeSpec) where
  abbrev tail_entries : List Entry
  tail_entries = (Manifest, manifest_text (listed_entries spec)) ∷ version_entry ∷ []

  info_in_tree : (k : ℕ) → k < length spec.payloads → list_any (λ (e : Entry). is_info_of k e.0) (entries_of spec) ≡ true
  info_in_tree k lt =
      let p = λ (e : Entry). is_info_of k e.0 in
      any_left p (front_entries spec) tail_entries
      (any_right p (data_entries 0 spec.payloads) ((HeaderInfo, header_text spec) ∷ (info_entries 0 spec.payloads ++ script_entries spec.scripts))
      (any_right p ((HeaderInfo, header_text spec) ∷ []) (info_entries 0 spec.payloads ++ script_entries spec.scripts)
      (any_left p (info_entries 0 spec.payloads) (script_entries spec.scripts) (info_there 0 k spec.payloads (omega arith) (omega (arith, lt))))))

found_none : (f : ℕ → Bool) (a m : ℕ) → ((k : ℕ) → a ≤ k → k < a + m → f k ≡ true) → find (λ k. not (f k)) (range_with_len a m) ≡ None
found_none f a zero h = refl
found_none f a (suc m) h = rw (h a (omega arith) (omega arith)) (found_none f (a + 1) m (λ k le lt. h k (omega (arith, le)) (omega (arith, lt))))

pub infos_there : (spec : TreeSpec) → AllByRecursion IsEntry (entries_of spec) → no_type_info (map head (entries_of spec)) (length spec.payloads) ≡ None
unfolding no_type_info
infos_there spec good =
    let heads = map head (entries_of spec) in
    ap (option_map NoTypeInfo) (found_none (has_info heads) 1 (length spec.payloads - 1)
    (λ k le lt. any_by_place (is_info_of k) (entries_of spec) good ∙ info_in_tree spec k (omega (arith, lt, le))))

-- ---- what is true of the entries of each part

module _ (P : Entry → Type 0) (n : ℕ) where
  data_all : (k : ℕ) (ps : List PayloadSpec) → k + length ps ≤ n → ((j : ℕ) (f : Named) → j < n → P (payload_entry j f)) → AllByRecursion P (data_entries k ps)
  data_all k [] le h = tt
  data_all k (p ∷ ps) le h = all_append P (payload_entries k p.files) (data_entries (suc k) ps) (all_map P (payload_entry k) (by_name p.files) (everywhere (λ (f : Named). P (payload_entry k f)) (λ f. h k f (omega arith)) (by_name p.files))) (data_all (suc k) ps (omega arith) h)

  infos_all : (k : ℕ) (ps : List PayloadSpec) → k + length ps ≤ n → ((j : ℕ) (p : PayloadSpec) → j < n → P (InfoPlace j, info_text p)) → AllByRecursion P (info_entries k ps)
  infos_all k [] le h = tt
  infos_all k (p ∷ ps) le h = (h k p (omega arith), infos_all (suc k) ps (omega arith) h)

none_found : {X : Type 0} (f : Entry → Option X) (es : List Entry) → AllByRecursion (λ (e : Entry). f e ≡ None) es → filter_map f es ≡ []
none_found f [] h = refl
none_found f (e ∷ es) h = rw h.0 (none_found f es h.1)

module _ (P : Entry → Type 0) (spec : TreeSpec) where
  all_entries : ((j : ℕ) (f : Named) → j < length spec.payloads → P (payload_entry j f)) → ((j : ℕ) (p : PayloadSpec) → j < length spec.payloads → P (InfoPlace j, info_text p)) → P (HeaderInfo, header_text spec)
      → AllByRecursion P (script_entries spec.scripts) → AllByRecursion P (tail_entries spec) → AllByRecursion P (entries_of spec)
  all_entries files infos header scripts tail =
      let n = length spec.payloads in
      all_append P (front_entries spec) (tail_entries spec)
      (all_append P (data_entries 0 spec.payloads) ((HeaderInfo, header_text spec) ∷ (info_entries 0 spec.payloads ++ script_entries spec.scripts)) (data_all P n 0 spec.payloads (omega arith) files)
      (header, all_append P (info_entries 0 spec.payloads) (script_entries spec.scripts) (infos_all P n 0 spec.payloads (omega arith) infos) scripts))
      tail

-- ---- and no file is of another payload

abbrev Within : ℕ → TreePlace → Type 0
Within n p = (k : ℕ) → payload_of p ≡ Some k → k < n

some_is : {A : Type 0} (x y : A) → Some x ≡ Some y → x ≡ y
some_is x y h = cc

numbered_within : (n k : ℕ) (p : TreePlace) → payload_of p ≡ Some k → k < n → Within n p
numbered_within n k p is lt j h = let same : k ≡ j = some_is k j (sym is ∙ h) in omega (arith, same, lt)

none_within : (n : ℕ) (p : TreePlace) → payload_of p ≡ None → Within n p
none_within n p is j h = absurd (let bad : None ≡ Some j = sym is ∙ h in cc)

all_within : (spec : TreeSpec) → AllByRecursion (λ (e : Entry). Within (length spec.payloads) e.0) (entries_of spec)
all_within spec =
    let n = length spec.payloads in
    all_entries (λ (e : Entry). Within n e.0) spec (λ j f lt. numbered_within n j (Payload j f.0) refl lt) (λ j p lt. numbered_within n j (InfoPlace j) refl lt) (none_within n HeaderInfo refl)
    (all_map (λ (e : Entry). Within n e.0) script_entry (by_name spec.scripts) (everywhere (λ (f : Named). Within n (Script f.0)) (λ f. none_within n (Script f.0) refl) (by_name spec.scripts)))
    (none_within n Manifest refl, (none_within n Version refl, tt))

not_stray : (n : ℕ) (e : Entry) → IsEntry e → Within n e.0 → stray_path n (Some (spelled e.0)) ≡ None
not_stray n e he within = ap (λ (p : TreePlace). option_and_then (λ k. cond (nat_le n k) (Some (spelled e.0)) None) (payload_of p)) (place_spelled e.0 he.place) ∙ by (payload_of e.0) refl
  where
    by : (o : Option ℕ) → payload_of e.0 ≡ o → option_and_then (λ k. cond (nat_le n k) (Some (spelled e.0)) None) o ≡ None
    by None is = refl
    by (Some k) is = let less : nat_le n k ≡ false = (let lt : k < n = within k is in grind (arith, nat_tests)) in rw less refl

no_stray : (n : ℕ) (es : List Entry) → AllByRecursion IsEntry es → AllByRecursion (λ (e : Entry). Within n e.0) es → filter_map (λ (h : FileHead). stray_path n h.path) (map head es) ≡ []
no_stray n [] h w = refl
no_stray n (e ∷ es) h w = ap (λ (o : Option (List ℕ)). cons_option o (filter_map (λ (v : FileHead). stray_path n v.path) (map head es))) (not_stray n e h.0 w.0) ∙ no_stray n es h.1 w.1

pub none_stray : (spec : TreeSpec) → AllByRecursion IsEntry (entries_of spec) → no_such_payload (map head (entries_of spec)) (length spec.payloads) ≡ None
unfolding no_such_payload
none_stray spec good = ap (λ (xs : List (List ℕ)). option_map NoSuchPayload (slice_get xs 0)) (no_stray (length spec.payloads) (entries_of spec) good (all_within spec))

-- ---- what the type-infos say

abbrev info_list : ℕ → List PayloadSpec → List (ℕ × List ℕ)
info_list k [] = []
info_list k (p ∷ ps) = (k, info_text p) ∷ info_list (suc k) ps

abbrev text_at : Entry → Option (ℕ × List ℕ)
text_at e = option_map (λ k. (k, e.1)) (info_at e.0)

texts_by_place : (es : List Entry) → AllByRecursion IsEntry es → filter_map text_in (map as_file es) ≡ filter_map text_at es
texts_by_place [] h = refl
texts_by_place (e ∷ es) h =
    ap (λ (p : TreePlace). cons_option (option_map (λ k. (k, e.1)) (info_at p)) (filter_map text_in (map as_file es))) (place_spelled e.0 h.0.place)
    ∙ ap (cons_option (text_at e)) (texts_by_place es h.1)

no_text_in_data : (ps : List PayloadSpec) → filter_map text_at (data_entries 0 ps) ≡ []
no_text_in_data ps = none_found text_at (data_entries 0 ps) (data_all (λ (e : Entry). text_at e ≡ None) (length ps) 0 ps (omega arith) (λ j f lt. refl))

no_text_in_scripts : (fs : List Named) → filter_map text_at (map script_entry fs) ≡ []
no_text_in_scripts fs = none_found text_at (map script_entry fs) (all_map (λ (e : Entry). text_at e ≡ None) script_entry fs (everywhere (λ (f : Named). text_at (script_entry f) ≡ None) (λ f. refl) fs))

texts_of_infos : (k : ℕ) (ps : List PayloadSpec) → filter_map text_at (info_entries k ps) ≡ info_list k ps
texts_of_infos k [] = refl
texts_of_infos k (p ∷ ps) = ap (λ (xs : List (ℕ × List ℕ)). (k, info_text p) ∷ xs) (texts_of_infos (suc k) ps)

texts_in_tree : (spec : TreeSpec) → AllByRecursion IsEntry (entries_of spec) → info_texts (map as_file (entries_of spec)) ≡ info_list 0 spec.payloads
texts_in_tree spec good =
    let D = data_entries 0 spec.payloads in
    let I = info_entries 0 spec.payloads in
    let S = script_entries spec.scripts in
    let scripts : filter_map text_at (I ++ S) ≡ info_list 0 spec.payloads =
    filter_map-append text_at I S ∙ ap (λ (xs : List (ℕ × List ℕ)). filter_map text_at I ++ xs) (no_text_in_scripts (by_name spec.scripts)) ∙ append-nil (filter_map text_at I) ∙ texts_of_infos 0 spec.payloads in
    let front : filter_map text_at (front_entries spec) ≡ info_list 0 spec.payloads =
    filter_map-append text_at D ((HeaderInfo, header_text spec) ∷ (I ++ S)) ∙ ap (λ (xs : List (ℕ × List ℕ)). xs ++ filter_map text_at (I ++ S)) (no_text_in_data spec.payloads) ∙ scripts in
    texts_by_place (entries_of spec) good
    ∙ filter_map-append text_at (front_entries spec) (tail_entries spec) ∙ append-nil (filter_map text_at (front_entries spec)) ∙ front

text_found : (j k : ℕ) (done : List PayloadSpec) (p : PayloadSpec) (rest : List PayloadSpec) → k ≡ j + length done → text_of (info_list j (done ++ p ∷ rest)) k ≡ Some (info_text p)
text_found j k [] p rest is = let same : j == k ≡ true = (let e : j ≡ k = omega (arith, is) in grind (arith, nat_tests)) in rw same refl
text_found j k (d ∷ done) p rest is = let other : j == k ≡ false = (let lt : j < k = omega (arith, is) in grind (arith, nat_tests)) in rw other (text_found (suc j) k done p rest (omega (arith, is)))

info_found : (k : ℕ) (p : PayloadSpec) → IsGood p → info_of k p.kind (Some (info_text p)) ≡ Ok (plan.info_of p)
unfolding info_of other_kind
info_found k p g =
    let same : bytes_eq p.kind p.kind ≡ true = (bytes_eq-Decides p.kind p.kind).1 refl in
    rw (info-back p g, same) refl

infos-read : (texts : List (ℕ × List ℕ)) (all done rest : List PayloadSpec) → all ≡ done ++ rest → texts ≡ info_list 0 all → AllByRecursion IsGood rest
    → infos_after (map plan.info_of done) (map (λ (p : PayloadSpec). p.kind) rest) texts ≡ Ok (map plan.info_of (done ++ rest))
infos-read texts all done [] is ts g = ap (λ (ps : List PayloadSpec). Ok (map plan.info_of ps)) (sym (append-nil done))
infos-read texts all done (p ∷ rest) is ts g =
    let long : length (map plan.info_of done) ≡ length done = length-map done plan.info_of in
    let text : text_of texts (length (map plan.info_of done)) ≡ Some (info_text p) =
    ap (λ (xs : List (ℕ × List ℕ)). text_of xs (length (map plan.info_of done))) (ts ∙ ap (info_list 0) is) ∙ text_found 0 (length (map plan.info_of done)) done p rest (omega (arith, long)) in
    ap (λ (o : Option (List ℕ)). info_of (length (map plan.info_of done)) p.kind o >>= λ info. infos_after (map plan.info_of done ++ info ∷ []) (map (λ (q : PayloadSpec). q.kind) rest) texts) text
    ∙ ap (λ (r : Result TypeInfo Refusal). r >>= λ info. infos_after (map plan.info_of done ++ info ∷ []) (map (λ (q : PayloadSpec). q.kind) rest) texts) (info_found (length (map plan.info_of done)) p g.0)
    ∙ ap (λ (found : List TypeInfo). infos_after found (map (λ (q : PayloadSpec). q.kind) rest) texts) (sym (map-append plan.info_of done (p ∷ [])))
    ∙ infos-read texts all (done ++ p ∷ []) rest (is ∙ sym (append_assoc done (p ∷ []) rest)) ts g.1
    ∙ ap (λ (ps : List PayloadSpec). Ok (map plan.info_of ps)) (append_assoc done (p ∷ []) rest)

pub all_infos : (spec : TreeSpec) → AllByRecursion IsEntry (entries_of spec) → AllByRecursion IsGood spec.payloads
    → infos_after [] (map (λ (p : PayloadSpec). p.kind) spec.payloads) (info_texts (map as_file (entries_of spec))) ≡ Ok (map plan.info_of spec.payloads)
all_infos spec good g = infos-read (info_texts (map as_file (entries_of spec))) spec.payloads [] spec.payloads refl (texts_in_tree spec good) g

-- ---- the scripts

abbrev name_at : Entry → Option (List ℕ)
name_at e = script_at e.0

no_name_in_data : (ps : List PayloadSpec) → filter_map name_at (data_entries 0 ps) ≡ []
no_name_in_data ps = none_found name_at (data_entries 0 ps) (data_all (λ (e : Entry). name_at e ≡ None) (length ps) 0 ps (omega arith) (λ j f lt. refl))

no_name_in_infos : (ps : List PayloadSpec) → filter_map name_at (info_entries 0 ps) ≡ []
no_name_in_infos ps = none_found name_at (info_entries 0 ps) (infos_all (λ (e : Entry). name_at e ≡ None) (length ps) 0 ps (omega arith) (λ j p lt. refl))

names_of_scripts : (fs : List Named) → filter_map name_at (map script_entry fs) ≡ plan.names_of fs
names_of_scripts [] = refl
names_of_scripts (f ∷ fs) = ap (λ (xs : List (List ℕ)). f.0 ∷ xs) (names_of_scripts fs)

names_in_tree : (spec : TreeSpec) → AllByRecursion IsEntry (entries_of spec) → script_names (map head (entries_of spec)) ≡ plan.names_of (by_name spec.scripts)
names_in_tree spec good =
    let D = data_entries 0 spec.payloads in
    let I = info_entries 0 spec.payloads in
    let S = script_entries spec.scripts in
    let scripts : filter_map name_at (I ++ S) ≡ plan.names_of (by_name spec.scripts) =
    filter_map-append name_at I S ∙ ap (λ (xs : List (List ℕ)). xs ++ filter_map name_at S) (no_name_in_infos spec.payloads) ∙ names_of_scripts (by_name spec.scripts) in
    let front : filter_map name_at (front_entries spec) ≡ plan.names_of (by_name spec.scripts) =
    filter_map-append name_at D ((HeaderInfo, header_text spec) ∷ (I ++ S)) ∙ ap (λ (xs : List (List ℕ)). xs ++ filter_map name_at (I ++ S)) (no_name_in_data spec.payloads) ∙ scripts in
    found_by_place script_at (entries_of spec) good
    ∙ filter_map-append name_at (front_entries spec) (tail_entries spec) ∙ append-nil (filter_map name_at (front_entries spec)) ∙ front

abbrev Allowed : TreePlace → Type 0
Allowed p = (n : List ℕ) → script_at p ≡ Some n → is_artifact_script n ≡ true

no_script : (p : TreePlace) → script_at p ≡ None → Allowed p
no_script p is n h = absurd (let bad : None ≡ Some n = sym is ∙ h in cc)

scripts_allowed : (fs : List Named) → AllByRecursion (λ (f : Named). is_script_name f.0 ≡ true) fs → AllByRecursion (λ (e : Entry). Allowed e.0) (map script_entry fs)
scripts_allowed [] h = tt
scripts_allowed (f ∷ fs) h =
    let t = and_parts (is_artifact_script f.0) (nat_le (length f.0) 113) h.0 in
    ((λ n is. subst (λ (m : List ℕ). is_artifact_script m ≡ true) (some_is f.0 n is) t.0), scripts_allowed fs h.1)

all_allowed : (spec : TreeSpec) → IsShaped spec → AllByRecursion (λ (e : Entry). Allowed e.0) (entries_of spec)
all_allowed spec s =
    all_entries (λ (e : Entry). Allowed e.0) spec (λ j f lt. no_script (Payload j f.0) refl) (λ j p lt. no_script (InfoPlace j) refl) (no_script HeaderInfo refl)
    (scripts_allowed (by_name spec.scripts) (ordered (test_of Scripts) spec.scripts s.scripts.fresh).pass)
    (no_script Manifest refl, (no_script Version refl, tt))

not_bad : (e : Entry) → IsEntry e → Allowed e.0 → bad_script (Some (spelled e.0)) ≡ None
not_bad e he a = ap (λ (p : TreePlace). option_and_then (λ n. cond (is_artifact_script n) None (Some (spelled e.0))) (script_at p)) (place_spelled e.0 he.place) ∙ by (script_at e.0) refl
  where
    by : (o : Option (List ℕ)) → script_at e.0 ≡ o → option_and_then (λ n. cond (is_artifact_script n) None (Some (spelled e.0))) o ≡ None
    by None is = refl
    by (Some n) is = rw (a n is) refl

none_bad : (es : List Entry) → AllByRecursion IsEntry es → AllByRecursion (λ (e : Entry). Allowed e.0) es → filter_map (λ (h : FileHead). bad_script h.path) (map head es) ≡ []
none_bad [] h a = refl
none_bad (e ∷ es) h a = ap (λ (o : Option (List ℕ)). cons_option o (filter_map (λ (v : FileHead). bad_script v.path) (map head es))) (not_bad e h.0 a.0) ∙ none_bad es h.1 a.1

pub all_scripts : (spec : TreeSpec) → IsShaped spec → AllByRecursion IsEntry (entries_of spec) → length (by_name spec.scripts) ≤ 64 → scripts_of (map head (entries_of spec)) ≡ Ok (plan.names_of (by_name spec.scripts))
unfolding scripts_of bad_script_name too_many_scripts
all_scripts spec s good few =
    let names = names_in_tree spec good in
    let long : length (plan.names_of (by_name spec.scripts)) ≡ length (by_name spec.scripts) = length-map (by_name spec.scripts) (λ (f : Named). f.0) in
    let test : ltb 64 (length (plan.names_of (by_name spec.scripts))) ≡ false = le-ltb _ _ (omega (arith, few, long)) in
    rw (none_bad (entries_of spec) good (all_allowed spec s), names, test) (ap Ok (names_stay (by_name spec.scripts) (ordered (test_of Scripts) spec.scripts s.scripts.fresh).sorted))
