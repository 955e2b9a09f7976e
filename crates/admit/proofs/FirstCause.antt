-- The checks in their order answer the first row of the table of causes.
use Rattle.std.proofs.Common.{◌≡◌, ◌∙◌, ℕ, Bool, true, List, [], ◌∷◌, ◌++◌, length, Option, Some, None, Result, Ok, Err, refl, sym, ap}
use Rattle.std.specs.Prelude.{◌↔◌, codes, cond}
use Rattle.std.specs.List.{All, filter_map, flat_map, zip}
use Rattle.std.specs.Option.{option_map, option_map_or, ok_or, is_none}
use Rattle.std.specs.Result.{result_err, is_ok}
use Rattle.std.proofs.lemmas.List.Elements.{All-nil, All-cons, All-head, All-tail}
use Rattle.upd_text.specs.Results.{◌>>=◌}
use Rattle.io_model.specs.Source.{Tree, bytes_at}
use Rattle.provides_map.specs.Pairs.{Pairs}
use Rattle.provides_map.specs.After.{first_unmet}
use Rattle.artifact_meta.specs.Header.{header_info_of}
use Rattle.artifact_meta.specs.declared.header.HeaderInfo.{HeaderInfo}
use Rattle.artifact_meta.specs.declared.info.TypeInfo.{TypeInfo}
use Rattle.artifact_meta.specs.declared.fault.MetaFault.{MetaFault}
use Rattle.manifest_sums.specs.Manifest.{manifest_of}
use Rattle.manifest_sums.specs.declared.manifest.Line.{Line}
use Rattle.manifest_sums.specs.declared.manifest.ManifestFault.{ManifestFault}
use Rattle.admit.specs.Table.{FileHead, first_some, unless, heads_of, too_many, first_bad_path, place_in, path_of, needed, too_long, table_of}
use Rattle.admit.specs.Admit.{refuse_manifest, number_of, not_listed, absent, lines_of, refuse_meta, bad_version, no_type_info, no_such_payload, info_texts, infos_after, fields_of, wants_of, script_names, in_order, bad_script_name, too_many_scripts, scripts_of, head_plan_of, plan_of}
use Rattle.admit.specs.Differing.{Listed, listed_of, in_payload, in_rest, first_differing}
use Rattle.admit.specs.Causes.{text_at, header_in, found_or, lines_in, listed_in, kinds_of, header_wants, count_in, infos_in, wants_in, no_file, head_causes, causes, first_of, IsFirst}
use Rattle.admit.specs.declared.admitted.Admitted.{Admitted}
use Rattle.admit.specs.declared.fields.Fields.{Fields}
use Rattle.admit.specs.declared.lines.Listing.{Listing}
use Rattle.admit.specs.declared.table.Places.{Places}
use Rattle.admit.specs.declared.refusal.Refusal.{Refusal}
use Rattle.admit.specs.declared.refusal.Refusal.TheVariants.{NoFile, Manifest, SumDiffers, Meta, Unmet, PayloadDiffers}
use Rattle.admit.specs.declared.refusal.Which.TheVariants as which
use Rattle.admit.proofs.TableLemmas.{bind_ok}

-- ---- the first row

first_then : (rows more : List (Option Refusal)) → first_of rows ≡ None → first_of (rows ++ more) ≡ first_of more
first_then [] more h = refl
first_then (None ∷ rows) more h = first_then rows more h
first_then (Some r ∷ rows) more h = absurd cc

first_front : (rows more : List (Option Refusal)) (r : Refusal) → first_of rows ≡ Some r → first_of (rows ++ more) ≡ Some r
first_front [] more r h = absurd cc
first_front (None ∷ rows) more r h = first_front rows more r h
first_front (Some x ∷ rows) more r h = h

found : (rows : List (Option Refusal)) (r : Refusal) → first_of rows ≡ Some r → IsFirst rows r
found [] r h = absurd cc
found (None ∷ rows) r h =
    let more = found rows r h in
    record { before = None ∷ more.before; behind = more.behind; place = ap (λ (l : List (Option Refusal)). None ∷ l) more.place; none = All-cons (λ (row : Option Refusal). row ≡ None) None more.before refl more.none }
found (Some x ∷ rows) r h = record { before = []; behind = rows; place = ap (λ (o : Option Refusal). o ∷ rows) h; none = All-nil (λ (row : Option Refusal). row ≡ None) }

passed : (before behind : List (Option Refusal)) (r : Refusal) → All (λ (row : Option Refusal). row ≡ None) before → first_of (before ++ Some r ∷ behind) ≡ Some r
passed [] behind r h = refl
passed (None ∷ before) behind r h = passed before behind r (All-tail (λ (row : Option Refusal). row ≡ None) None before h)
passed (Some x ∷ before) behind r h = absurd (some_none (All-head (λ (row : Option Refusal). row ≡ None) (Some x) before h))
  where
    some_none : {x : Refusal} → Some x ≡ None → ⊥
    some_none e = cc

is_first : (rows : List (Option Refusal)) (r : Refusal) → IsFirst rows r → first_of rows ≡ Some r
is_first rows r h = ap first_of h.place ∙ passed h.before h.behind r h.none

none_first : (rows : List (Option Refusal)) → first_of rows ≡ None → All (λ row. row ≡ None) rows
none_first [] h = All-nil (λ (row : Option Refusal). row ≡ None)
none_first (None ∷ rows) h = All-cons (λ (row : Option Refusal). row ≡ None) None rows refl (none_first rows h)
none_first (Some x ∷ rows) h = absurd cc

first_none : (rows : List (Option Refusal)) → All (λ row. row ≡ None) rows → first_of rows ≡ None
first_none [] h = refl
first_none (None ∷ rows) h = first_none rows (All-tail (λ (row : Option Refusal). row ≡ None) None rows h)
first_none (Some x ∷ rows) h = absurd (some_none (All-head (λ (row : Option Refusal). row ≡ None) (Some x) rows h))
  where
    some_none : {x : Refusal} → Some x ≡ None → ⊥
    some_none e = cc

-- ---- one check after another

unless_then : {B : Type 0} (o : Option Refusal) (f : Unit {0} → Result B Refusal) (rows : List (Option Refusal)) → result_err (f tt) ≡ first_of rows → result_err (unless o >>= f) ≡ first_of (o ∷ rows)
unless_then None f rows h = h
unless_then (Some r) f rows h = refl

-- what the table of the files decides, by the paths and places that it finds
table_by : {B : Type 0} (bad long : Option Refusal) (v m h i : Option ℕ) (K : Places → Result B Refusal) (rows : List (Option Refusal))
    → ((p : Places) → v ≡ Some p.version → m ≡ Some p.manifest → h ≡ Some p.header_info → result_err (K p) ≡ first_of rows)
    → result_err ((unless bad >>= λ _. ok_or v (NoFile which.Version) >>= λ v'. ok_or m (NoFile which.Manifest) >>= λ m'. ok_or h (NoFile which.HeaderInfo) >>= λ h'. ok_or i (NoFile which.TypeInfo) >>= λ _. unless long >>= λ _. Ok (record { version = v'; manifest = m'; header_info = h' })) >>= K)
    ≡ first_of (bad ∷ option_map NoFile (cond (is_none v) (Some which.Version) (cond (is_none m) (Some which.Manifest) (cond (is_none h) (Some which.HeaderInfo) (cond (is_none i) (Some which.TypeInfo) None)))) ∷ long ∷ rows)
table_by (Some r) long v m h i K rows more = refl
table_by None long None m h i K rows more = refl
table_by None long (Some v) None h i K rows more = refl
table_by None long (Some v) (Some m) None i K rows more = refl
table_by None long (Some v) (Some m) (Some h) None K rows more = refl
table_by None (Some r) (Some v) (Some m) (Some h) (Some i) K rows more = refl
table_by None None (Some v) (Some m) (Some h) (Some i) K rows more = more (record { version = v; manifest = m; header_info = h }) refl refl refl

table_then : {B : Type 0} (heads : List FileHead) (K : Places → Result B Refusal) (rows : List (Option Refusal))
    → ((p : Places) → place_in heads (codes "version") ≡ Some p.version → place_in heads (codes "manifest") ≡ Some p.manifest → place_in heads (codes "header/header-info") ≡ Some p.header_info → result_err (K p) ≡ first_of rows)
    → result_err (table_of heads >>= K) ≡ first_of (first_bad_path heads ∷ no_file heads ∷ too_long heads ∷ rows)
unfolding table_of needed
table_then heads K rows more = table_by (first_bad_path heads) (too_long heads) (place_in heads (codes "version")) (place_in heads (codes "manifest")) (place_in heads (codes "header/header-info")) (place_in heads (codes "header/headers/0000/type-info")) K rows more

place_by : (bad long : Option Refusal) (v m h i : Option ℕ) (p : Places)
    → (unless bad >>= λ _. ok_or v (NoFile which.Version) >>= λ v'. ok_or m (NoFile which.Manifest) >>= λ m'. ok_or h (NoFile which.HeaderInfo) >>= λ h'. ok_or i (NoFile which.TypeInfo) >>= λ _. unless long >>= λ _. Ok (record { version = v'; manifest = m'; header_info = h' })) ≡ Ok p
    → m ≡ Some p.manifest
place_by (Some r) long v m h i p e = absurd cc
place_by None long None m h i p e = absurd cc
place_by None long (Some v) None h i p e = absurd cc
place_by None long (Some v) (Some m) None i p e = absurd cc
place_by None long (Some v) (Some m) (Some h) None p e = absurd cc
place_by None (Some r) (Some v) (Some m) (Some h) (Some i) p e = absurd cc
place_by None None (Some v) (Some m) (Some h) (Some i) p e =
    let made : Places = record { version = v; manifest = m; header_info = h } in
    let same : made ≡ p = cc in
    ap (λ (q : Places). Some q.manifest) same

manifest_place : (heads : List FileHead) (p : Places) → table_of heads ≡ Ok p → place_in heads (codes "manifest") ≡ Some p.manifest
unfolding table_of needed
manifest_place heads p e = place_by (first_bad_path heads) (too_long heads) (place_in heads (codes "version")) (place_in heads (codes "manifest")) (place_in heads (codes "header/header-info")) (place_in heads (codes "header/headers/0000/type-info")) p e

lines_made : (heads : List FileHead) (bytes : List ℕ) (l : Listing) → lines_of heads bytes ≡ Ok l → zip l.manifest l.numbers ≡ zip (found_or [] (manifest_of bytes)) (filter_map (number_of heads) (found_or [] (manifest_of bytes)))
unfolding lines_of
lines_made heads bytes l e = by_read (manifest_of bytes) e
  where
    by_two : (lines : List Line) (a b : Option Refusal) → (unless a >>= λ _. unless b >>= λ _. Ok (record { manifest = lines; numbers = filter_map (number_of heads) lines })) ≡ Ok l → zip l.manifest l.numbers ≡ zip lines (filter_map (number_of heads) lines)
    by_two lines (Some r) b h = absurd cc
    by_two lines None (Some r) h = absurd cc
    by_two lines None None h =
        let same : ◌≡◌ {A = Listing} (record { manifest = lines; numbers = filter_map (number_of heads) lines }) l = cc in
        ap (λ (x : Listing). zip x.manifest x.numbers) (sym same)

    by_read : (read : Result (List Line) ManifestFault) → (refuse_manifest read >>= λ lines. unless (not_listed lines heads) >>= λ _. unless (absent heads lines) >>= λ _. Ok (record { manifest = lines; numbers = filter_map (number_of heads) lines })) ≡ Ok l → zip l.manifest l.numbers ≡ zip (found_or [] read) (filter_map (number_of heads) (found_or [] read))
    by_read (Err fault) h = absurd cc
    by_read (Ok lines) h = by_two lines (not_listed lines heads) (absent heads lines) h

lines_by : {B : Type 0} (heads : List FileHead) (read : Result (List Line) ManifestFault) (K : Listing → Result B Refusal) (rows : List (Option Refusal))
    → result_err (K (record { manifest = found_or [] read; numbers = filter_map (number_of heads) (found_or [] read) })) ≡ first_of rows
    → result_err ((refuse_manifest read >>= λ lines. unless (not_listed lines heads) >>= λ _. unless (absent heads lines) >>= λ _. Ok (record { manifest = lines; numbers = filter_map (number_of heads) lines })) >>= K)
    ≡ first_of (option_map Manifest (result_err read) ∷ not_listed (found_or [] read) heads ∷ absent heads (found_or [] read) ∷ rows)
lines_by heads (Err fault) K rows more = refl
lines_by heads (Ok lines) K rows more = by_two (not_listed lines heads) (absent heads lines)
  where
    by_two : (a b : Option Refusal) → result_err ((unless a >>= λ _. unless b >>= λ _. Ok (record { manifest = lines; numbers = filter_map (number_of heads) lines })) >>= K) ≡ first_of (a ∷ b ∷ rows)
    by_two (Some r) b = refl
    by_two None (Some r) = refl
    by_two None None = more

lines_then : {B : Type 0} (heads : List FileHead) (bytes : List ℕ) (K : Listing → Result B Refusal) (rows : List (Option Refusal))
    → result_err (K (record { manifest = found_or [] (manifest_of bytes); numbers = filter_map (number_of heads) (found_or [] (manifest_of bytes)) })) ≡ first_of rows
    → result_err (lines_of heads bytes >>= K) ≡ first_of (option_map Manifest (result_err (manifest_of bytes)) ∷ not_listed (found_or [] (manifest_of bytes)) heads ∷ absent heads (found_or [] (manifest_of bytes)) ∷ rows)
unfolding lines_of
lines_then heads bytes K rows more = lines_by heads (manifest_of bytes) K rows more

fields_by : {B : Type 0} (heads : List FileHead) (bad : Option Refusal) (read : Result HeaderInfo MetaFault) (texts : List (ℕ × List ℕ)) (K : Fields → Result B Refusal) (rows : List (Option Refusal))
    → ((f : Fields) → read ≡ Ok f.header → infos_after [] (kinds_of read) texts ≡ Ok f.infos → result_err (K f) ≡ first_of rows)
    → result_err ((unless bad >>= λ _. refuse_meta 0 read >>= λ header. unless (no_type_info heads (length header.kinds)) >>= λ _. unless (no_such_payload heads (length header.kinds)) >>= λ _. infos_after [] header.kinds texts >>= λ infos. Ok (record { header = header; infos = infos })) >>= K)
    ≡ first_of (bad ∷ option_map (λ fault. Meta fault 0) (result_err read) ∷ no_type_info heads (length (kinds_of read)) ∷ no_such_payload heads (length (kinds_of read)) ∷ result_err (infos_after [] (kinds_of read) texts) ∷ rows)
fields_by heads (Some r) read texts K rows more = refl
fields_by heads None (Err fault) texts K rows more = refl
fields_by heads None (Ok header) texts K rows more = by_three (no_type_info heads (length header.kinds)) (no_such_payload heads (length header.kinds)) (infos_after [] header.kinds texts) refl
  where
    by_three : (a b : Option Refusal) (r : Result (List TypeInfo) Refusal) → infos_after [] header.kinds texts ≡ r
        → result_err ((unless a >>= λ _. unless b >>= λ _. r >>= λ infos. Ok (record { header = header; infos = infos })) >>= K) ≡ first_of (a ∷ b ∷ result_err r ∷ rows)
    by_three (Some x) b r e = refl
    by_three None (Some x) r e = refl
    by_three None None (Err x) e = refl
    by_three None None (Ok infos) e = more (record { header = header; infos = infos }) refl e

fields_then : {B : Type 0} (heads : List FileHead) (version header_info : List ℕ) (texts : List (ℕ × List ℕ)) (K : Fields → Result B Refusal) (rows : List (Option Refusal))
    → ((f : Fields) → header_info_of header_info ≡ Ok f.header → infos_after [] (kinds_of (header_info_of header_info)) texts ≡ Ok f.infos → result_err (K f) ≡ first_of rows)
    → result_err (fields_of heads version header_info texts >>= K)
    ≡ first_of (bad_version version ∷ option_map (λ fault. Meta fault 0) (result_err (header_info_of header_info)) ∷ no_type_info heads (length (kinds_of (header_info_of header_info))) ∷ no_such_payload heads (length (kinds_of (header_info_of header_info))) ∷ result_err (infos_after [] (kinds_of (header_info_of header_info)) texts) ∷ rows)
unfolding fields_of
fields_then heads version header_info texts K rows more = fields_by heads (bad_version version) (header_info_of header_info) texts K rows more

scripts_by : {B : Type 0} (bad many : Option Refusal) (names : List (List ℕ)) (K : List (List ℕ) → Result B Refusal) (rows : List (Option Refusal)) → result_err (K names) ≡ first_of rows → result_err ((unless bad >>= λ _. unless many >>= λ _. Ok names) >>= K) ≡ first_of (bad ∷ many ∷ rows)
scripts_by (Some r) many names K rows more = refl
scripts_by None (Some r) names K rows more = refl
scripts_by None None names K rows more = more

scripts_then : {B : Type 0} (heads : List FileHead) (K : List (List ℕ) → Result B Refusal) (rows : List (Option Refusal)) → result_err (K (in_order (script_names heads))) ≡ first_of rows → result_err (scripts_of heads >>= K) ≡ first_of (bad_script_name heads ∷ too_many_scripts heads ∷ rows)
unfolding scripts_of
scripts_then heads K rows more = scripts_by (bad_script_name heads) (too_many_scripts heads) (in_order (script_names heads)) K rows more

last_then : {B : Type 0} (o : Option Refusal) (x : B) → result_err (unless o >>= λ _. Ok x) ≡ first_of (o ∷ [])
last_then None x = refl
last_then (Some r) x = refl

-- ---- the whole

module _ (t : Tree) (type : List ℕ) (held : Pairs) where
  -- the checks behind those of the table, over the texts of the three files
  behind_table : List ℕ → List ℕ → List ℕ → Result Admitted Refusal
  behind_table manifest version header_info =
      lines_of (heads_of t) manifest >>= λ listing.
      unless (option_map SumDiffers (first_differing in_rest t (zip listing.manifest listing.numbers))) >>= λ _.
      fields_of (heads_of t) version header_info (info_texts t) >>= λ fields.
      scripts_of (heads_of t) >>= λ scripts.
      unless (option_map Unmet (first_unmet (wants_of fields) type held)) >>= λ _.
      Ok (record { manifest = listing.manifest; numbers = listing.numbers; header = fields.header; infos = fields.infos; scripts = scripts })

  same_wants : (f : Fields) → header_in t ≡ Ok f.header → infos_in t ≡ Ok f.infos → wants_of f ≡ wants_in t
  same_wants f h i =
      ap (λ (r : Result HeaderInfo MetaFault). header_wants r ++ flat_map (λ (info : TypeInfo). info.wants) f.infos) (sym h)
      ∙ ap (λ (r : Result (List TypeInfo) Refusal). header_wants (header_in t) ++ flat_map (λ (info : TypeInfo). info.wants) (found_or [] r)) (sym i)

  unfolding_head : head_plan_of t type held ≡ (unless (too_many (heads_of t)) >>= λ _. table_of (heads_of t) >>= λ places. behind_table (bytes_at t places.manifest) (bytes_at t places.version) (bytes_at t places.header_info))
  unfolding head_plan_of behind_table
  unfolding_head = refl

  -- the rows behind those of the table, of the sums, of the fields and of the scripts
  abbrev behind_scripts : List (Option Refusal)
  behind_scripts = option_map Unmet (first_unmet (wants_in t) type held) ∷ []

  abbrev behind_fields : List (Option Refusal)
  behind_fields = bad_script_name (heads_of t) ∷ too_many_scripts (heads_of t) ∷ behind_scripts

  abbrev behind_sums : List (Option Refusal)
  behind_sums =
      bad_version (text_at t (codes "version"))
      ∷ option_map (λ fault. Meta fault 0) (result_err (header_in t))
      ∷ no_type_info (heads_of t) (count_in t)
      ∷ no_such_payload (heads_of t) (count_in t)
      ∷ result_err (infos_in t)
      ∷ behind_fields

  abbrev behind_lines : List (Option Refusal)
  behind_lines = option_map SumDiffers (first_differing in_rest t (listed_in t)) ∷ behind_sums

  abbrev rows_behind : List (Option Refusal)
  rows_behind =
      option_map Manifest (result_err (manifest_of (text_at t (codes "manifest"))))
      ∷ not_listed (lines_in t) (heads_of t)
      ∷ absent (heads_of t) (lines_in t)
      ∷ behind_lines

  behind_is : result_err (behind_table (text_at t (codes "manifest")) (text_at t (codes "version")) (text_at t (codes "header/header-info"))) ≡ first_of rows_behind
  unfolding behind_table
  behind_is =
      lines_then (heads_of t) (text_at t (codes "manifest")) _ behind_lines
      (unless_then (option_map SumDiffers (first_differing in_rest t (listed_in t))) _ behind_sums
      (fields_then (heads_of t) (text_at t (codes "version")) (text_at t (codes "header/header-info")) (info_texts t) _ behind_fields
      (λ f h i. scripts_then (heads_of t) _ behind_scripts
      (last_then (option_map Unmet (first_unmet (wants_of f) type held)) _
      ∙ ap (λ ws. first_of (option_map Unmet (first_unmet ws type held) ∷ [])) (same_wants f h i)))))

  text_is : (path : List ℕ) (i : ℕ) → place_in (heads_of t) path ≡ Some i → text_at t path ≡ bytes_at t i
  text_is path i h = ap (λ o. option_map_or (bytes_at t) o []) h

  -- all but the payloads' sums
  pub head_is : result_err (head_plan_of t type held) ≡ first_of (head_causes t type held)
  head_is =
      ap result_err unfolding_head
      ∙ unless_then (too_many (heads_of t)) _ (first_bad_path (heads_of t) ∷ no_file (heads_of t) ∷ too_long (heads_of t) ∷ rows_behind)
      (table_then (heads_of t) _ rows_behind
      (λ p v m h.
      ap (λ bytes. result_err (behind_table bytes (bytes_at t p.version) (bytes_at t p.header_info))) (sym (text_is (codes "manifest") p.manifest m))
      ∙ ap (λ bytes. result_err (behind_table (text_at t (codes "manifest")) bytes (bytes_at t p.header_info))) (sym (text_is (codes "version") p.version v))
      ∙ ap (λ bytes. result_err (behind_table (text_at t (codes "manifest")) (text_at t (codes "version")) bytes)) (sym (text_is (codes "header/header-info") p.header_info h))
      ∙ behind_is))

  -- what a plan lists is what the table lists
  same_lines : (p : Admitted) → head_plan_of t type held ≡ Ok p → listed_of p ≡ listed_in t
  unfolding head_plan_of
  same_lines p h =
      let many = bind_ok (unless (too_many (heads_of t))) _ p h in
      let table = bind_ok (table_of (heads_of t)) _ p many.2 in
      let listing = bind_ok (lines_of (heads_of t) (bytes_at t table.0.manifest)) _ p table.2 in
      let sums = bind_ok (unless (option_map SumDiffers (first_differing in_rest t (zip listing.0.manifest listing.0.numbers)))) _ p listing.2 in
      let fields = bind_ok (fields_of (heads_of t) (bytes_at t table.0.version) (bytes_at t table.0.header_info) (info_texts t)) _ p sums.2 in
      let scripts = bind_ok (scripts_of (heads_of t)) _ p fields.2 in
      let wants = bind_ok (unless (option_map Unmet (first_unmet (wants_of fields.0) type held))) _ p scripts.2 in
      let made : Admitted = record { manifest = listing.0.manifest; numbers = listing.0.numbers; header = fields.0.header; infos = fields.0.infos; scripts = scripts.0 } in
      let same : made ≡ p = cc (wants.2) in
      let bytes = text_is (codes "manifest") table.0.manifest (manifest_place (heads_of t) table.0 table.1) in
      ap (λ (q : Admitted). listed_of q) (sym same)
      ∙ lines_made (heads_of t) (bytes_at t table.0.manifest) listing.0 listing.1
      ∙ ap (λ (b : List ℕ). zip (found_or [] (manifest_of b)) (filter_map (number_of (heads_of t)) (found_or [] (manifest_of b)))) (sym bytes)

  by_head : (m : Result Admitted Refusal) → head_plan_of t type held ≡ m → result_err m ≡ first_of (head_causes t type held) → result_err (m >>= λ plan. unless (option_map PayloadDiffers (first_differing in_payload t (listed_of plan))) >>= λ _. Ok plan) ≡ first_of (causes t type held)
  by_head (Err r) is h = sym (first_front (head_causes t type held) (option_map PayloadDiffers (first_differing in_payload t (listed_in t)) ∷ []) r (sym h))
  by_head (Ok p) is h =
      last_then (option_map PayloadDiffers (first_differing in_payload t (listed_of p))) p
      ∙ ap (λ l. first_of (option_map PayloadDiffers (first_differing in_payload t l) ∷ [])) (same_lines p is)
      ∙ sym (first_then (head_causes t type held) (option_map PayloadDiffers (first_differing in_payload t (listed_in t)) ∷ []) (sym h))

  pub whole_is : result_err (plan_of t type held) ≡ first_of (causes t type held)
  unfolding plan_of
  whole_is = by_head (head_plan_of t type held) refl head_is

-- ---- the answer and the table

err_is : {A : Type 0} (m : Result A Refusal) (r : Refusal) → (m ≡ Err r) ↔ (result_err m ≡ Some r)
err_is (Ok x) r = (λ h. absurd cc, λ h. absurd cc)
err_is (Err e) r = (λ h. cc, λ h. cc)

pub refused_by : {A : Type 0} (m : Result A Refusal) (rows : List (Option Refusal)) (r : Refusal) → result_err m ≡ first_of rows → (m ≡ Err r) ↔ IsFirst rows r
refused_by m rows r e = (
  λ h. found rows r (sym e ∙ (err_is m r).0 h),
  λ h. (err_is m r).1 (e ∙ is_first rows r h),
)

ok_is : {A : Type 0} (m : Result A Refusal) → (is_ok m ≡ true) ↔ (result_err m ≡ None)
ok_is (Ok x) = (λ h. refl, λ h. refl)
ok_is (Err e) = (λ h. absurd cc, λ h. absurd cc)

pub taken_by : {A : Type 0} (m : Result A Refusal) (rows : List (Option Refusal)) → result_err m ≡ first_of rows → (is_ok m ≡ true) ↔ All (λ row. row ≡ None) rows
taken_by m rows e = (
  λ h. none_first rows (sym e ∙ (ok_is m).0 h),
  λ h. (ok_is m).1 (e ∙ first_none rows h),
)

pub head_refused : (t : Tree) (type : List ℕ) (held : Pairs) (r : Refusal) → (head_plan_of t type held ≡ Err r) ↔ IsFirst (head_causes t type held) r
head_refused t type held r = refused_by (head_plan_of t type held) (head_causes t type held) r (head_is t type held)

pub whole_refused : (t : Tree) (type : List ℕ) (held : Pairs) (r : Refusal) → (plan_of t type held ≡ Err r) ↔ IsFirst (causes t type held) r
whole_refused t type held r = refused_by (plan_of t type held) (causes t type held) r (whole_is t type held)

pub whole_taken : (t : Tree) (type : List ℕ) (held : Pairs) → (is_ok (plan_of t type held) ≡ true) ↔ All (λ row. row ≡ None) (causes t type held)
whole_taken t type held = taken_by (plan_of t type held) (causes t type held) (whole_is t type held)
