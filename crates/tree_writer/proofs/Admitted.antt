-- The admission of a written tree.
use Rattle.std.proofs.Common.{◌≡◌, ◌≢◌, ℕ, ◌+◌, ◌≤◌, Bool, List, [], ◌∷◌, ◌++◌, length, map, Option, Some, None, Ok, codes, refl, sym, ap, ◌∙◌, subst, arith, append_assoc, length-append}
use Rattle.std.specs.Prelude.{flat_map}
use Rattle.std.specs.Option.{option_map, unwrap_or}
use Rattle.std.specs.List.Sorted.{IsStrictlySortedBy}
use Rattle.upd_text.specs.Order.{byte_cmp}
use Rattle.std.specs.List.{AllByRecursion, filter_map, cons_option, range_with_len, zip}
use Rattle.std.proofs.lemmas.Bool.{le-ltb}
use Rattle.std.proofs.lemmas.List.FromFn.{length-range_with_len}
use Rattle.upd_text.specs.Results.{◌>>=◌}
use Rattle.serde_json.proofs.OnLiterals.{serde_json_on_literals}
use Rattle.io_model.specs.Source.{File, Tree, bytes_at}
use Rattle.provides_map.specs.Pairs.{Pairs}
use Rattle.provides_map.specs.After.{first_unmet}
use Rattle.serde_json.specs.Data.{Data, unsigned, number, string, object, no_members, member}
use Rattle.serde_json.specs.Read.{read}
use Rattle.json.proofs.Printed.Utf8.{IsUtf8-are_ascii}
use Rattle.artifact_meta.specs.Meta.{json_of, version_of}
use Rattle.artifact_meta.proofs.Json.{json_read}
use Rattle.manifest_sums.specs.Manifest.{manifest_of}
use Rattle.provides_map.specs.declared.change.Want.{Want}
use Rattle.artifact_meta.specs.declared.info.TypeInfo.{TypeInfo}
use Rattle.tree_writer.specs.Plan.{line_of}
use Rattle.admit.specs.Places.{spelled}
use Rattle.admit.specs.Table.{FileHead, heads_of, too_many, first_bad_path, place_in, needed, table_of, unless}
use Rattle.admit.specs.Admit.{number_of, not_listed, lines_of, bad_version, no_type_info, no_such_payload, info_texts, fields_of, scripts_of, head_plan_of, plan_of}
use Rattle.admit.specs.Differing.{listed_of, in_payload, in_rest, first_differing}
use Rattle.admit.specs.declared.place.TreePlace.TheVariants.{Manifest, HeaderInfo, TypeInfo as InfoPlace}
use Rattle.admit.specs.declared.refusal.Refusal.TheVariants.{Unmet, PayloadDiffers}
use Rattle.tree_writer.specs.declared.spec.PayloadSpec.{PayloadSpec}
use Rattle.tree_writer.specs.declared.spec.TreeSpec.{TreeSpec}
use Rattle.tree_writer.specs.Order.{by_name}
use Rattle.tree_writer.specs.Texts.{version_text, header_text, info_text}
use Rattle.tree_writer.specs.Files.{Entry, as_file, data_entries, info_entries, script_entries, front_entries, listed_entries, version_entry, manifest_text, entries_of, tree_of}
use Rattle.tree_writer.specs.Faults.{written_tree}
use Rattle.tree_writer.specs.Plan as plan
use Rattle.tree_writer.proofs.ManifestBack.{IsEntry, AreDistinct, manifest-back}
use Rattle.tree_writer.proofs.Ordered.{length-by_name}
use Rattle.tree_writer.proofs.TextsBack.{header-back}
use Rattle.tree_writer.proofs.Heads.{head, heads-placed, Lacks, paths_good, placed_at, bytes-placed, all_apart}
use Rattle.std.proofs.lemmas.List.{map-append, length-map}
use Rattle.tree_writer.proofs.Shape.{front_good, entries_good, listed_good, len-tree}
use Rattle.tree_writer.proofs.InByteOrder.{front_distinct, front_listed, entries_distinct, listed_distinct, all_ascend, sorted}
use Rattle.tree_writer.proofs.Chain.{none-unlisted, none-absent, none-differing, numbers-are, number_is}
use Rattle.tree_writer.proofs.Fields.{infos_there, none_stray, all_infos, all_scripts}
use Rattle.tree_writer.proofs.Causes.{IsSound, sound}

-- ---- lists in parts

all-split : {A : Type 0} (P : A → Type 0) (before : List A) (x : A) (behind : List A) → AllByRecursion P (before ++ x ∷ behind) → AllByRecursion P before × P x
all-split P [] x behind h = (tt, h.0)
all-split P (y ∷ before) x behind h = let t = all-split P before x behind h.1 in ((h.0, t.0), t.1)

distinct-split : (before : List Entry) (e : Entry) (behind : List Entry) → AreDistinct (before ++ e ∷ behind) → Lacks e.0 before
distinct-split [] e behind d = tt
distinct-split (x ∷ before) e behind d =
    let other = (all-split (λ (f : Entry). f.0 ≢ x.0) before e behind d.0).1 in
    ((λ same. other (sym same)), distinct-split before e behind d.1)

first_info : (ps : List PayloadSpec) → 1 ≤ length ps → (text : List ℕ) × (more : List Entry) × (info_entries 0 ps ≡ (InfoPlace 0, text) ∷ more)
first_info [] h = absurd (omega arith)
first_info (p ∷ ps) h = (info_text p, info_entries 1 ps, refl)

abbrev version_data : Data
version_data = object (member (codes "format") (string (codes "mender")) (member (codes "version") (number (unsigned 3)) no_members))

version_is : read version_text ≡ Some version_data
unfolding serde_json_on_literals
version_is = refl

version_json : json_of version_text ≡ Some version_data
version_json = sym (json_read version_text version_data (IsUtf8-are_ascii version_text refl, version_is))

version_read : bad_version version_text ≡ None
unfolding bad_version version_of
version_read = rw version_json refl

module _ (spec : TreeSpec) (is : plan.IsSpec spec) (s : IsSound spec) where
  abbrev E : List Entry
  E = entries_of spec

  abbrev T : Tree
  T = map as_file (entries_of spec)

  abbrev F : List Entry
  F = front_entries spec

  abbrev L : List Entry
  L = listed_entries spec

  abbrev M : Entry
  M = (Manifest, manifest_text (listed_entries spec))

  abbrev D : List Entry
  D = data_entries 0 spec.payloads

  abbrev H : Entry
  H = (HeaderInfo, header_text spec)

  abbrev IS : List Entry
  IS = info_entries 0 spec.payloads ++ script_entries spec.scripts

  heads : heads_of T ≡ map head E
  heads = heads-placed E

  good : AllByRecursion IsEntry E
  good = entries_good spec s.shape

  place : (before : List Entry) (e : Entry) (behind : List Entry) → E ≡ before ++ e ∷ behind → place_in (heads_of T) (spelled e.0) ≡ Some (length before)
  place before e behind parts =
      let goods = all-split IsEntry before e behind (subst (AllByRecursion IsEntry) parts good) in
      ap (λ (hs : List FileHead). place_in hs (spelled e.0)) (heads ∙ ap (map head) parts)
      ∙ placed_at before e behind goods.0 goods.1 (distinct-split before e behind (subst AreDistinct parts (entries_distinct spec s.shape)))

  bytes : (before : List Entry) (e : Entry) (behind : List Entry) → E ≡ before ++ e ∷ behind → bytes_at T (length before) ≡ e.1
  bytes before e behind parts = ap (λ (es : List Entry). bytes_at (map as_file es) (length before)) parts ∙ bytes-placed before e behind

  version_parts : E ≡ (F ++ M ∷ []) ++ version_entry ∷ []
  version_parts = sym (append_assoc F (M ∷ []) (version_entry ∷ []))

  header_parts : E ≡ D ++ H ∷ (IS ++ M ∷ version_entry ∷ [])
  header_parts = append_assoc D (H ∷ IS) (M ∷ version_entry ∷ [])

  version_number : length (F ++ M ∷ []) ≡ length F + 1
  version_number = omega (arith, length-append F (M ∷ []))

  -- refusals 3 to 8

  few_heads : length (heads_of T) ≤ 256
  unfolding tree_of
  few_heads = omega (arith, ap (λ (hs : List FileHead). length hs) heads, length-map E head, length-map E as_file, s.few_files)

  not_too_many : too_many (heads_of T) ≡ None
  unfolding too_many
  not_too_many = rw (le-ltb 256 (length (heads_of T)) few_heads) refl

  info_place : (o : ℕ) × (place_in (heads_of T) (codes "header/headers/0000/type-info") ≡ Some o)
  info_place =
      let some : 1 ≤ length spec.payloads = s.some in
      let i = first_info spec.payloads some in
      let parts : E ≡ (D ++ H ∷ []) ++ (InfoPlace 0, i.0) ∷ ((i.1 ++ script_entries spec.scripts) ++ M ∷ version_entry ∷ []) =
      header_parts ∙ sym (append_assoc D (H ∷ []) (IS ++ M ∷ version_entry ∷ []))
      ∙ ap (λ (es : List Entry). (D ++ H ∷ []) ++ ((es ++ script_entries spec.scripts) ++ M ∷ version_entry ∷ [])) i.2 in
      (length (D ++ H ∷ []), place (D ++ H ∷ []) (InfoPlace 0, i.0) ((i.1 ++ script_entries spec.scripts) ++ M ∷ version_entry ∷ []) parts)

  table : table_of (heads_of T) ≡ Ok (record { version = length F + 1; manifest = length F; header_info = length D })
  unfolding table_of needed tree_of
  table =
      rw (
        ap first_bad_path heads ∙ paths_good E good (entries_distinct spec s.shape),
        place (F ++ M ∷ []) version_entry [] version_parts ∙ ap Some version_number,
        place F M (version_entry ∷ []) refl,
        place D H (IS ++ M ∷ version_entry ∷ []) header_parts,
        info_place.1,
        s.short_heads,
      ) refl

  -- 9 to 11

  listed_few : length L ≤ 256
  listed_few = omega (arith, length-append F (version_entry ∷ []), len-tree spec, s.few_files)

  lines_read : manifest_of (bytes_at T (length F)) ≡ Ok (map line_of L)
  lines_read = ap manifest_of (bytes F M (version_entry ∷ []) refl) ∙ manifest-back L (listed_good spec s.shape) (listed_distinct spec s.shape) listed_few

  all_listed : not_listed (map line_of L) (heads_of T) ≡ None
  all_listed = ap (not_listed (map line_of L)) heads ∙ none-unlisted F M version_entry refl (front_good spec s.shape) (all-split IsEntry F version_entry [] (listed_good spec s.shape)).1

  last_number : number_of (heads_of T) (line_of version_entry) ≡ Some (length F + 1)
  last_number = number_is (heads_of T) version_entry (length F + 1) (all-split IsEntry F version_entry [] (listed_good spec s.shape)).1 refl (place (F ++ M ∷ []) version_entry [] version_parts ∙ ap Some version_number)

  numbers : filter_map (number_of (heads_of T)) (map line_of L) ≡ plan.numbers_of spec
  numbers =
      ap (filter_map (number_of (heads_of T))) (map-append line_of F (version_entry ∷ []))
      ∙ numbers-are (heads_of T) [] F (M ∷ version_entry ∷ []) 0 refl heads tt (front_good spec s.shape) (front_listed spec s.shape) (all_apart F) (front_distinct spec s.shape)
      (line_of version_entry ∷ []) ((length F + 1) ∷ []) (ap (λ (o : Option ℕ). cons_option o []) last_number)

  as_many : length (filter_map (number_of (heads_of T)) (map line_of L)) ≡ length (map line_of L)
  as_many = omega (
    arith,
    ap (λ (ns : List ℕ). length ns) numbers,
    length-append (range_with_len 0 (length F)) ((length F + 1) ∷ []),
    length-range_with_len 0 (length F),
    length-map L line_of,
    length-append F (version_entry ∷ []),
  )

  lines : lines_of (heads_of T) (bytes_at T (length F)) ≡ Ok (record { manifest = map line_of L; numbers = plan.numbers_of spec })
  unfolding lines_of
  lines = rw (lines_read, all_listed, none-absent (heads_of T) (map line_of L) as_many, numbers) refl

  -- 12 and 18

  sums : (picks : List ℕ → Bool) → first_differing picks T (zip (map line_of L) (plan.numbers_of spec)) ≡ None
  sums picks = none-differing picks F M version_entry

  -- 13, 14, 19 and 20

  version_bytes : bytes_at T (length F + 1) ≡ version_text
  version_bytes = ap (bytes_at T) (sym version_number) ∙ bytes (F ++ M ∷ []) version_entry [] version_parts

  header_bytes : bytes_at T (length D) ≡ header_text spec
  header_bytes = bytes D H (IS ++ M ∷ version_entry ∷ []) header_parts

  len-kinds : length (map (λ (p : PayloadSpec). p.kind) spec.payloads) ≡ length spec.payloads
  len-kinds = length-map spec.payloads (λ (p : PayloadSpec). p.kind)

  all_there : no_type_info (heads_of T) (length (map (λ (p : PayloadSpec). p.kind) spec.payloads)) ≡ None
  all_there = ap (no_type_info (heads_of T)) len-kinds ∙ ap (λ (hs : List FileHead). no_type_info hs (length spec.payloads)) heads ∙ infos_there spec good

  no_other : no_such_payload (heads_of T) (length (map (λ (p : PayloadSpec). p.kind) spec.payloads)) ≡ None
  no_other = ap (no_such_payload (heads_of T)) len-kinds ∙ ap (λ (hs : List FileHead). no_such_payload hs (length spec.payloads)) heads ∙ none_stray spec good

  fields : fields_of (heads_of T) (bytes_at T (length F + 1)) (bytes_at T (length D)) (info_texts T) ≡ Ok (record { header = plan.header_of spec; infos = map plan.info_of spec.payloads })
  unfolding fields_of
  fields = rw (version_bytes, version_read, header_bytes, header-back spec is s.texts s.count s.kinds, all_there, no_other, all_infos spec good s.goods) refl

  -- 15 and 16

  scripts : scripts_of (heads_of T) ≡ Ok (plan.names_of (by_name spec.scripts))
  scripts = ap scripts_of heads ∙ all_scripts spec s.shape good (omega (arith, length-by_name spec.scripts, s.few_scripts))

  -- the whole

  infos_want : (ps : List PayloadSpec) → flat_map (λ (info : TypeInfo). info.wants) (map plan.info_of ps) ≡ flat_map (λ (p : PayloadSpec). p.wants) ps
  infos_want [] = refl
  infos_want (p ∷ ps) = ap (λ (ws : List Want). p.wants ++ ws) (infos_want ps)

  module _ (type : List ℕ) (held : Pairs) where
    same_wants : first_unmet (plan.header_wants spec ++ flat_map (λ (info : TypeInfo). info.wants) (map plan.info_of spec.payloads)) type held ≡ first_unmet (plan.wants_of spec) type held
    same_wants = ap (λ (ws : List Want). first_unmet (plan.header_wants spec ++ ws) type held) (infos_want spec.payloads)

    head_admitted : head_plan_of T type held ≡ (unless (option_map Unmet (first_unmet (plan.wants_of spec) type held)) >>= λ _. Ok (plan.plan_for spec))
    unfolding head_plan_of
    head_admitted = rw (not_too_many, table, lines, sums in_rest, fields, scripts, same_wants) refl

    by_want : (o : Option (List ℕ)) → ((unless (option_map Unmet o) >>= λ _. Ok (plan.plan_for spec)) >>= λ p. unless (option_map PayloadDiffers (first_differing in_payload T (listed_of p))) >>= λ _. Ok p) ≡ plan.unless_unmet o (plan.plan_for spec)
    by_want None = rw (sums in_payload) refl
    by_want (Some key) = refl

    admitted : plan_of T type held ≡ plan.unless_unmet (first_unmet (plan.wants_of spec) type held) (plan.plan_for spec)
    unfolding plan_of
    admitted = rw head_admitted (by_want (first_unmet (plan.wants_of spec) type held))

pub written_admitted : (spec : TreeSpec) → plan.IsSpec spec → written_tree spec ≡ Ok (tree_of spec) → plan.IsAdmitted spec
unfolding tree_of
written_admitted spec is h type held = admitted spec is (sound spec is h) type held

pub paths_ascend : (spec : TreeSpec) → plan.IsSpec spec → written_tree spec ≡ Ok (tree_of spec) → IsStrictlySortedBy byte_cmp (map (λ (f : File). unwrap_or f.0 []) (tree_of spec))
unfolding tree_of
paths_ascend spec is h = sorted (entries_of spec) (all_ascend spec (sound spec is h).shape)
