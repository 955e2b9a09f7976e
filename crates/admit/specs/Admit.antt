-- The admission of a tree: the checks in their order. The first that refuses is the answer, else the plan.
use Rattle.std.specs.Prelude.{ℕ, ◌-◌, ◌==◌, ◌||◌, nat_lt, nat_le, not, Bool, if◌then◌else◌, List, [], ◌∷◌, ◌++◌, length, Option, Some, None, Result, Ok, Err, find, fold}
use Rattle.std.specs.List.{list_any, filter_map, flat_map, range_with_len, zip}
use Rattle.std.specs.Option.{option_map, option_and_then, is_none}
use Rattle.std.specs.Str.{bytes_eq}
use Rattle.std.specs.BTreeSet.{insert_key}
use Rattle.upd_text.specs.Order.{byte_cmp}
use Rattle.io_model.specs.Source.{File, Tree, bytes_at}
use Rattle.provides_map.specs.Pairs.{Pairs}
use Rattle.provides_map.specs.After.{first_unmet}
use Rattle.provides_map.specs.declared.change.Want.{Want}
use Rattle.artifact_meta.specs.Meta.{type_info_of, version_of}
use Rattle.artifact_meta.specs.Header.{header_info_of}
use Rattle.artifact_meta.specs.declared.info.TypeInfo.{TypeInfo}
use Rattle.artifact_meta.specs.declared.fault.MetaFault.{MetaFault}
use Rattle.artifact_meta.specs.declared.fault.MetaFault.TheVariants.{TypeDiffers}
use Rattle.manifest_sums.specs.Manifest.{manifest_of}
use Rattle.manifest_sums.specs.declared.manifest.Line.{Line}
use Rattle.manifest_sums.specs.declared.manifest.ManifestFault.{ManifestFault}
use Rattle.script_names.specs.Scripts.{is_artifact_script}
use Rattle.upd_text.specs.Results.{◌>>=◌}
use Rattle.admit.specs.Places.{place_of, place_at, is_manifest, script_at, info_at, is_info_of, payload_of}
use Rattle.admit.specs.Table.{FileHead, unless, first_some, heads_of, too_many, table_of, place_in, least}
use Rattle.admit.specs.declared.lines.Listing.{Listing}
use Rattle.admit.specs.declared.fields.Fields.{Fields}
use Rattle.admit.specs.declared.admitted.Admitted.{Admitted}
use Rattle.admit.specs.Differing.{listed_of, in_payload, in_rest, first_differing}
use Rattle.admit.specs.declared.refusal.Refusal.{Refusal}
use Rattle.admit.specs.declared.refusal.Refusal.TheVariants.{Manifest, NotListed, Absent, SumDiffers, BadVersion, Meta, BadScriptName, TooManyScripts, Unmet, PayloadDiffers, NoTypeInfo, NoSuchPayload}

-- ---- 9 to 11, the manifest

abbrev pub refuse_manifest : Result (List Line) ManifestFault → Result (List Line) Refusal
refuse_manifest (Ok lines) = Ok lines
refuse_manifest (Err fault) = Err (Manifest fault)

abbrev pub line_has : List ℕ → Line → Bool
line_has path line = bytes_eq line.path path

abbrev pub has_line : List Line → List ℕ → Bool
has_line lines path = list_any (line_has path) lines

-- the path, where it has to have a line and has none
abbrev pub unlisted_path : List Line → Option (List ℕ) → Option (List ℕ)
unlisted_path lines None = None
unlisted_path lines (Some path) = if is_manifest (place_of path) || has_line lines path then None else Some path

-- the first file without a line
unfoldable pub not_listed : List Line → List FileHead → Option Refusal
not_listed lines heads = option_map NotListed (first_some (λ head. unlisted_path lines head.path) heads)

-- the index of the line's file
abbrev pub number_of : List FileHead → Line → Option ℕ
number_of heads line = if is_manifest (place_of line.path) then None else place_in heads line.path

-- the first line without a file
unfoldable pub absent : List FileHead → List Line → Option Refusal
absent heads lines = option_map (λ line. Absent line.path) (find (λ line. is_none (number_of heads line)) lines)

-- the manifest's lines, and the indexes of their files
unfoldable pub lines_of : List FileHead → List ℕ → Result Listing Refusal
lines_of heads bytes =
    refuse_manifest (manifest_of bytes) >>= λ lines.
    unless (not_listed lines heads) >>= λ _.
    unless (absent heads lines) >>= λ _.
    Ok (record { manifest = lines; numbers = filter_map (number_of heads) lines })

-- ---- 13, 14, 19 and 20, the fields

unfoldable pub bad_version : List ℕ → Option Refusal
bad_version bytes = if version_of bytes then None else Some BadVersion

-- a fault of the type-info of payload k, or of header-info with k 0
abbrev pub refuse_meta : {A : Type 0} → ℕ → Result A MetaFault → Result A Refusal
refuse_meta k (Ok x) = Ok x
refuse_meta k (Err fault) = Err (Meta fault k)

-- 19: the first payload but 0 without a type-info, where there are n payloads

abbrev pub has_info : List FileHead → ℕ → Bool
has_info heads k = list_any (λ head. is_info_of k (place_at head.path)) heads

unfoldable pub no_type_info : List FileHead → ℕ → Option Refusal
no_type_info heads n = option_map NoTypeInfo (find (λ k. not (has_info heads k)) (range_with_len 1 (n - 1)))

-- 20: the first file of a payload that there isn't, where there are n payloads

abbrev pub stray_path : ℕ → Option (List ℕ) → Option (List ℕ)
stray_path n path = option_and_then (λ k. if nat_le n k then path else None) (payload_of (place_at path))

unfoldable pub no_such_payload : List FileHead → ℕ → Option Refusal
no_such_payload heads n = option_map NoSuchPayload (first_some (λ head. stray_path n head.path) heads)

-- 14, of a payload: the fault of its type-info, then that its type isn't the one of header-info

-- the type-infos of a tree, each with its payload's number
abbrev pub info_text : File → Option (ℕ × List ℕ)
info_text file = option_map (λ k. (k, file.1)) (info_at (place_at file.0))

abbrev pub info_texts : Tree → List (ℕ × List ℕ)
info_texts t = filter_map info_text t

-- that of payload k
abbrev pub text_of : List (ℕ × List ℕ) → ℕ → Option (List ℕ)
text_of texts k = option_map (λ text. text.1) (find (λ text. text.0 == k) texts)

unfoldable pub other_kind : ℕ → List ℕ → TypeInfo → Option Refusal
other_kind k kind info = if bytes_eq kind info.kind then None else Some (Meta TypeDiffers k)

unfoldable pub info_of : ℕ → List ℕ → Option (List ℕ) → Result TypeInfo Refusal
info_of k kind None = Err (NoTypeInfo k)
info_of k kind (Some text) =
    refuse_meta k (type_info_of text) >>= λ info.
    unless (other_kind k kind info) >>= λ _.
    Ok info

-- the payloads of these types in order, behind those found before
abbrev pub infos_after : List TypeInfo → List (List ℕ) → List (ℕ × List ℕ) → Result (List TypeInfo) Refusal
infos_after found [] texts = Ok found
infos_after found (kind ∷ kinds) texts = info_of (length found) kind (text_of texts (length found)) >>= λ info. infos_after (found ++ info ∷ []) kinds texts

-- in their order
unfoldable pub fields_of : List FileHead → List ℕ → List ℕ → List (ℕ × List ℕ) → Result Fields Refusal
fields_of heads version header_info type_infos =
    -- 13
    unless (bad_version version) >>= λ _.
    -- 14 of header-info
    refuse_meta 0 (header_info_of header_info) >>= λ header.
    -- 19
    unless (no_type_info heads (length header.kinds)) >>= λ _.
    -- 20
    unless (no_such_payload heads (length header.kinds)) >>= λ _.
    -- 14 of each payload
    infos_after [] header.kinds type_infos >>= λ infos.
    Ok (record { header = header; infos = infos })

-- ---- 17, the wants

-- those of header-info, then those of the payloads in order
abbrev pub wants_of : Fields → List Want
wants_of fields = fields.header.wants ++ flat_map (λ info. info.wants) fields.infos

-- ---- 15 and 16, the scripts

-- the name of a file in the folder of the scripts
abbrev pub script_name : Option (List ℕ) → Option (List ℕ)
script_name path = script_at (place_at path)

abbrev pub script_names : List FileHead → List (List ℕ)
script_names heads = filter_map (λ head. script_name head.path) heads

-- the path of a file in the folder of the scripts whose name isn't that of a script that an artifact may bring
abbrev pub bad_script : Option (List ℕ) → Option (List ℕ)
bad_script path = option_and_then (λ name. if is_artifact_script name then None else path) (script_name path)

-- the first of them in byte order
unfoldable pub bad_script_name : List FileHead → Option Refusal
bad_script_name heads = option_map BadScriptName (least (filter_map (λ head. bad_script head.path) heads))

unfoldable pub too_many_scripts : List FileHead → Option Refusal
too_many_scripts heads = if nat_lt 64 (length (script_names heads)) then Some (TooManyScripts (length (script_names heads))) else None

-- the names with one more, if there is one
abbrev pub with_script : List (List ℕ) → Option (List ℕ) → List (List ℕ)
with_script names None = names
with_script names (Some name) = insert_key byte_cmp names name

-- the names, in byte order
abbrev pub in_order : List (List ℕ) → List (List ℕ)
in_order names = fold (insert_key byte_cmp) [] names

unfoldable pub scripts_of : List FileHead → Result (List (List ℕ)) Refusal
scripts_of heads =
    unless (bad_script_name heads) >>= λ _.
    unless (too_many_scripts heads) >>= λ _.
    Ok (in_order (script_names heads))

-- ---- the whole

-- all checks of a tree but the last, for a device of this type that holds these pairs
unfoldable pub head_plan_of : Tree → List ℕ → Pairs → Result Admitted Refusal
head_plan_of t type held =
    -- 3
    unless (too_many (heads_of t)) >>= λ _.
    -- 4 to 8
    table_of (heads_of t) >>= λ places.
    -- 9 to 11
    lines_of (heads_of t) (bytes_at t places.manifest) >>= λ listing.
    -- 12
    unless (option_map SumDiffers (first_differing in_rest t (zip listing.manifest listing.numbers))) >>= λ _.
    -- 13, 14, 19, 20
    fields_of (heads_of t) (bytes_at t places.version) (bytes_at t places.header_info) (info_texts t) >>= λ fields.
    -- 15, 16
    scripts_of (heads_of t) >>= λ scripts.
    -- 17
    unless (option_map Unmet (first_unmet (wants_of fields) type held)) >>= λ _.
    Ok (record { manifest = listing.manifest; numbers = listing.numbers; header = fields.header; infos = fields.infos; scripts = scripts })

-- the whole: last come the sums of the payload, 18
unfoldable pub plan_of : Tree → List ℕ → Pairs → Result Admitted Refusal
plan_of t type held =
    head_plan_of t type held >>= λ plan.
    unless (option_map PayloadDiffers (first_differing in_payload t (listed_of plan))) >>= λ _.
    Ok plan
