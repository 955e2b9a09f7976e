-- The fields of header-info, from the JSON value of the file, or the first fault.
use Rattle.std.specs.Prelude.{ℕ, ◌-◌, ◌^◌, ◌≤◌, ◌==◌, ◌&&◌, nat_le, min, Bool, if◌then◌else◌, List, [], ◌∷◌, ◌++◌, length, codes, Option, Some, None, Result, Ok, Err}
use Rattle.std.specs.List.{AllPass}
use Rattle.std.specs.Option.{ok_or}
use Rattle.serde_json.specs.Data.{Data, Items, no_items, item}
use Rattle.serde_json.specs.Events.{items_len}
use Rattle.serde_json.specs.Find.{get, as_str, as_array, as_object}
use Rattle.upd_text.specs.Text.{name_of, value_of}
use Rattle.upd_text.specs.Parts.{is_plain}
use Rattle.upd_text.specs.Results.{◌>>=◌}
use Rattle.provides_map.specs.After.{artifact_name, artifact_group, device_type}
use Rattle.provides_map.specs.declared.change.Want.{Want}
use Rattle.artifact_meta.specs.declared.fault.MetaFault.{MetaFault}
use Rattle.artifact_meta.specs.declared.fault.MetaFault.TheVariants.{NotJson, Missing, WrongKind, PayloadCount}
use Rattle.artifact_meta.specs.declared.fault.MetaFile.TheVariants as file
use Rattle.artifact_meta.specs.declared.fault.Field.{Field}
use Rattle.artifact_meta.specs.declared.fault.Field.TheVariants.{HeaderTop, Payloads, PayloadType, HeaderProvides, ArtifactName, ArtifactGroup, HeaderDepends, DeviceType, DependsName, DependsGroup}
use Rattle.artifact_meta.specs.declared.header.HeaderInfo.{HeaderInfo}
use Rattle.artifact_meta.specs.declared.kinds.TheConstants.{MOST_PAYLOADS}
use Rattle.artifact_meta.specs.Meta.{json_of, present, good, text, texts, kind_of, with_want}

-- what a field that must be there has
abbrev pub needed : Field → List ℕ → Data → Result Data MetaFault
needed f name d = ok_or (present name d) (Missing f)

-- an object that must be there
abbrev pub needed_object : Field → List ℕ → Data → Result Data MetaFault
needed_object f name d = needed f name d >>= λ found. ok_or (as_object found) (WrongKind f) >>= λ _. Ok found

-- a tree may have so many payloads
abbrev pub is_payload_count : ℕ → Bool
is_payload_count n = nat_le 1 n && nat_le n MOST_PAYLOADS

-- there are as many as there may be
abbrev pub counted_payloads : ℕ → Result (Unit {0}) MetaFault
counted_payloads n = if is_payload_count n then Ok tt else Err (PayloadCount (min n (2 ^ 32 - 1)))

-- the type of a payload, which is an object
abbrev pub payload_kind : Data → Result (List ℕ) MetaFault
payload_kind payload = ok_or (as_object payload) (WrongKind PayloadType) >>= λ _. kind_of PayloadType (get (codes "type") payload)

-- the types of the payloads in their order, behind those found before
abbrev pub kinds_after : List (List ℕ) → Items → Result (List (List ℕ)) MetaFault
kinds_after found no_items = Ok found
kinds_after found (item d ds) = payload_kind d >>= λ kind. kinds_after (found ++ kind ∷ []) ds

-- one for each payload in order
unfoldable pub payload_kinds : Data → Result (List (List ℕ)) MetaFault
payload_kinds d =
    needed Payloads (codes "payloads") d >>= λ payloads.
    ok_or (as_array payloads) (WrongKind Payloads) >>= λ items.
    counted_payloads (items_len items) >>= λ _.
    kinds_after [] items

-- as many payload types as there may be, each one part of a path
pub record AreKinds (kinds : List (List ℕ)) : Type 0 where
  pub some : 1 ≤ length kinds
  pub few : length kinds ≤ MOST_PAYLOADS
  pub plain : AllPass is_plain kinds

-- an empty string counts as absent
abbrev pub name_unless_empty : List ℕ → Result (Option (List ℕ)) MetaFault
name_unless_empty s = if length s == 0 then Ok None else good ArtifactGroup (name_of s) >>= λ group. Ok (Some group)

abbrev pub group_of : Option Data → Result (Option (List ℕ)) MetaFault
group_of None = Ok None
group_of (Some d) = ok_or (as_str d) (WrongKind ArtifactGroup) >>= λ s. name_unless_empty s

-- no text where the field is absent
abbrev pub texts_or_none : Field → Option Data → Result (List (List ℕ)) MetaFault
texts_or_none f None = Ok []
texts_or_none f (Some d) = texts value_of f d

unfoldable pub header_wants : Data → Result (List Want) MetaFault
header_wants depends =
    needed DeviceType device_type depends >>= λ found.
    texts value_of DeviceType found >>= λ types.
    texts_or_none DependsName (present artifact_name depends) >>= λ names.
    texts_or_none DependsGroup (present artifact_group depends) >>= λ groups.
    Ok (with_want (with_want (record { key = device_type; allowed = types } ∷ []) artifact_name names) artifact_group groups)

unfoldable pub header_of : Data → Result HeaderInfo MetaFault
header_of d =
    ok_or (as_object d) (WrongKind HeaderTop) >>= λ _.
    payload_kinds d >>= λ kinds.
    needed_object HeaderProvides (codes "artifact_provides") d >>= λ provides.
    needed ArtifactName artifact_name provides >>= λ found.
    text name_of ArtifactName found >>= λ name.
    group_of (present artifact_group provides) >>= λ group.
    needed_object HeaderDepends (codes "artifact_depends") d >>= λ depends.
    header_wants depends >>= λ wants.
    Ok (record { kinds = kinds; name = name; group = group; wants = wants })

-- what the bytes of a header-info file say, or its first fault
unfoldable pub header_info_of : List ℕ → Result HeaderInfo MetaFault
header_info_of bytes = ok_or (json_of bytes) (NotJson file.HeaderInfo) >>= λ d. header_of d
