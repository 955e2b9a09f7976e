-- No reader answers that the types differ.
use Rattle.std.proofs.Common.{◌≡◌, ◌≢◌, ℕ, min, Bool, true, false, List, [], ◌∷◌, ◌++◌, Option, Some, None, ap}
use Rattle.std.specs.Prelude.{Result, Ok, Err, length, if◌then◌else◌, codes, ◌==◌}
use Rattle.std.specs.Option.{ok_or}
use Rattle.serde_json.specs.Data.{Data, Items, no_items, item, Members, no_members, member}
use Rattle.serde_json.specs.Events.{items_len}
use Rattle.serde_json.specs.Find.{get, as_str, as_array, as_object}
use Rattle.upd_text.specs.Text.{name_of, value_of}
use Rattle.upd_text.specs.Parts.{is_plain}
use Rattle.upd_text.specs.declared.fault.NameFault.{NameFault}
use Rattle.upd_text.specs.Results.{◌>>=◌}
use Rattle.provides_map.specs.Pairs.{Pairs, put}
use Rattle.provides_map.specs.After.{artifact_name, artifact_group, device_type}
use Rattle.provides_map.specs.declared.change.Want.{Want}
use Rattle.provides_map.specs.declared.change.Clears.TheVariants.{All, Listed}
use Rattle.artifact_meta.specs.declared.fault.Field.{Field}
use Rattle.artifact_meta.specs.declared.fault.Field.TheVariants.{HeaderTop, Payloads, PayloadType, HeaderProvides, ArtifactName, ArtifactGroup, HeaderDepends, DeviceType, DependsName, DependsGroup, InfoTop, InfoType, InfoProvides, InfoDepends, InfoClears}
use Rattle.artifact_meta.specs.declared.fault.MetaFile.TheVariants as file
use Rattle.artifact_meta.specs.declared.fault.MetaFault.{MetaFault}
use Rattle.artifact_meta.specs.declared.fault.MetaFault.TheVariants.{NotJson, Missing, WrongKind, BadText, PayloadCount, NullType, TypeDiffers}
use Rattle.artifact_meta.specs.Meta.{present, unless_null, good, text, texts, texts_after, one_or_list, plain, kind_of, provides_after, provides_of, with_want, wants_after, wants_of, clears_of, info_of, type_info_of, json_of}
use Rattle.artifact_meta.specs.Header.{needed, needed_object, is_payload_count, counted_payloads, payload_kind, kinds_after, payload_kinds, name_unless_empty, group_of, texts_or_none, header_wants, header_of, header_info_of}

abbrev Same : {A : Type 0} → Result A MetaFault → Type 0
Same r = r ≡ Err TypeDiffers → ⊥

and_then : {A B : Type 0} (r : Result A MetaFault) (f : A → Result B MetaFault) → Same r → ((x : A) → Same (f x)) → Same (r >>= f)
and_then (Ok x) f first later = later x
and_then (Err e) f first later = λ h. first (let same : e ≡ TypeDiffers = cc in ap (λ (fault : MetaFault). Err fault) same)

here : {A : Type 0} (x : A) → Same (Ok x)
here x h = cc

or_fault : {A : Type 0} (o : Option A) (fault : MetaFault) → (fault ≡ TypeDiffers → ⊥) → Same (ok_or o fault)
or_fault (Some x) fault other h = cc
or_fault None fault other h = other cc

-- ---- texts

good_same : (f : Field) (r : Result (List ℕ) NameFault) → Same (good f r)
good_same f (Ok t) h = cc
good_same f (Err e) h = cc

text_same : (reads : List ℕ → Result (List ℕ) NameFault) (f : Field) (d : Data) → Same (text reads f d)
text_same reads f d = and_then (ok_or (as_str d) (WrongKind f)) (λ s. good f (reads s)) (or_fault (as_str d) (WrongKind f) (λ h. cc)) (λ s. good_same f (reads s))

texts_after_same : (found : List (List ℕ)) (reads : List ℕ → Result (List ℕ) NameFault) (f : Field) (items : Items) → Same (texts_after found reads f items)
texts_after_same found reads f no_items = here found
texts_after_same found reads f (item d ds) = and_then (text reads f d) (λ s. texts_after (found ++ s ∷ []) reads f ds) (text_same reads f d) (λ s. texts_after_same (found ++ s ∷ []) reads f ds)

one_or_list_same : (reads : List ℕ → Result (List ℕ) NameFault) (f : Field) (d : Data) (s : Option (List ℕ)) → Same (one_or_list reads f d s)
one_or_list_same reads f d (Some s) = and_then (good f (reads s)) (λ t. Ok (t ∷ [])) (good_same f (reads s)) (λ t. here (t ∷ []))
one_or_list_same reads f d None = and_then (ok_or (as_array d) (WrongKind f)) (λ ds. texts_after [] reads f ds) (or_fault (as_array d) (WrongKind f) (λ h. cc)) (λ ds. texts_after_same [] reads f ds)

texts_same : (reads : List ℕ → Result (List ℕ) NameFault) (f : Field) (d : Data) → Same (texts reads f d)
texts_same reads f d = one_or_list_same reads f d (as_str d)

plain_at : (f : Field) (name : List ℕ) (b : Bool) → Same (if b then Ok name else Err (BadText f))
plain_at f name true h = cc
plain_at f name false h = cc

kind_same : (f : Field) (o : Option Data) → Same (kind_of f o)
kind_same f None = λ h. cc
kind_same f (Some d) =
    and_then (ok_or (unless_null d) NullType) (λ t. text name_of f t >>= λ name. plain f name) (or_fault (unless_null d) NullType (λ h. cc))
    (λ t. and_then (text name_of f t) (λ name. plain f name) (text_same name_of f t) (λ name. plain_at f name (is_plain name)))

-- ---- type-info

provides_after_same : (found : Pairs) (ms : Members) → Same (provides_after found ms)
provides_after_same found no_members = here found
provides_after_same found (member k d ms) =
    and_then (good InfoProvides (name_of k)) (λ key. text value_of InfoProvides d >>= λ value. provides_after (put found key value) ms) (good_same InfoProvides (name_of k))
    (λ key. and_then (text value_of InfoProvides d) (λ value. provides_after (put found key value) ms) (text_same value_of InfoProvides d) (λ value. provides_after_same (put found key value) ms))

provides_same : (o : Option Data) → Same (provides_of o)
provides_same None = here []
provides_same (Some d) = and_then (ok_or (as_object d) (WrongKind InfoProvides)) (λ ms. provides_after [] ms) (or_fault (as_object d) (WrongKind InfoProvides) (λ h. cc)) (λ ms. provides_after_same [] ms)

wants_after_same : (found : List Want) (ms : Members) → Same (wants_after found ms)
wants_after_same found no_members = here found
wants_after_same found (member k d ms) =
    and_then (good InfoDepends (name_of k)) (λ key. texts value_of InfoDepends d >>= λ allowed. wants_after (with_want found key allowed) ms) (good_same InfoDepends (name_of k))
    (λ key. and_then (texts value_of InfoDepends d) (λ allowed. wants_after (with_want found key allowed) ms) (texts_same value_of InfoDepends d) (λ allowed. wants_after_same (with_want found key allowed) ms))

wants_same : (o : Option Data) → Same (wants_of o)
wants_same None = here []
wants_same (Some d) = and_then (ok_or (as_object d) (WrongKind InfoDepends)) (λ ms. wants_after [] ms) (or_fault (as_object d) (WrongKind InfoDepends) (λ h. cc)) (λ ms. wants_after_same [] ms)

clears_same : (o : Option Data) → Same (clears_of o)
clears_same None = here All
clears_same (Some d) = and_then (texts name_of InfoClears d) (λ patterns. Ok (Listed patterns)) (texts_same name_of InfoClears d) (λ patterns. here (Listed patterns))

info_same : (d : Data) → Same (info_of d)
unfolding info_of
info_same d =
    and_then (ok_or (as_object d) (WrongKind InfoTop)) _ (or_fault (as_object d) (WrongKind InfoTop) (λ h. cc))
    (λ _. and_then (kind_of InfoType (get (codes "type") d)) _ (kind_same InfoType (get (codes "type") d))
    (λ kind. and_then (provides_of (present (codes "artifact_provides") d)) _ (provides_same (present (codes "artifact_provides") d))
    (λ provides. and_then (wants_of (present (codes "artifact_depends") d)) _ (wants_same (present (codes "artifact_depends") d))
    (λ wants. and_then (clears_of (present (codes "clears_artifact_provides") d)) _ (clears_same (present (codes "clears_artifact_provides") d))
    (λ clears. here (record { kind = kind; provides = provides; wants = wants; clears = clears }))))))

pub info_never_differs : (bytes : List ℕ) → type_info_of bytes ≢ Err TypeDiffers
unfolding type_info_of
info_never_differs bytes = and_then (ok_or (json_of bytes) (NotJson file.TypeInfo)) (λ d. info_of d) (or_fault (json_of bytes) (NotJson file.TypeInfo) (λ h. cc)) (λ d. info_same d)

-- ---- header-info

needed_same : (f : Field) (name : List ℕ) (d : Data) → Same (needed f name d)
needed_same f name d = or_fault (present name d) (Missing f) (λ h. cc)

needed_object_same : (f : Field) (name : List ℕ) (d : Data) → Same (needed_object f name d)
needed_object_same f name d =
    and_then (needed f name d) (λ found. ok_or (as_object found) (WrongKind f) >>= λ _. Ok found) (needed_same f name d)
    (λ found. and_then (ok_or (as_object found) (WrongKind f)) (λ _. Ok found) (or_fault (as_object found) (WrongKind f) (λ h. cc)) (λ _. here found))

count_at : (n : ℕ) (b : Bool) → Same {A = Unit {0}} (if b then Ok (tt {0}) else Err (PayloadCount n))
count_at n true h = cc
count_at n false h = cc

counted_same : (n : ℕ) → Same (counted_payloads n)
counted_same n = count_at (min n 4294967295) (is_payload_count n)

payload_kind_same : (d : Data) → Same (payload_kind d)
payload_kind_same d =
    and_then (ok_or (as_object d) (WrongKind PayloadType)) _ (or_fault (as_object d) (WrongKind PayloadType) (λ h. cc))
    (λ _. kind_same PayloadType (get (codes "type") d))

kinds_after_same : (found : List (List ℕ)) (items : Items) → Same (kinds_after found items)
kinds_after_same found no_items = here found
kinds_after_same found (item d ds) = and_then (payload_kind d) (λ kind. kinds_after (found ++ kind ∷ []) ds) (payload_kind_same d) (λ kind. kinds_after_same (found ++ kind ∷ []) ds)

payload_kinds_same : (d : Data) → Same (payload_kinds d)
unfolding payload_kinds
payload_kinds_same d =
    and_then (needed Payloads (codes "payloads") d) _ (needed_same Payloads (codes "payloads") d)
    (λ payloads. and_then (ok_or (as_array payloads) (WrongKind Payloads)) _ (or_fault (as_array payloads) (WrongKind Payloads) (λ h. cc))
    (λ items. and_then (counted_payloads (items_len items)) _ (counted_same (items_len items))
    (λ _. kinds_after_same [] items)))

group_at : (s : List ℕ) (b : Bool) → Same (if b then Ok None else good ArtifactGroup (name_of s) >>= λ group. Ok (Some group))
group_at s true = λ h. cc
group_at s false = and_then (good ArtifactGroup (name_of s)) (λ group. Ok (Some group)) (good_same ArtifactGroup (name_of s)) (λ group. here (Some group))

group_same : (o : Option Data) → Same (group_of o)
group_same None = here None
group_same (Some d) = and_then (ok_or (as_str d) (WrongKind ArtifactGroup)) (λ s. name_unless_empty s) (or_fault (as_str d) (WrongKind ArtifactGroup) (λ h. cc)) (λ s. group_at s (length s == 0))

texts_or_none_same : (f : Field) (o : Option Data) → Same (texts_or_none f o)
texts_or_none_same f None = here []
texts_or_none_same f (Some d) = texts_same value_of f d

header_wants_same : (depends : Data) → Same (header_wants depends)
unfolding header_wants
header_wants_same depends =
    and_then (needed DeviceType device_type depends) _ (needed_same DeviceType device_type depends)
    (λ found. and_then (texts value_of DeviceType found) _ (texts_same value_of DeviceType found)
    (λ types. and_then (texts_or_none DependsName (present artifact_name depends)) _ (texts_or_none_same DependsName (present artifact_name depends))
    (λ names. and_then (texts_or_none DependsGroup (present artifact_group depends)) _ (texts_or_none_same DependsGroup (present artifact_group depends))
    (λ groups h. cc))))

header_same : (d : Data) → Same (header_of d)
unfolding header_of
header_same d =
    and_then (ok_or (as_object d) (WrongKind HeaderTop)) _ (or_fault (as_object d) (WrongKind HeaderTop) (λ h. cc))
    (λ _. and_then (payload_kinds d) _ (payload_kinds_same d)
    (λ kinds. and_then (needed_object HeaderProvides (codes "artifact_provides") d) _ (needed_object_same HeaderProvides (codes "artifact_provides") d)
    (λ provides. and_then (needed ArtifactName artifact_name provides) _ (needed_same ArtifactName artifact_name provides)
    (λ found. and_then (text name_of ArtifactName found) _ (text_same name_of ArtifactName found)
    (λ name. and_then (group_of (present artifact_group provides)) _ (group_same (present artifact_group provides))
    (λ group. and_then (needed_object HeaderDepends (codes "artifact_depends") d) _ (needed_object_same HeaderDepends (codes "artifact_depends") d)
    (λ depends. and_then (header_wants depends) _ (header_wants_same depends)
    (λ wants h. cc))))))))

pub header_never_differs : (bytes : List ℕ) → header_info_of bytes ≢ Err TypeDiffers
unfolding header_info_of
header_never_differs bytes = and_then (ok_or (json_of bytes) (NotJson file.HeaderInfo)) (λ d. header_of d) (or_fault (json_of bytes) (NotJson file.HeaderInfo) (λ h. cc)) (λ d. header_same d)
