-- The fields of header-info and type-info, from the JSON value of the file, or the first fault.
use Rattle.std.specs.Prelude.{ℕ, ◌==◌, ◌&&◌, Bool, false, if◌then◌else◌, List, [], ◌∷◌, ◌++◌, codes, Option, Some, None, option_and_then, Result, Ok, Err}
use Rattle.std.specs.Option.{ok_or}
use Rattle.std.specs.Str.{bytes_eq, is_utf8}
use Rattle.serde_json.specs.Data.{Data, null, boolean, number, string, array, object, Items, no_items, item, Members, no_members, member}
use Rattle.serde_json.specs.Read.{read}
use Rattle.serde_json.specs.Find.{get, as_str, as_array, as_object, as_number, as_u64}
use Rattle.upd_text.specs.Text.{name_of, value_of}
use Rattle.upd_text.specs.Parts.{is_plain}
use Rattle.upd_text.specs.Results.{◌>>=◌, Gives}
use Rattle.upd_text.specs.declared.fault.NameFault.{NameFault}
use Rattle.provides_map.specs.Pairs.{Pairs, put}
use Rattle.provides_map.specs.declared.change.Clears.{Clears}
use Rattle.provides_map.specs.declared.change.Clears.TheVariants.{All, Listed}
use Rattle.provides_map.specs.declared.change.Want.{Want}
use Rattle.artifact_meta.specs.declared.fault.MetaFault.{MetaFault}
use Rattle.artifact_meta.specs.declared.fault.MetaFault.TheVariants.{NotJson, Missing, WrongKind, BadText, NullType, NoMemory}
use Rattle.artifact_meta.specs.declared.fault.MetaFile.TheVariants as file
use Rattle.artifact_meta.specs.declared.fault.Field.{Field}
use Rattle.artifact_meta.specs.declared.fault.Field.TheVariants.{InfoTop, InfoType, InfoProvides, InfoDepends, InfoClears}
use Rattle.artifact_meta.specs.declared.info.TypeInfo.{TypeInfo}

-- The answer is what the definition gives. Want of memory is the one free answer.
abbrev pub Answers : {A : Type 0} → Result A MetaFault → Result A MetaFault → Type 0
Answers answer meant = Gives NoMemory (λ x. x) answer meant

-- ---- parts of fields

-- the JSON value of a file, if it has one
abbrev pub json_of : List ℕ → Option Data
json_of bytes = if is_utf8 bytes then read bytes else None

-- what stands there; `null` stands for nothing
abbrev pub unless_null : Data → Option Data
unless_null null = None
unless_null (boolean b) = Some (boolean b)
unless_null (number n) = Some (number n)
unless_null (string s) = Some (string s)
unless_null (array ds) = Some (array ds)
unless_null (object ms) = Some (object ms)

-- what an object has under a name, if it isn't `null`
abbrev pub present : List ℕ → Data → Option Data
present name d = option_and_then unless_null (get name d)

-- a Name or a Value, or the field's fault
abbrev pub good : Field → Result (List ℕ) NameFault → Result (List ℕ) MetaFault
good f (Ok text) = Ok text
good f (Err e) = Err (BadText f)

-- a string that `reads` takes
abbrev pub text : (List ℕ → Result (List ℕ) NameFault) → Field → Data → Result (List ℕ) MetaFault
text reads f d = ok_or (as_str d) (WrongKind f) >>= λ s. good f (reads s)

-- the strings of a list in its order, behind those found before
abbrev pub texts_after : List (List ℕ) → (List ℕ → Result (List ℕ) NameFault) → Field → Items → Result (List (List ℕ)) MetaFault
texts_after found reads f no_items = Ok found
texts_after found reads f (item d ds) = text reads f d >>= λ s. texts_after (found ++ s ∷ []) reads f ds

-- one string, or a list of strings
abbrev pub one_or_list : (List ℕ → Result (List ℕ) NameFault) → Field → Data → Option (List ℕ) → Result (List (List ℕ)) MetaFault
one_or_list reads f d (Some s) = good f (reads s) >>= λ t. Ok (t ∷ [])
one_or_list reads f d None = ok_or (as_array d) (WrongKind f) >>= λ ds. texts_after [] reads f ds

abbrev pub texts : (List ℕ → Result (List ℕ) NameFault) → Field → Data → Result (List (List ℕ)) MetaFault
texts reads f d = one_or_list reads f d (as_str d)

-- ---- type-info

-- a payload type
abbrev pub plain : Field → List ℕ → Result (List ℕ) MetaFault
plain f name = if is_plain name then Ok name else Err (BadText f)

abbrev pub kind_of : Field → Option Data → Result (List ℕ) MetaFault
kind_of f None = Err (Missing f)
kind_of f (Some d) = ok_or (unless_null d) NullType >>= λ t. text name_of f t >>= λ name. plain f name

-- the members put one after another, each a Name and a Value
abbrev pub provides_after : Pairs → Members → Result Pairs MetaFault
provides_after found no_members = Ok found
provides_after found (member k d ms) = good InfoProvides (name_of k) >>= λ key. text value_of InfoProvides d >>= λ value. provides_after (put found key value) ms

abbrev pub provides_of : Option Data → Result Pairs MetaFault
provides_of None = Ok []
provides_of (Some d) = ok_or (as_object d) (WrongKind InfoProvides) >>= λ ms. provides_after [] ms

-- no want for an empty list
abbrev pub with_want : List Want → List ℕ → List (List ℕ) → List Want
with_want found key [] = found
with_want found key (v ∷ vs) = found ++ record { key = key; allowed = v ∷ vs } ∷ []

abbrev pub wants_after : List Want → Members → Result (List Want) MetaFault
wants_after found no_members = Ok found
wants_after found (member k d ms) = good InfoDepends (name_of k) >>= λ key. texts value_of InfoDepends d >>= λ allowed. wants_after (with_want found key allowed) ms

abbrev pub wants_of : Option Data → Result (List Want) MetaFault
wants_of None = Ok []
wants_of (Some d) = ok_or (as_object d) (WrongKind InfoDepends) >>= λ ms. wants_after [] ms

abbrev pub clears_of : Option Data → Result Clears MetaFault
clears_of None = Ok All
clears_of (Some d) = texts name_of InfoClears d >>= λ patterns. Ok (Listed patterns)

unfoldable pub info_of : Data → Result TypeInfo MetaFault
info_of d =
    ok_or (as_object d) (WrongKind InfoTop) >>= λ _.
    kind_of InfoType (get (codes "type") d) >>= λ kind.
    provides_of (present (codes "artifact_provides") d) >>= λ provides.
    wants_of (present (codes "artifact_depends") d) >>= λ wants.
    clears_of (present (codes "clears_artifact_provides") d) >>= λ clears.
    Ok (record { kind = kind; provides = provides; wants = wants; clears = clears })

-- what the bytes of a type-info file say, or its first fault
unfoldable pub type_info_of : List ℕ → Result TypeInfo MetaFault
type_info_of bytes = ok_or (json_of bytes) (NotJson file.TypeInfo) >>= λ d. info_of d

-- ---- version

abbrev pub is_text : List ℕ → Option (List ℕ) → Bool
is_text wanted None = false
is_text wanted (Some s) = bytes_eq s wanted

abbrev pub is_number : ℕ → Option ℕ → Bool
is_number wanted None = false
is_number wanted (Some n) = n == wanted

-- whether the format is `mender` and the version is the number 3; only an object has these
abbrev pub has_version : Data → Bool
has_version d = is_text (codes "mender") (option_and_then as_str (get (codes "format") d)) && is_number 3 (option_and_then as_u64 (option_and_then as_number (get (codes "version") d)))

unfoldable pub version_of : List ℕ → Bool
version_of bytes = holds (json_of bytes)
  where
    holds : Option Data → Bool
    holds None = false
    holds (Some d) = has_version d
