-- The causes for which no tree is written, as one table. The answer is the first row that tells something, else the tree.
use Rattle.std.specs.Prelude.{ℕ, suc, ◌-◌, ◌^◌, ◌&&◌, nat_le, nat_lt, min, Bool, true, false, not, if◌then◌else◌, List, [], ◌∷◌, ◌++◌, length, map, Option, Some, None, position, Result, Ok, Err}
use Rattle.std.specs.List.{list_any, list_all, filter_map}
use Rattle.std.specs.Option.{option_map, option_or}
use Rattle.std.specs.Str.{bytes_eq, is_utf8}
use Rattle.upd_text.specs.Order.{is_below}
use Rattle.upd_text.specs.Parts.{is_plain}
use Rattle.upd_text.specs.Results.{◌>>=◌}
use Rattle.io_model.specs.Source.{Tree}
use Rattle.provides_map.specs.Pairs.{Pairs}
use Rattle.provides_map.specs.declared.change.Clears.{Clears}
use Rattle.provides_map.specs.declared.change.Clears.TheVariants.{All, Listed}
use Rattle.provides_map.specs.declared.change.Want.{Want}
use Rattle.artifact_meta.specs.declared.fault.Field.{Field}
use Rattle.artifact_meta.specs.declared.fault.Field.TheVariants.{PayloadType, ArtifactName, ArtifactGroup, DeviceType, DependsName, DependsGroup, InfoProvides, InfoDepends, InfoClears}
use Rattle.artifact_meta.specs.Header.{is_payload_count}
use Rattle.script_names.specs.Scripts.{is_artifact_script}
use Rattle.admit.specs.Table.{heads_of, least, lesser, long_path}
use Rattle.tree_writer.specs.declared.fault.WriteFault.{WriteFault}
use Rattle.tree_writer.specs.declared.fault.WriteFault.TheVariants.{PayloadCount, BadKind, BadFile, BadScript, TooManyScripts, BadWant, NotText, TooManyFiles, HeaderTooLong}
use Rattle.tree_writer.specs.declared.spec.PayloadSpec.{PayloadSpec}
use Rattle.tree_writer.specs.declared.spec.TreeSpec.{TreeSpec}
use Rattle.tree_writer.specs.declared.checks.Names.{Names}
use Rattle.tree_writer.specs.declared.checks.Names.TheVariants.{Files, Scripts}
use Rattle.tree_writer.specs.Files.{tree_of}

-- a number, or the greatest of 32 bits
abbrev pub capped : ℕ → ℕ
capped n = min n (2 ^ 32 - 1)

-- ---- 1 and 2, the payloads

abbrev pub bad_count : ℕ → Option WriteFault
bad_count count = if is_payload_count count then None else Some (PayloadCount count)

abbrev pub bad_kind : List PayloadSpec → Option WriteFault
bad_kind payloads = option_map BadKind (position (λ payload. not (is_plain payload.kind)) payloads)

-- ---- 3 and 4, the names of files and scripts

abbrev pub FilePath : Type 0
FilePath = Option (List ℕ)

abbrev pub same_path : List ℕ → FilePath → Bool
same_path name None = false
same_path name (Some path) = bytes_eq name path

-- a name that the test takes, and that of no earlier file
abbrev pub is_fresh : (List ℕ → Bool) → List FilePath → FilePath → Bool
is_fresh test earlier None = false
is_fresh test earlier (Some name) = test name && not (list_any (same_path name) earlier)

-- the index of the first file whose path isn't such, behind those before
abbrev pub first_stale : (List ℕ → Bool) → List FilePath → Tree → Option ℕ
first_stale test earlier [] = None
first_stale test earlier (file ∷ files) = if is_fresh test earlier file.0 then first_stale test (earlier ++ file.0 ∷ []) files else Some (length earlier)

-- `data/000K/` and the name are at most 128 bytes
abbrev pub longest_file : ℕ
longest_file = 118

-- `header/scripts/` and the name are at most 128 bytes
abbrev pub longest_script : ℕ
longest_script = 113

abbrev pub is_file_name : List ℕ → Bool
is_file_name name = is_plain name && nat_le (length name) longest_file

abbrev pub is_script_name : List ℕ → Bool
is_script_name name = is_artifact_script name && nat_le (length name) longest_script

abbrev pub test_of : Names → List ℕ → Bool
test_of Files = is_file_name
test_of Scripts = is_script_name

abbrev pub paths_of : Tree → List FilePath
paths_of files = map (λ file. file.0) files

-- the first of these payloads with a bad file, of which the first is number k
abbrev pub bad_file : ℕ → List PayloadSpec → Option WriteFault
bad_file k [] = None
bad_file k (payload ∷ payloads) = option_or (option_map (BadFile k) (first_stale (test_of Files) [] payload.files)) (bad_file (suc k) payloads)

abbrev pub bad_script : Tree → Option WriteFault
bad_script scripts = option_map BadScript (first_stale (test_of Scripts) [] scripts)

-- ---- 5, the number of scripts

abbrev pub most_scripts : ℕ
most_scripts = 64

abbrev pub too_many_scripts : ℕ → Option WriteFault
too_many_scripts count = if nat_lt most_scripts count then Some (TooManyScripts count) else None

-- ---- 6, the wants of the payloads

-- something is allowed, and the key is above the last one, which is empty before the first
abbrev pub is_next_want : List ℕ → Want → Bool
is_next_want last want = nat_lt 0 (length want.allowed) && is_below last want.key

-- the index of the first want that isn't such, where i are before it
abbrev pub first_bad_want : ℕ → List ℕ → List Want → Option ℕ
first_bad_want i last [] = None
first_bad_want i last (want ∷ wants) = if is_next_want last want then first_bad_want (suc i) want.key wants else Some i

abbrev pub bad_want : ℕ → List PayloadSpec → Option WriteFault
bad_want k [] = None
bad_want k (payload ∷ payloads) = option_or (option_map (BadWant k) (first_bad_want 0 [] payload.wants)) (bad_want (suc k) payloads)

-- ---- 7, the texts of the fields

abbrev pub are_text : List (List ℕ) → Bool
are_text texts = list_all is_utf8 texts

abbrev pub group_is_text : Option (List ℕ) → Bool
group_is_text None = true
group_is_text (Some group) = is_utf8 group

abbrev pub pairs_are_text : Pairs → Bool
pairs_are_text pairs = list_all (λ pair. is_utf8 pair.0 && is_utf8 pair.1) pairs

abbrev pub wants_are_text : List Want → Bool
wants_are_text wants = list_all (λ want. is_utf8 want.key && are_text want.allowed) wants

abbrev pub patterns_of : Clears → List (List ℕ)
patterns_of All = []
patterns_of (Listed patterns) = patterns

-- the fields in the order in which they are read, each with whether its texts are UTF-8: first those of header-info
abbrev pub header_tests : TreeSpec → List (Field × Bool)
header_tests spec =
    (PayloadType, list_all (λ payload. is_utf8 payload.kind) spec.payloads)
    ∷ (ArtifactName, is_utf8 spec.name)
    ∷ (ArtifactGroup, group_is_text spec.group)
    ∷ (DeviceType, are_text spec.device_types)
    ∷ (DependsName, are_text spec.needs_names)
    ∷ (DependsGroup, are_text spec.needs_groups)
    ∷ []

-- and then those of the type-infos, each over all payloads
abbrev pub info_tests : List PayloadSpec → List (Field × Bool)
info_tests payloads =
    (InfoProvides, list_all (λ payload. pairs_are_text payload.provides) payloads)
    ∷ (InfoDepends, list_all (λ payload. wants_are_text payload.wants) payloads)
    ∷ (InfoClears, list_all (λ payload. are_text (patterns_of payload.clears)) payloads)
    ∷ []

abbrev pub field_tests : TreeSpec → List (Field × Bool)
field_tests spec = header_tests spec ++ info_tests spec.payloads

abbrev pub first_failed : List (Field × Bool) → Option Field
first_failed [] = None
first_failed (row ∷ rows) = if row.1 then first_failed rows else Some row.0

abbrev pub not_text : TreeSpec → Option WriteFault
not_text spec = option_map NotText (first_failed (field_tests spec))

-- ---- 8 and 9, the size

abbrev pub most_files : ℕ
most_files = 256

abbrev pub too_many_files : ℕ → Option WriteFault
too_many_files count = if nat_lt most_files count then Some (TooManyFiles (capped count)) else None

-- the rule by which a tree is refused
abbrev pub too_long : Tree → Option WriteFault
too_long tree = option_map HeaderTooLong (least (filter_map (λ head. long_path head.path head.length) (heads_of tree)))

-- the lesser of a path and another one, where there is one
abbrev pub least_of : Option (List ℕ) → Option (List ℕ) → Option (List ℕ)
least_of least None = least
least_of least (Some path) = lesser least path

-- ---- the table

-- the payloads' number and types, and the names of files and scripts
abbrev pub name_causes : TreeSpec → List (Option WriteFault)
name_causes spec =
    bad_count (length spec.payloads)
    ∷ bad_kind spec.payloads
    ∷ bad_file 0 spec.payloads
    ∷ bad_script spec.scripts
    ∷ too_many_scripts (length spec.scripts)
    ∷ []

-- what is wanted, the texts, and the number of the tree's files
abbrev pub field_causes : TreeSpec → List (Option WriteFault)
field_causes spec =
    bad_want 0 spec.payloads
    ∷ not_text spec
    ∷ too_many_files (length (tree_of spec))
    ∷ []

-- the rows that the spec decides
abbrev pub spec_causes : TreeSpec → List (Option WriteFault)
spec_causes spec = name_causes spec ++ field_causes spec

-- all rows
abbrev pub causes : TreeSpec → List (Option WriteFault)
causes spec = spec_causes spec ++ too_long (tree_of spec) ∷ []

-- the first row that tells something
abbrev pub first_of : List (Option WriteFault) → Option WriteFault
first_of [] = None
first_of (row ∷ rows) = option_or row (first_of rows)

abbrev pub unless : Option WriteFault → Result (Unit {0}) WriteFault
unless None = Ok tt
unless (Some fault) = Err fault

-- the first cause, or the tree
unfoldable pub written_tree : TreeSpec → Result Tree WriteFault
written_tree spec = unless (first_of (causes spec)) >>= λ _. Ok (tree_of spec)
