-- The files of the work folder.
use Rattle.std.specs.Prelude.{ℕ, zero, suc, ◌+◌, ◌==◌, Bool, if◌then◌else◌, List, [], ◌∷◌, ◌++◌, length, codes, Option, Some, None, find}
use Rattle.std.specs.List.{filter, filter_map, cons_option}
use Rattle.std.specs.Option.{option_map, is_some}
use Rattle.std.specs.Str.{bytes_eq}
use Rattle.device_model.specs.declared.calls.Part.{Part}
use Rattle.device_model.specs.declared.calls.Part.TheVariants.{Tree, Scripts}
use Rattle.manifest_sums.specs.declared.manifest.Line.{Line}
use Rattle.provides_map.specs.Pairs.{Pairs, get}
use Rattle.provides_map.specs.After.{artifact_name, artifact_group}
use Rattle.script_names.specs.declared.site.Site.{Site}
use Rattle.admit.specs.declared.admitted.Admitted.{Admitted}
use Rattle.admit.specs.Places.{place_of, spelled, payload_at, script_at}
use Rattle.admit.specs.declared.place.TreePlace.TheVariants.{TypeInfo, MetaData}
use Rattle.admit.specs.Differing.{Listed, listed_of}
use Rattle.work_folder.specs.declared.groups.Group.{Group}
use Rattle.work_folder.specs.declared.groups.Group.TheVariants as group

-- what stands in a file of the folder, behind its part and its path
pub data Row : Type 0 where
  Value : Part → List ℕ → List ℕ → Row  -- these bytes
  Names : Part → List ℕ → List (List ℕ) → Row  -- these names in byte order, a newline behind each
  Copy : Part → List ℕ → ℕ → List ℕ → Row  -- the source's file with this index, whose sum this is

abbrev pub or_nothing : Option (List ℕ) → List ℕ
or_nothing None = []
or_nothing (Some text) = text

-- the name of a payload's file, where the payload is this one
abbrev pub name_in : ℕ → Option (ℕ × List ℕ) → Option (List ℕ)
name_in k None = None
name_in k (Some file) = if file.0 == k then Some file.1 else None

-- the names of the files of payload k
abbrev pub payload_names : ℕ → List Line → List (List ℕ)
payload_names k lines = filter_map (λ line. name_in k (payload_at (place_of line.path))) lines

-- where a file of a payload, or a script, goes
abbrev pub target_of : Group → List ℕ → Option (Part × List ℕ)
target_of group.Payload path = option_map (λ file. (Tree file.0, codes "files/" ++ file.1)) (payload_at (place_of path))
target_of group.Scripts path = option_map (λ name. (Scripts, name)) (script_at (place_of path))

-- whether a line's file goes there with the group
abbrev pub is_in : Group → Listed → Bool
is_in group.Payload l = is_some (payload_at (place_of l.0.path))
is_in group.Scripts l = is_some (script_at (place_of l.0.path))

abbrev pub copied_to : Listed → Part × List ℕ → Row
copied_to listed place = Copy place.0 place.1 listed.1 listed.0.sum

abbrev pub row_in : Group → Listed → Option Row
row_in g listed = option_map (copied_to listed) (target_of g listed.0.path)

abbrev pub copied_or_empty : ℕ → List ℕ → Option Listed → Row
copied_or_empty k path None = Value (Tree k) path []
copied_or_empty k path (Some listed) = Copy (Tree k) path listed.1 listed.0.sum

-- a copy of the file with that path, or nothing where no line has it, for payload k
abbrev pub header_row : ℕ → List ℕ → List ℕ → List Listed → Row
header_row k path from listed = copied_or_empty k path (find (λ l. bytes_eq l.0.path from) listed)

-- the header of payload k, and the list of its files
abbrev pub header_rows : Admitted → ℕ → List Row
header_rows plan k =
    header_row k (codes "header/header-info") (codes "header/header-info") (listed_of plan)
    ∷ Names (Tree k) (codes "header/files") (payload_names k plan.manifest)
    ∷ header_row k (codes "header/type-info") (spelled (TypeInfo k)) (listed_of plan)
    ∷ header_row k (codes "header/meta-data") (spelled (MetaData k)) (listed_of plan)
    ∷ []

-- the files in the folder of payload k, which has this type, but for its own files
abbrev pub payload_rows : Site → Pairs → Admitted → ℕ → List ℕ → List Row
payload_rows site held plan k kind =
    Value (Tree k) (codes "version") (codes "3")
    ∷ Value (Tree k) (codes "current_artifact_name") (or_nothing (get held artifact_name))
    ∷ Value (Tree k) (codes "current_artifact_group") (or_nothing (get held artifact_group))
    ∷ Value (Tree k) (codes "current_device_type") site.device_type
    ∷ Value (Tree k) (codes "header/artifact_name") plan.header.name
    ∷ Value (Tree k) (codes "header/artifact_group") (or_nothing plan.header.group)
    ∷ Value (Tree k) (codes "header/payload_type") kind
    ∷ header_rows plan k

-- those of the payloads of these types, the first of which is payload k
abbrev pub payloads_rows : Site → Pairs → Admitted → ℕ → List (List ℕ) → List Row
payloads_rows site held plan k [] = []
payloads_rows site held plan k (kind ∷ kinds) = payload_rows site held plan k kind ++ payloads_rows site held plan (k + 1) kinds

-- all files of the folder, in order
abbrev pub rows_of : Site → Pairs → Admitted → List Row
rows_of site held plan =
    payloads_rows site held plan 0 plan.header.kinds
    ++ (filter_map (row_in group.Payload) (listed_of plan) ++ filter_map (row_in group.Scripts) (listed_of plan))

-- ---- the lines whose files are copied, in the order of the copies

-- the line of a path, if there is one
abbrev pub line_with : List ℕ → List Listed → List Listed
line_with path listed = cons_option (find (λ l. bytes_eq l.0.path path) listed) []

-- the lines of the header of payload k
abbrev pub header_lines : ℕ → List Listed → List Listed
header_lines k listed = line_with (codes "header/header-info") listed ++ (line_with (spelled (TypeInfo k)) listed ++ line_with (spelled (MetaData k)) listed)

-- those of n payloads, the first of which is payload k
abbrev pub headers_lines : ℕ → ℕ → List Listed → List Listed
headers_lines k zero listed = []
headers_lines k (suc n) listed = header_lines k listed ++ headers_lines (k + 1) n listed

-- the lines of the payloads, or of the scripts
abbrev pub group_lines : Group → List Listed → List Listed
group_lines g listed = filter (is_in g) listed

abbrev pub copied_of : Admitted → List Listed
copied_of plan = headers_lines 0 (length plan.header.kinds) (listed_of plan) ++ (group_lines group.Payload (listed_of plan) ++ group_lines group.Scripts (listed_of plan))
