-- The files of the written tree, in byte order of their paths.
use Rattle.std.specs.Prelude.{ℕ, suc, List, [], ◌∷◌, ◌++◌, codes, map, Some, flat_map}
use Rattle.std.specs.Option.{unwrap_or}
use Rattle.sha2.specs.Sha256.{sha256}
use Rattle.hex.specs.Hex.{encode_lower}
use Rattle.io_model.specs.Source.{File, Tree}
use Rattle.admit.specs.Places.{spelled}
use Rattle.admit.specs.declared.place.TreePlace.{TreePlace}
use Rattle.admit.specs.declared.place.TreePlace.TheVariants.{Version, Manifest, HeaderInfo, TypeInfo, Script, Payload}
use Rattle.tree_writer.specs.declared.spec.PayloadSpec.{PayloadSpec}
use Rattle.tree_writer.specs.declared.spec.TreeSpec.{TreeSpec}
use Rattle.tree_writer.specs.Order.{Named, by_name}
use Rattle.tree_writer.specs.Texts.{version_text, header_text, info_text}

-- a place, and the bytes that stand there
abbrev pub Entry : Type 0
Entry = TreePlace × List ℕ

-- as a file
abbrev pub as_file : Entry → File
as_file entry = (Some (spelled entry.0), entry.1)

-- ---- what stands where

abbrev pub payload_entry : ℕ → Named → Entry
payload_entry k file = (Payload k file.0, file.1)

-- the files of payload k
abbrev pub payload_entries : ℕ → Tree → List Entry
payload_entries k files = map (payload_entry k) (by_name files)

-- the files of these payloads, of which the first is number k
abbrev pub data_entries : ℕ → List PayloadSpec → List Entry
data_entries k [] = []
data_entries k (payload ∷ payloads) = payload_entries k payload.files ++ data_entries (suc k) payloads

abbrev pub info_entries : ℕ → List PayloadSpec → List Entry
info_entries k [] = []
info_entries k (payload ∷ payloads) = (TypeInfo k, info_text payload) ∷ info_entries (suc k) payloads

abbrev pub script_entry : Named → Entry
script_entry file = (Script file.0, file.1)

abbrev pub script_entries : Tree → List Entry
script_entries scripts = map script_entry (by_name scripts)

-- all that comes before the manifest
abbrev pub front_entries : TreeSpec → List Entry
front_entries spec =
    data_entries 0 spec.payloads
    ++ ((HeaderInfo, header_text spec) ∷ []
    ++ (info_entries 0 spec.payloads
    ++ script_entries spec.scripts))

abbrev pub version_entry : Entry
version_entry = (Version, version_text)

-- all that the manifest lists, in its order
abbrev pub listed_entries : TreeSpec → List Entry
listed_entries spec = front_entries spec ++ version_entry ∷ []

-- ---- the manifest

abbrev pub line_text : Entry → List ℕ
line_text entry = encode_lower (sha256 entry.1) ++ codes "  " ++ spelled entry.0 ++ 10 ∷ []

abbrev pub manifest_text : List Entry → List ℕ
manifest_text entries = flat_map line_text entries

-- ---- the tree

abbrev pub entries_of : TreeSpec → List Entry
entries_of spec = front_entries spec ++ (Manifest, manifest_text (listed_entries spec)) ∷ version_entry ∷ []

unfoldable pub tree_of : TreeSpec → Tree
tree_of spec = map as_file (entries_of spec)

-- a file's line of the manifest
abbrev pub file_line : File → List ℕ
file_line file = encode_lower (sha256 file.1) ++ codes "  " ++ unwrap_or file.0 [] ++ 10 ∷ []
