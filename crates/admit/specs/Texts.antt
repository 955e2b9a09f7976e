-- The texts of refusals: the number, and behind it what it is about.
use Rattle.std.specs.Prelude.{ℕ, ◌==◌, if◌then◌else◌, List, [], ◌++◌, codes}
use Rattle.std.specs.Fmt.{decimal}
use Rattle.hex.specs.Hex.{encode_lower}
use Rattle.artifact_meta.specs.declared.fault.Field.{Field}
use Rattle.artifact_meta.specs.declared.fault.Field.TheVariants.{HeaderTop, Payloads, PayloadType, HeaderProvides, ArtifactName, ArtifactGroup, HeaderDepends, DeviceType, DependsName, DependsGroup, InfoTop, InfoType, InfoProvides, InfoDepends, InfoClears}
use Rattle.artifact_meta.specs.declared.fault.MetaFile.{MetaFile}
use Rattle.artifact_meta.specs.declared.fault.MetaFile.TheVariants.{HeaderInfo, TypeInfo}
use Rattle.artifact_meta.specs.declared.fault.MetaFault.{MetaFault}
use Rattle.artifact_meta.specs.declared.fault.MetaFault.TheVariants as meta
use Rattle.manifest_sums.specs.declared.manifest.ManifestFault.{ManifestFault}
use Rattle.manifest_sums.specs.declared.manifest.ManifestFault.TheVariants as sums
use Rattle.admit.specs.Table.{path_of}
use Rattle.admit.specs.declared.refusal.Differs.{Differs}
use Rattle.admit.specs.declared.refusal.Refusal.{Refusal}
use Rattle.admit.specs.declared.refusal.Refusal.TheVariants.{TooManyFiles, Augmented, BadPath, DoubledPath, NoFile, HeaderTooLong, Manifest, NotListed, Absent, SumDiffers, BadVersion, Meta, BadScriptName, TooManyScripts, Unmet, PayloadDiffers, NoTypeInfo, NoSuchPayload}

-- the number of a field of the metadata files, in the order in which they are read
abbrev pub field_number : Field → ℕ
field_number HeaderTop = 1
field_number Payloads = 2
field_number PayloadType = 3
field_number HeaderProvides = 4
field_number ArtifactName = 5
field_number ArtifactGroup = 6
field_number HeaderDepends = 7
field_number DeviceType = 8
field_number DependsName = 9
field_number DependsGroup = 10
field_number InfoTop = 11
field_number InfoType = 12
field_number InfoProvides = 13
field_number InfoDepends = 14
field_number InfoClears = 15

abbrev pub file_number : MetaFile → ℕ
file_number HeaderInfo = 1
file_number TypeInfo = 2

abbrev pub about_manifest : ManifestFault → List ℕ
about_manifest (sums.BadLine line) = codes "1 " ++ decimal line
about_manifest (sums.Doubled line) = codes "2 " ++ decimal line
about_manifest (sums.PackedHeader line) = codes "3 " ++ decimal line
about_manifest sums.TooMany = codes "4"
about_manifest sums.NoMemory = codes "5"

abbrev pub about_meta : MetaFault → List ℕ
about_meta (meta.NotJson file) = codes "1 " ++ decimal (file_number file)
about_meta (meta.Missing field) = codes "2 " ++ decimal (field_number field)
about_meta (meta.WrongKind field) = codes "3 " ++ decimal (field_number field)
about_meta (meta.BadText field) = codes "4 " ++ decimal (field_number field)
about_meta (meta.PayloadCount count) = codes "5 " ++ decimal count
about_meta meta.NullType = codes "6"
about_meta meta.TypeDiffers = codes "7"
about_meta meta.NoMemory = codes "8"

-- behind it the payload whose type-info it is, unless that is payload 0
abbrev pub of_payload : ℕ → List ℕ
of_payload payload = if payload == 0 then [] else codes " " ++ decimal payload

-- the path, the listed sum and the found one
abbrev pub about_sums : Differs → List ℕ
about_sums d = d.path ++ codes " " ++ encode_lower d.listed ++ codes " " ++ encode_lower d.found

unfoldable pub refused : Refusal → List ℕ
refused (TooManyFiles count) = codes "refused 3 " ++ decimal count
refused (Augmented index) = codes "refused 4 " ++ decimal index
refused (BadPath index) = codes "refused 5 " ++ decimal index
refused (DoubledPath index) = codes "refused 6 " ++ decimal index
refused (NoFile which) = codes "refused 7 " ++ path_of which
refused (HeaderTooLong path) = codes "refused 8 " ++ path
refused (Manifest fault) = codes "refused 9 " ++ about_manifest fault
refused (NotListed path) = codes "refused 10 " ++ path
refused (Absent path) = codes "refused 11 " ++ path
refused (SumDiffers differs) = codes "refused 12 " ++ about_sums differs
refused BadVersion = codes "refused 13"
refused (Meta fault payload) = codes "refused 14 " ++ about_meta fault ++ of_payload payload
refused (BadScriptName path) = codes "refused 15 " ++ path
refused (TooManyScripts count) = codes "refused 16 " ++ decimal count
refused (Unmet key) = codes "refused 17 " ++ key
refused (PayloadDiffers differs) = codes "refused 18 " ++ about_sums differs
refused (NoTypeInfo payload) = codes "refused 19 " ++ decimal payload
refused (NoSuchPayload path) = codes "refused 20 " ++ path
