-- What a written tree says when it is admitted: exactly what its spec says.
use Rattle.std.specs.Prelude.{◌≡◌, ℕ, ◌+◌, List, [], ◌∷◌, ◌++◌, length, map, Option, Some, None, Result, Ok, Err, flat_map}
use Rattle.std.specs.List.{All, range_with_len}
use Rattle.upd_text.specs.Text.{IsName, IsValue}
use Rattle.io_model.specs.Source.{Tree}
use Rattle.sha2.specs.Sha256.{sha256}
use Rattle.provides_map.specs.Pairs.{Pairs, IsMap}
use Rattle.provides_map.specs.After.{artifact_name, artifact_group, device_type, first_unmet}
use Rattle.provides_map.specs.declared.change.Want.{Want}
use Rattle.artifact_meta.specs.Meta.{with_want}
use Rattle.artifact_meta.specs.declared.header.HeaderInfo.{HeaderInfo}
use Rattle.artifact_meta.specs.declared.info.TypeInfo.{TypeInfo}
use Rattle.manifest_sums.specs.declared.manifest.Line.{Line}
use Rattle.admit.specs.Places.{spelled}
use Rattle.admit.specs.Admit.{plan_of}
use Rattle.admit.specs.declared.admitted.Admitted.{Admitted}
use Rattle.admit.specs.declared.refusal.Refusal.{Refusal}
use Rattle.admit.specs.declared.refusal.Refusal.TheVariants.{Unmet}
use Rattle.tree_writer.specs.declared.spec.PayloadSpec.{PayloadSpec}
use Rattle.tree_writer.specs.declared.spec.TreeSpec.{TreeSpec}
use Rattle.tree_writer.specs.Order.{by_name, Named}
use Rattle.tree_writer.specs.Files.{Entry, front_entries, listed_entries, tree_of}
use Rattle.tree_writer.specs.Faults.{patterns_of}

-- ---- what the types of a spec's parts say

abbrev pub IsNameIfSome : Option (List ℕ) → Type 0
IsNameIfSome None = Unit {0}
IsNameIfSome (Some name) = IsName name

abbrev pub AreFiles : Tree → Type 0
AreFiles files = All (λ file. IsNameIfSome file.0) files

pub record IsPayload (payload : PayloadSpec) : Type 0 where
  pub kind : IsName payload.kind
  pub provides : IsMap payload.provides
  pub keys : All (λ want. IsName want.key) payload.wants
  pub allowed : All (λ want. All IsValue want.allowed) payload.wants
  pub patterns : All IsName (patterns_of payload.clears)
  pub files : AreFiles payload.files

pub record IsSpec (spec : TreeSpec) : Type 0 where
  pub name : IsName spec.name
  pub group : IsNameIfSome spec.group
  pub device_types : All IsValue spec.device_types
  pub needs_names : All IsValue spec.needs_names
  pub needs_groups : All IsValue spec.needs_groups
  pub payloads : All IsPayload spec.payloads
  pub scripts : AreFiles spec.scripts

-- ---- the plan

-- the device's type first, then the names and the groups that it may follow, where there are any
abbrev pub header_wants : TreeSpec → List Want
header_wants spec = with_want (with_want (record { key = device_type; allowed = spec.device_types } ∷ []) artifact_name spec.needs_names) artifact_group spec.needs_groups

abbrev pub wants_of : TreeSpec → List Want
wants_of spec = header_wants spec ++ flat_map (λ payload. payload.wants) spec.payloads

abbrev pub header_of : TreeSpec → HeaderInfo
header_of spec = record { kinds = map (λ payload. payload.kind) spec.payloads; name = spec.name; group = spec.group; wants = header_wants spec }

abbrev pub info_of : PayloadSpec → TypeInfo
info_of payload = record { kind = payload.kind; provides = payload.provides; wants = payload.wants; clears = payload.clears }

-- a file's path and its sum
abbrev pub line_of : Entry → Line
line_of entry = record { path = spelled entry.0; sum = sha256 entry.1 }

-- the indexes of the files that are listed: all but the manifest, which is the last but one
abbrev pub numbers_of : TreeSpec → List ℕ
numbers_of spec = range_with_len 0 (length (front_entries spec)) ++ (length (front_entries spec) + 1) ∷ []

abbrev pub names_of : List Named → List (List ℕ)
names_of files = map (λ file. file.0) files

abbrev pub plan_for : TreeSpec → Admitted
plan_for spec = record {
  manifest = map line_of (listed_entries spec);
  numbers = numbers_of spec;
  header = header_of spec;
  infos = map info_of spec.payloads;
  scripts = names_of (by_name spec.scripts);
}

-- the first want that isn't met, else the plan
abbrev pub unless_unmet : Option (List ℕ) → Admitted → Result Admitted Refusal
unless_unmet None plan = Ok plan
unless_unmet (Some key) plan = Err (Unmet key)

-- on every device and over all that it holds the tree is admitted as its spec says, unless a want isn't met
abbrev pub IsAdmitted : TreeSpec → Type 0
IsAdmitted spec = (type : List ℕ) (held : Pairs) → plan_of (tree_of spec) type held ≡ unless_unmet (first_unmet (wants_of spec) type held) (plan_for spec)
