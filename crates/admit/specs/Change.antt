-- What an admitted artifact changes.
use Rattle.std.specs.Prelude.{ℕ, Bool, true, false, if◌then◌else◌, List, [], ◌∷◌, fold}
use Rattle.std.specs.List.{list_any, flat_map}
use Rattle.provides_map.specs.Pairs.{Pairs, put_all}
use Rattle.provides_map.specs.declared.change.Change.{Change}
use Rattle.provides_map.specs.declared.change.Clears.{Clears}
use Rattle.provides_map.specs.declared.change.Clears.TheVariants.{All, Listed}
use Rattle.artifact_meta.specs.declared.info.TypeInfo.{TypeInfo}
use Rattle.admit.specs.declared.admitted.Admitted.{Admitted}

-- the provides of all payloads, each over those of the payloads before it
abbrev pub provides_of : List TypeInfo → Pairs
provides_of infos = fold (λ found info. put_all found info.provides) [] infos

abbrev pub is_all : Clears → Bool
is_all All = true
is_all (Listed patterns) = false

abbrev pub patterns_of : Clears → List (List ℕ)
patterns_of All = []
patterns_of (Listed patterns) = patterns

-- all where some payload clears all, else the patterns of all payloads in order
abbrev pub clears_of : List TypeInfo → Clears
clears_of infos = if list_any (λ info. is_all info.clears) infos then All else Listed (flat_map (λ info. patterns_of info.clears) infos)

abbrev pub change_of : Admitted → Change
change_of admitted = record { name = admitted.header.name; group = admitted.header.group; provides = provides_of admitted.infos; clears = clears_of admitted.infos }
