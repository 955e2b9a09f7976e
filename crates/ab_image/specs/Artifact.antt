-- What the files of an artifact say of its image.
use Rattle.std.specs.Prelude.{ℕ, nat_eq, nat_lt, Bool, false, if◌then◌else◌, List, length, filter, find, codes, Option, None, option_map, option_and_then}
use Rattle.std.specs.List.{starts_with}
use Rattle.std.specs.Str.{bytes_eq}
use Rattle.std.specs.Option.{option_map_or}
use Rattle.std.specs.Result.{result_ok}
use Rattle.io_model.specs.Source.{File, Tree}
use Rattle.provides_map.specs.Pairs.{get}
use Rattle.manifest_sums.specs.Manifest.{sum_of}
use Rattle.ab_image.specs.declared.artifact.TheConstants.{MOST}
use Rattle.artifact_meta.specs.declared.info.TypeInfo.{TypeInfo}
use Rattle.artifact_meta.specs.Meta.{type_info_of}

-- a path that begins with `files/`
abbrev pub is_image_path : Option (List ℕ) → Bool
is_image_path path = option_map_or (λ p. starts_with nat_eq p (codes "files/")) path false

abbrev pub is_image : File → Bool
is_image file = is_image_path file.0

abbrev pub count_images : Tree → ℕ
count_images tree = length (filter is_image tree)

-- the bytes of the first image
abbrev pub image_of : Tree → Option (List ℕ)
image_of tree = option_map (λ (f : File). f.1) (find is_image tree)

abbrev pub is_type_info_path : Option (List ℕ) → Bool
is_type_info_path path = option_map_or (λ p. bytes_eq p (codes "header/type-info")) path false

abbrev pub is_type_info : File → Bool
is_type_info file = is_type_info_path file.0

-- the sum that the provides of a type-info list
abbrev pub sum_listed : TypeInfo → Option (List ℕ)
sum_listed info = option_and_then sum_of (get info.provides (codes "rootfs-image.checksum"))

-- the sum that these bytes list, unless they are too many or no type-info
unfoldable pub listed_in : List ℕ → Option (List ℕ)
listed_in bytes = if nat_lt MOST (length bytes) then None else option_and_then sum_listed (result_ok (type_info_of bytes))

-- the sum that an artifact lists for its image
abbrev pub listed : Tree → Option (List ℕ)
listed tree = option_and_then (λ (f : File). listed_in f.1) (find is_type_info tree)
