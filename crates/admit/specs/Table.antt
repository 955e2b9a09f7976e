-- What the paths and lengths of the files decide: refusals 3 to 8.
use Rattle.std.specs.Prelude.{ℕ, ◌<◌, ◌≤◌, ◌&&◌, nat_lt, not, Bool, false, if◌then◌else◌, List, length, take, codes, Option, Some, None, Result, Ok, Err, IsSome, map, position, fold, slice_get, slice_index_or}
use Rattle.std.specs.List.{list_any, filter_map, enumerate_from}
use Rattle.std.specs.Option.{ok_or, option_map, option_and_then}
use Rattle.std.specs.Str.{bytes_eq}
use Rattle.upd_text.specs.Order.{is_below}
use Rattle.io_model.specs.Source.{Tree}
use Rattle.upd_text.specs.Results.{◌>>=◌}
use Rattle.admit.specs.Places.{place_of, place_at, is_allowed, is_barred, is_header, info_at}
use Rattle.admit.specs.declared.table.Places.{Places}
use Rattle.admit.specs.declared.refusal.Refusal.{Refusal}
use Rattle.admit.specs.declared.refusal.Refusal.TheVariants.{TooManyFiles, Augmented, BadPath, DoubledPath, NoFile, HeaderTooLong}
use Rattle.admit.specs.declared.refusal.Which.{Which}
use Rattle.admit.specs.declared.refusal.Which.TheVariants as which

-- refused, where there is something to refuse
abbrev pub unless : Option Refusal → Result (Unit {0}) Refusal
unless None = Ok tt
unless (Some refusal) = Err refusal

-- the first thing that f gives of the items
abbrev pub first_some : {A B : Type 0} → (A → Option B) → List A → Option B
first_some f xs = slice_get (filter_map f xs) 0

-- ---- the table

-- a file's path, where it is a name, and its length
pub record FileHead : Type 0 where
  pub path : Option (List ℕ)
  pub length : ℕ

-- those of all files
abbrev pub heads_of : Tree → List FileHead
heads_of t = map (λ file. record { path = file.0; length = length file.1 }) t

abbrev pub is_named : List ℕ → Option (List ℕ) → Bool
is_named path None = false
is_named path (Some name) = bytes_eq name path

-- whether the file has the path
abbrev pub has_path : List ℕ → FileHead → Bool
has_path path head = is_named path head.path

-- the index of the first file with the path
abbrev pub place_in : List FileHead → List ℕ → Option ℕ
place_in heads path = position (has_path path) heads

-- ---- 3, the number of files

unfoldable pub too_many : List FileHead → Option Refusal
too_many heads = if nat_lt 256 (length heads) then Some (TooManyFiles (length heads)) else None

-- ---- 4 to 6, the paths

-- why the path behind those of the earlier files is refused
unfoldable pub bad_path : List FileHead → Option (List ℕ) → Option Refusal
bad_path earlier None = Some (BadPath (length earlier))
bad_path earlier (Some path) = if is_barred (place_of path) then Some (Augmented (length earlier)) else (if not (is_allowed (place_of path)) then Some (BadPath (length earlier)) else (if list_any (has_path path) earlier then Some (DoubledPath (length earlier)) else None))

-- the refusal at the least index at which there is one
unfoldable pub first_bad_path : List FileHead → Option Refusal
first_bad_path heads = first_some (λ file. bad_path (take file.0 heads) file.1.path) (enumerate_from 0 heads)

-- ---- 7, the files that must be there

abbrev pub path_of : Which → List ℕ
path_of which.Version = codes "version"
path_of which.Manifest = codes "manifest"
path_of which.HeaderInfo = codes "header/header-info"
path_of which.TypeInfo = codes "header/headers/0000/type-info"

-- where it is
unfoldable pub needed : List FileHead → Which → Result ℕ Refusal
needed heads w = ok_or (place_in heads (path_of w)) (NoFile w)

-- ---- 8, the lengths

-- the path, where the file is to be read whole and is too long for it
abbrev pub long_path : Option (List ℕ) → ℕ → Option (List ℕ)
long_path None len = None
long_path (Some path) len = if nat_lt 65536 len && is_header (place_of path) then Some path else None

abbrev pub lesser : Option (List ℕ) → List ℕ → Option (List ℕ)
lesser None path = Some path
lesser (Some least) path = if is_below path least then Some path else Some least

-- the first in byte order
abbrev pub least : List (List ℕ) → Option (List ℕ)
least paths = fold lesser None paths

unfoldable pub too_long : List FileHead → Option Refusal
too_long heads = option_map HeaderTooLong (least (filter_map (λ head. long_path head.path head.length) heads))

-- ---- 4 to 8

-- an index of the table, of a file that isn't too long
pub record IsShortAt (heads : List FileHead) (i : ℕ) : Type 0 where
  pub within : i < length heads
  pub short : (d : FileHead) → (slice_index_or heads i d).length ≤ 65536

-- the payload whose type-info stands at this index
abbrev pub info_in : List FileHead → ℕ → Option ℕ
info_in heads i = option_and_then (λ head. info_at (place_at head.path)) (slice_get heads i)

pub record AreIn (heads : List FileHead) (places : Places) : Type 0 where
  pub version : IsShortAt heads places.version
  pub manifest : IsShortAt heads places.manifest
  pub header_info : IsShortAt heads places.header_info
  pub type_infos : (i : ℕ) → IsSome (info_in heads i) → IsShortAt heads i

-- where the files are that must be there
unfoldable pub table_of : List FileHead → Result Places Refusal
table_of heads =
    unless (first_bad_path heads) >>= λ _.
    needed heads which.Version >>= λ version.
    needed heads which.Manifest >>= λ manifest.
    needed heads which.HeaderInfo >>= λ header_info.
    needed heads which.TypeInfo >>= λ _.
    unless (too_long heads) >>= λ _.
    Ok (record { version = version; manifest = manifest; header_info = header_info })
