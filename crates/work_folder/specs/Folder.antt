-- A work folder that has these files.
use Rattle.std.specs.Prelude.{◌≡◌, ◌↔◌, ℕ, List, [], ◌∷◌, ◌++◌, None}
use Rattle.std.specs.List.{AllZip, Contains}
use Rattle.std.specs.List.Sorted.{IsStrictlySortedBy}
use Rattle.sha2.specs.Sha256.{sha256}
use Rattle.upd_text.specs.Order.{byte_cmp}
use Rattle.io_model.specs.Source.{Content, bytes_at, When}
use Rattle.device_model.specs.Work.{File, Synced, Work}
use Rattle.work_folder.specs.Rows.{Row, Value, Names, Copy}

-- a newline behind each
abbrev pub lines_of : List (List ℕ) → List ℕ
lines_of [] = []
lines_of (name ∷ names) = name ++ 10 ∷ lines_of names

-- each of the names once, in byte order, a newline behind each
pub record Lists (names : List (List ℕ)) (bytes : List ℕ) : Type 0 where
  pub sorted : List (List ℕ)
  pub ascending : IsStrictlySortedBy byte_cmp sorted
  pub same : (name : List ℕ) → Contains sorted name ↔ Contains names name
  pub text : bytes ≡ lines_of sorted

-- the file has this sum, and where the source's files are told, the bytes of that one
pub record IsCopy (content : Content) (n : ℕ) (sum bytes : List ℕ) : Type 0 where
  pub summed : sha256 bytes ≡ sum
  pub same : When content (λ t. bytes ≡ bytes_at t n)

-- the file is the one that the row says
abbrev pub IsRow : Content → Row → File → Type 0
IsRow content (Value part path bytes) file = (file.part ≡ part) × (file.path ≡ path) × (file.bytes ≡ bytes)
IsRow content (Names part path names) file = (file.part ≡ part) × (file.path ≡ path) × Lists names file.bytes
IsRow content (Copy part path n sum) file = (file.part ≡ part) × (file.path ≡ path) × IsCopy content n sum file.bytes

-- exactly these files, in this order
abbrev pub IsFolder : Content → List Row → List File → Type 0
IsFolder content rows files = AllZip (IsRow content) rows files

-- the files stand there and survive a loss, and no child was started since the folder was cleared
pub record Stands (content : Content) (rows : List Row) (work : Work) : Type 0 where
  pub files : List File
  pub are : IsFolder content rows files
  pub folder : work.folder ≡ Synced files
  pub given : work.given ≡ None
